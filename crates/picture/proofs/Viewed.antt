-- What each older viewer's checks come to, one viewer at a time; above this, nothing asks which viewer it is.
-- Assumes nothing.
use mathlib.Core.Path.{◌≡◌}
use mathlib.Core.Bool.{true}
use mathlib.Core.List.{List}
use Prim.Native.Nat.{ℕ}
use lib.Dec.{T as So}
use Rattle.rules.specs.Answers.{said, accepts, judged}
use Rattle.rules.specs.Answers.{Answer}
use Rattle.rules.specs.declared.Picture.{Picture}
use Rattle.laws.proofs.Judged.{numbered}
use Rattle.checks.specs.Passed.{Passed}
use Rattle.checks.proofs.Checks as checks
use Rattle.guard.specs.declared.Viewer.{Viewer}
use Rattle.guard.specs.declared.Viewer.TheVariants.{Etc1, Opaque}
use Rattle.picture.specs.Checked.{checks_for}

pub passed_by_lem : (viewer : Viewer) (pic : Picture) (bytes elements : ℕ) (then : List ℕ) (a : Answer)
    → said a ≡ judged (checks_for viewer pic bytes elements) then
    → accepts (said a) ≡ true
    → Passed 8 pic bytes elements
passed_by_lem Etc1 = checks.passed_exactly_by 8
passed_by_lem Opaque = checks.passed_by_lem 8

pub in_order : (viewer : Viewer) (pic : Picture) (bytes elements : ℕ) → So (numbered (checks_for viewer pic bytes elements))
in_order Etc1 pic bytes elements = tt
in_order Opaque pic bytes elements = tt
