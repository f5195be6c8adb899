-- `picture::read_guarded` meets its contract: what the viewer's own rule paints, where every check and the scan pass, is what the newer
-- one shows.
-- Assumes nothing.
use Rattle.std.proofs.Common.{◌∙◌, refl, sym, ap, subst, ℕ, Ok, length}
use Rattle.rules.specs.Formats.{size_of}
use Rattle.laws.proofs.Outcome.{done}
use Rattle.checks.specs.Passed.{Passed}
use Rattle.guard.specs.Viewers.{guard_of}
use Rattle.guard.proofs.Scan.{eight, sound}
use Rattle.picture.specs.Checked.{checks_for}
use Rattle.picture.proofs.Guard.{reads}
use Rattle.picture.proofs.Viewed.{passed_by_lem, in_order}
use Rattle.picture.proofs.read_guarded.Goals as goal

pub paint_all-requires : goal.paint_all-requires
paint_all-requires c =
    let a = c.args in
    let n = length a.«data».now in
    let m = length a.image.now in
    subst (λ (s : ℕ). Passed s a.pic n m) (sym (ap size_of c.own.ensures ∙ eight a.viewer))
    (passed_by_lem a.viewer a.pic n m _ (Ok tt) c.in_ok-guarded_answer.ensures refl)

pub returns : goal.returns
returns c =
    let a = c.args in
    let d = a.«data».now in
    let l = a.image.now in
    let painted = rw c.own.ensures at c.paint_all.ensures in
    reads (guard_of a.viewer) (sound a.viewer) a.pic d l (checks_for a.viewer a.pic (length d) (length l)) (in_order a.viewer a.pic (length d) (length l)) _ _ _
    c.in_ok-guarded_answer.ensures (done _ _ l _ refl painted)
