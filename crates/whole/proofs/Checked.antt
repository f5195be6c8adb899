-- The checks of a picture with n numbers to a pixel are those of a picture over an image with an n-th of its elements.
-- Assumes nothing.
use mathlib.Core.Path.{◌≡◌, ◌∙◌, sym, ap}
use mathlib.Core.Bool.{Bool, true, false}
use mathlib.Core.List.{[], ◌∷◌}
use Prim.Native.Nat.{ℕ, ◌*◌, ◌/◌, ◌≤◌}
use native.Mathlib.Decide.{dec_lt}
use native.Mathlib.Omega.{arith}
use borrow.Author.Tests.{lt-ltb, le-ltb}
use lib.Dec.{ltb}
use Rattle.rules.specs.Places.{blocks, needed}
use Rattle.rules.specs.Answers.{refusal, limit_check, pitch_check, data_check, judged, verdict, picture_checks}
use Rattle.rules.specs.declared.Picture.{Picture}
use Rattle.rules.specs.Whole.{whole_checks}
use Rattle.checks.specs.Passed.{Passed}
use Rattle.whole.specs.Lanes.{lanes, Ready}

shorter : (green : Bool) (e m : ℕ) → ltb (e / lanes green) m ≡ ltb e (lanes green * m)
shorter true e m =
    elim (dec_lt e (2 * m)) [
      | yes h ↦ lt-ltb (e / 2) m (omega (arith, h)) ∙ sym (lt-ltb e (2 * m) h)
      | no h ↦ le-ltb (e / 2) m (omega (arith, h)) ∙ sym (le-ltb e (2 * m) (omega (arith, h)))
    ]
shorter false e m =
    elim (dec_lt e (1 * m)) [
      | yes h ↦ lt-ltb (e / 1) m (omega (arith, h)) ∙ sym (lt-ltb e (1 * m) h)
      | no h ↦ le-ltb (e / 1) m (omega (arith, h)) ∙ sym (le-ltb e (1 * m) (omega (arith, h)))
    ]

module _ (green : Bool) (pic : Picture) (bytes elements : ℕ) where
  pub same_verdict : verdict (picture_checks (lanes green * 8) pic bytes (elements / lanes green)) ≡ verdict (whole_checks (lanes green) pic bytes elements)
  same_verdict =
      ap (λ (t : Bool). judged (limit_check pic ∷ pitch_check pic ∷ data_check (blocks pic * (lanes green * 8)) bytes ∷ refusal 3 t ∷ []) (0 ∷ []))
      (shorter green elements (needed pic))

-- and where they pass, the image has n elements for each that the picture needs
fills : (green : Bool) (e m : ℕ) → m ≤ e / lanes green → lanes green * m ≤ e
fills true e m h = omega arith
fills false e m h = omega arith

pub ready : (green : Bool) (pic : Picture) (s bytes elements : ℕ) → Passed s pic bytes (elements / lanes green) → Ready (lanes green) pic elements
ready green pic s bytes elements p =
    record { narrow = p.narrow; close = p.close; fits = p.fits; roomy = fills green elements (needed pic) p.roomy }
