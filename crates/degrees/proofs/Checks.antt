-- What the reader of degrees owes where no check fails.
-- Assumes nothing.
use mathlib.Core.Path.{◌≡◌, sym, subst}
use mathlib.Core.Bool.{true, false, ◌&&◌}
use Prim.Native.Nat.{ℕ}
use native.Mathlib.Omega.{arith}
use lib.Dec.{T, eqb, lit≤}
use lib.Ieee.{Float, binary32, fits}
use lib.Ieee.Fits.{and_i, sub-fits}
use Rattle.std.specs.Prelude.{Ok}
use Rattle.rules.specs.Pixel.{alpha_of, red_of}
use Rattle.rules.specs.Floats.{is_number, within}
use Rattle.rules.specs.Degrees.{predicted_at, in_degrees_lem, sound, one_digit_lem, reading_of, ReadsDegrees}
use Rattle.rules.specs.declared.Legend.{Legend}
use Rattle.degrees.proofs.floats.Within.{less_within, is_number_lem}
use Rattle.degrees.proofs.floats.Predicted.{predicted_within}

module _ (legend : Legend) (named shown pixel : ℕ) (measured : Float)
    (l : sound legend ≡ true) (same : one_digit_lem named shown ≡ true) (m : in_degrees_lem measured ≡ true) where
  pub reads :
      eqb (alpha_of pixel) 0 ≡ false
      → T (fits binary32 measured)
      → (p : Float)
      → T (fits binary32 p)
      → p ≡ predicted_at legend (red_of pixel)
      → ReadsDegrees legend named shown pixel measured (Ok (reading_of p measured))
  reads a f p g e =
      let w = subst (λ (x : Float). T (within 2760 x)) (sym e) (predicted_within legend (red_of pixel) (omega arith) (subst T (sym l) tt)) in
      let v = subst T (sym m) tt in
      let d = (reading_of p measured).difference in
      record {
        says = rw (l, same, m, a, e);
        holds =
            and_i (is_number p) (is_number measured && is_number d) (is_number_lem 2760 p g w)
            (and_i (is_number measured) (is_number d) (is_number_lem 720 measured f v)
            (is_number_lem 3480 d (sub-fits binary32 p measured) (less_within 2760 720 p measured (lit≤ tt) w v)));
      }
