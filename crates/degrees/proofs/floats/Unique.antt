-- No second answer satisfies the promise of the reader of degrees: the first number that an answer says gives its case, and the bits of
-- each value give the value.
-- Assumes nothing.
use mathlib.Core.Path.{◌≡◌, ◌∙◌, refl, sym, ap}
use mathlib.Core.Bool.{cond, not, ◌&&◌}
use mathlib.Core.List.{List, [], ◌∷◌}
use Prim.Native.Nat.{ℕ}
use lib.Dec.{T, eqb}
use lib.Ieee.{Float, binary32, fits, is_nan, of_bits}
use lib.Ieee.Bits.{of_bits-to_bits}
use lib.Ieee.Fits.{and_l, and_r}
use Rattle.std.specs.Prelude.{Result, Ok, Err}
use Rattle.rules.specs.Floats.{float_bits, is_number}
use Rattle.rules.specs.Degrees.{degrees_said, in_numbers, ReadsDegrees}
use Rattle.rules.specs.declared.Legend.{Legend}
use Rattle.rules.specs.declared.Reading.{Reading}
use Rattle.rules.specs.declared.NoReading.{NoReading}
use Rattle.rules.specs.declared.NoReading.TheVariants.{NotMeasured, BadLegend, BadDigit, BadMeasurement}

-- the answer that says a number, and the values of these bits
reply_of : List ℕ → Result Reading NoReading
reply_of [] = Err NotMeasured
reply_of (n ∷ []) = cond (eqb n 13) (Err BadLegend) (cond (eqb n 14) (Err BadDigit) (cond (eqb n 15) (Err BadMeasurement) (Err NotMeasured)))
reply_of (n ∷ (p ∷ [])) = Err NotMeasured
reply_of (n ∷ (p ∷ (m ∷ []))) = Err NotMeasured
reply_of (n ∷ (p ∷ (m ∷ (d ∷ l)))) =
    Ok (record { predicted = of_bits binary32 p; measured = of_bits binary32 m; difference = of_bits binary32 d })

-- a number of 32 bits is the float that its bits say
pub same_float : (x : Float) → T (is_number x) → of_bits binary32 (float_bits x) ≡ x
same_float x h = of_bits-to_bits binary32 x (and_l (fits binary32 x) (not (is_nan x)) h)

answered : (a : Result Reading NoReading) → T (in_numbers a) → reply_of (degrees_said a) ≡ a
unfolding reply_of
answered (Ok r) h =
    let f = is_number in
    let g = and_r (f r.predicted) (f r.measured && f r.difference) h in
    let p = same_float r.predicted (and_l (f r.predicted) (f r.measured && f r.difference) h) in
    let m = same_float r.measured (and_l (f r.measured) (f r.difference) g) in
    let d = same_float r.difference (and_r (f r.measured) (f r.difference) g) in
    λ i. Ok (record { predicted = p i; measured = m i; difference = d i })
answered (Err NotMeasured) h = refl
answered (Err BadLegend) h = refl
answered (Err BadDigit) h = refl
answered (Err BadMeasurement) h = refl

pub one_reply : (legend : Legend) (named shown pixel : ℕ) (measured : Float) (a b : Result Reading NoReading)
    → ReadsDegrees legend named shown pixel measured a → ReadsDegrees legend named shown pixel measured b → a ≡ b
one_reply legend named shown pixel measured a b p q =
    sym (answered a p.holds) ∙ ap reply_of (p.says ∙ sym q.says) ∙ answered b q.holds
