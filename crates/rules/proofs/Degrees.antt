-- The rows of M-111, as one list that antt computes over the very definitions that the reader of degrees promises: those of Measured.antt,
-- whose values are another implementation's of IEEE 754, and some by hand of what an answer says and which values are numbers.
-- Assumes nothing.
use mathlib.Core.Path.{◌≡◌}
use mathlib.Core.Bool.{Bool, true, false, not, ◌&&◌}
use mathlib.Core.List.{List, [], ◌∷◌}
use Prim.Native.Nat.{ℕ}
use lib.Dec.{T}
use lib.IntN.{pos, negsuc}
use lib.Ieee.{Float, nan, inf, fin, binary32, add, sub, mul, of_int, of_bits, to_bits, fits, is_nan}
use Rattle.std.specs.Prelude.{Result, Ok, Err}
use Rattle.rules.specs.Degrees.{degrees_said, degrees_verdict, in_numbers, ReadsDegrees}
use Rattle.rules.specs.declared.Legend.{Legend}
use Rattle.rules.specs.declared.Legend.TheVariants.{Level, Line, Bend}
use Rattle.rules.specs.declared.Reading.{Reading}
use Rattle.rules.specs.declared.NoReading.{NoReading}
use Rattle.rules.specs.declared.NoReading.TheVariants.{NotMeasured, BadLegend, BadDigit, BadMeasurement}
use Rattle.rules.proofs.Rows.{same}
use Rattle.rules.proofs.Measured.{Row, row, measured}

-- which is all that is promised
no_less :
    (legend : Legend) (named shown pixel : ℕ) (x : Float) (reply : Result Reading NoReading)
    → ReadsDegrees legend named shown pixel x reply
    → (degrees_said reply ≡ degrees_verdict legend named shown pixel x) × T (in_numbers reply)
no_less legend named shown pixel x reply p = (p.says, p.holds)

-- the float of 32 bits, and the legend of one, two or three
float : ℕ → Float
float b = of_bits binary32 b

legend_of : List ℕ → Legend
legend_of [] = Level nan
legend_of (v ∷ []) = Level (float v)
legend_of (l ∷ (s ∷ [])) = Line (float l) (float s)
legend_of (l ∷ (s ∷ (t ∷ more))) = Bend (float l) (float s) (float t)

computes : Row → Bool
computes (row legend named shown pixel x answer) = same (degrees_verdict (legend_of legend) named shown pixel (float x)) answer

every : List Row → Bool
every [] = true
every (r ∷ rs) = computes r && every rs

-- what an answer says
reading : Float → Float → Float → Result Reading NoReading
reading p m d = Ok (record { predicted = p; measured = m; difference = d })

saying : Bool
saying =
    same (degrees_said (Err BadLegend)) (13 ∷ [])
    && same (degrees_said (Err BadDigit)) (14 ∷ [])
    && same (degrees_said (Err BadMeasurement)) (15 ∷ [])
    && same (degrees_said (Err NotMeasured)) (17 ∷ [])
    && same (degrees_said (reading (float 1) (float 2) (float 3))) (0 ∷ 1 ∷ 2 ∷ 3 ∷ [])

-- and which of its values are numbers of 32 bits: no NaN, nor what only 64 bits hold, as 1 + 2 ^ -24 and 2 ^ 128
wide : Float
wide = fin false 16777217 (negsuc 23)

far : Float
far = fin false 1 (pos 128)

numbers : Bool
numbers =
    in_numbers (Err BadLegend)
    && in_numbers (Err BadDigit)
    && in_numbers (Err BadMeasurement)
    && in_numbers (Err NotMeasured)
    && in_numbers (reading (float 1) (float 0x80000000) (float 0xC4340000))
    && in_numbers (reading (inf true) (inf false) (inf true))
    && not (in_numbers (reading nan (float 2) (float 3)))
    && not (in_numbers (reading (float 1) nan (float 3)))
    && not (in_numbers (reading (float 1) (float 2) nan))
    && not (in_numbers (reading wide (float 2) (float 3)))
    && not (in_numbers (reading (float 1) far (float 3)))
    && not (in_numbers (reading (float 1) (float 2) wide))

hold : T (every measured && (saying && numbers))
unfolding float legend_of computes every reading saying wide far numbers measured add sub mul of_int of_bits to_bits fits is_nan
hold = tt
