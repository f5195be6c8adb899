-- From colour to degrees (M-111 of document 02): what a legend predicts, when it is refused, and what the reader owes, for all inputs.
-- Its own sentences stand in quotes above the definitions that they become.
-- Assumes nothing.
use Rattle.std.specs.Prelude.{◌≡◌, Bool, true, cond, not, ◌&&◌, List, [], ◌∷◌, ℕ, ◌-◌, T, leb, eqb, Float, Result, Ok, Err}
use Rattle.rules.specs.Pixel.{alpha_of, red_of}
use Rattle.rules.specs.Answers.{Check, refusal, judged}
use Rattle.rules.specs.Floats.{plus, less, times, whole, float_bits, is_number, within}
use Rattle.rules.specs.declared.Legend.{Legend}
use Rattle.rules.specs.declared.Legend.TheVariants.{Level, Line, Bend}
use Rattle.rules.specs.declared.Reading.{Reading}
use Rattle.rules.specs.declared.NoReading.TheVariants.{NotMeasured, BadLegend, BadDigit, BadMeasurement}
use Rattle.rules.specs.declared.NoReading.{NoReading}

-- "line (low + step * red)"
abbrev pub line_at : Float → Float → ℕ → Float
line_at low step red = plus low (times step (whole red))

-- "bend (a line up to red 128, beyond it (low + step * 128) + second step * (red - 128))"
abbrev pub bend_at : Float → Float → Float → ℕ → Float
bend_at low step second red =
    cond (leb red 128) (line_at low step red) (plus (line_at low step 128) (times second (whole (red - 128))))

-- "A legend is one of three kinds, each with its degrees as 32-bit floats: level (one value), line .., bend .."
abbrev pub predicted_at : Legend → ℕ → Float
predicted_at (Level degrees) red = degrees
predicted_at (Line low step) red = line_at low step red
predicted_at (Bend low step second) red = bend_at low step second red

-- "every low or level lies in -720 to 720
abbrev pub in_degrees_lem : Float → Bool
in_degrees_lem x = within 720 x

-- and every step in -8 to 8"
abbrev pub in_step_lem : Float → Bool
in_step_lem x = within 8 x

-- "A legend is refused with 13 unless" it is sound
abbrev pub sound : Legend → Bool
sound (Level degrees) = in_degrees_lem degrees
sound (Line low step) = in_degrees_lem low && in_step_lem step
sound (Bend low step second) = in_degrees_lem low && (in_step_lem step && in_step_lem second)

-- "Legend and picture each name a digit, 0 thumb to 4 little; different digits, or one above 4, are refused with 14"
abbrev pub one_digit_lem : ℕ → ℕ → Bool
one_digit_lem named shown = eqb named shown && leb named 4

-- "a reading holds the predicted degrees, the measured degrees and their difference, predicted minus measured, rounded once"
abbrev pub reading_of : Float → Float → Reading
reading_of degrees measured =
    record { predicted = degrees; measured = measured; difference = less degrees measured }

-- "State the answers by bits": a reading says 0 and the bits of its three values. "not measured" has no number in the document; it
-- says 17
abbrev pub degrees_said : Result Reading NoReading → List ℕ
degrees_said (Ok r) = 0 ∷ float_bits r.predicted ∷ float_bits r.measured ∷ float_bits r.difference ∷ []
degrees_said (Err NotMeasured) = 17 ∷ []
degrees_said (Err BadLegend) = 13 ∷ []
degrees_said (Err BadDigit) = 14 ∷ []
degrees_said (Err BadMeasurement) = 15 ∷ []

-- "a measurement outside -720 to 720, or not a number, with 15. The order is 13, 14, 15;
abbrev pub degrees_checks : Legend → ℕ → ℕ → Float → List Check
degrees_checks legend named shown measured =
    refusal 13 (not (sound legend)) ∷ refusal 14 (not (one_digit_lem named shown)) ∷ refusal 15 (not (in_degrees_lem measured)) ∷ []

-- then a pixel of alpha 0 answers 'not measured'. Otherwise a reading"
abbrev pub degrees_verdict : Legend → ℕ → ℕ → ℕ → Float → List ℕ
degrees_verdict legend named shown pixel measured =
    judged (degrees_checks legend named shown measured)
    (cond (eqb (alpha_of pixel) 0) (degrees_said (Err NotMeasured))
    (degrees_said (Ok (reading_of (predicted_at legend (red_of pixel)) measured))))

-- every value of an answer is a number of 32 bits: no NaN, so that its bits say which it is
abbrev pub in_numbers : Result Reading NoReading → Bool
in_numbers (Ok r) = is_number r.predicted && (is_number r.measured && is_number r.difference)
in_numbers (Err NotMeasured) = true
in_numbers (Err BadLegend) = true
in_numbers (Err BadDigit) = true
in_numbers (Err BadMeasurement) = true

-- What the reader of degrees owes its caller: it says the verdict, and its values are numbers.
pub record ReadsDegrees (legend : Legend) (named shown pixel : ℕ) (measured : Float) (reply : Result Reading NoReading) : Type 0 where
  pub says : degrees_said reply ≡ degrees_verdict legend named shown pixel measured
  pub holds : T (in_numbers reply)
