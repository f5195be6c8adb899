-- What a caller from C is told of degrees: the legend comes as the number of its kind and three floats, the answer goes as its number,
-- and a reading into three floats that are lent.
-- Assumes nothing.
use Rattle.std.specs.Prelude.{◌≡◌, cond, ℕ, eqb, get_or, Float, Result, Ok, Err}
use Rattle.std.specs.Float.{nan}
use Rattle.rules.specs.Degrees.{degrees_said, ReadsDegrees}
use Rattle.rules.specs.declared.Legend.{Legend}
use Rattle.rules.specs.declared.Legend.TheVariants.{Level, Line, Bend}
use Rattle.rules.specs.declared.Reading.{Reading}
use Rattle.rules.specs.declared.NoReading.{NoReading}

-- 0 a level, 1 a line, 2 a bend, each of as many values as it has. No other number is a kind: it is a level that is not a number, and
-- so refused with 13
abbrev pub legend_at_lem : ℕ → Float → Float → Float → Legend
legend_at_lem kind low step second =
    cond (eqb kind 0) (Level low) (cond (eqb kind 1) (Line low step) (cond (eqb kind 2) (Bend low step second) (Level nan)))

-- a value of a reading, or what stood there where the answer is none
abbrev pub value_or : (Reading → Float) → Result Reading NoReading → Float → Float
value_or value (Ok r) stood = value r
value_or value (Err n) stood = stood

-- the reader, with three floats for the values of a reading
pub record DegreesTold (legend : Legend) (named shown pixel : ℕ) (measured p m d : Float) (number : ℕ) (p' m' d' : Float) : Type 0 where
  pub reply : Result Reading NoReading
  pub reads : ReadsDegrees legend named shown pixel measured reply
  pub says : number ≡ get_or (degrees_said reply) 0 0
  pub the_predicted : p' ≡ value_or (λ r. r.predicted) reply p
  pub the_measured : m' ≡ value_or (λ r. r.measured) reply m
  pub the_difference : d' ≡ value_or (λ r. r.difference) reply d
