-- A sound legend predicts degrees in -2760 to 2760 at every red, so that a difference lies in -3480 to 3480.
-- Assumes nothing.
use mathlib.Core.Bool.{Bool, true, false, cond, ◌&&◌}
use Prim.Native.Nat.{ℕ, ◌+◌, ◌-◌, ◌*◌, ◌≤◌}
use native.Mathlib.Omega.{arith}
use lib.Dec.{T, leb, lit≤}
use lib.Ieee.{Float}
use lib.Ieee.Fits.{and_l, and_r}
use Rattle.rules.specs.Floats.{plus, times, whole, within}
use Rattle.rules.specs.Degrees.{line_at, predicted_at, in_degrees_lem, in_step_lem, sound}
use Rattle.rules.specs.declared.Legend.{Legend}
use Rattle.rules.specs.declared.Legend.TheVariants.{Level, Line, Bend}
use Rattle.degrees.proofs.floats.Within.{whole_within, plus_within, times_within, wider}

-- a step times a whole number
stepped : (step : Float) (n k : ℕ) → n ≤ k → k ≤ 255 → T (in_step_lem step) → T (within (8 * k) (times step (whole n)))
stepped step n k h b s =
    times_within 8 k step (whole n) (omega arith) s (wider n k (whole n) h (whole_within n (omega arith)))

line_within : (low step : Float) (n k : ℕ) → n ≤ k → k ≤ 255 → T (in_degrees_lem low) → T (in_step_lem step) → T (within (720 + 8 * k) (line_at low step n))
line_within low step n k h b l s =
    plus_within 720 (8 * k) low (times step (whole n)) (omega arith) l (stepped step n k h b s)

pub predicted_within : (legend : Legend) (red : ℕ) → red ≤ 255 → T (sound legend) → T (within 2760 (predicted_at legend red))
predicted_within (Level v) red h s = wider 720 2760 v (lit≤ tt) s
predicted_within (Line low step) red h s =
    line_within low step red 255 h (lit≤ tt) (and_l (in_degrees_lem low) (in_step_lem step) s) (and_r (in_degrees_lem low) (in_step_lem step) s)
predicted_within (Bend low step second) red h s = go (leb red 128)
  where
    l : T (in_degrees_lem low)
    l = and_l (in_degrees_lem low) (in_step_lem step && in_step_lem second) s

    r : T (in_step_lem step && in_step_lem second)
    r = and_r (in_degrees_lem low) (in_step_lem step && in_step_lem second) s

    go : (t : Bool) → T (within 2760 (cond t (line_at low step red) (plus (line_at low step 128) (times second (whole (red - 128))))))
    go true = line_within low step red 255 h (lit≤ tt) l (and_l (in_step_lem step) (in_step_lem second) r)
    go false =
        plus_within 1744 1016 (line_at low step 128) (times second (whole (red - 128))) (lit≤ tt)
        (line_within low step 128 128 (lit≤ tt) (lit≤ tt) l (and_l (in_step_lem step) (in_step_lem second) r))
        (stepped second (red - 128) 127 (omega arith) (lit≤ tt) (and_r (in_step_lem step) (in_step_lem second) r))
