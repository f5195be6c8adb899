-- The planar channel over natural numbers.
-- Assumes nothing.
use Rattle.std.proofs.Common.{◌≡◌, ℕ, ◌+◌, ◌-◌, ◌*◌, ◌/◌, ◌<◌, ◌≤◌, min, add-mul, arith}
use Rattle.laws.proofs.Signed.{times_le}
use Rattle.laws.proofs.Diff.{is_pos, is_gap, is_plus, is_times, is_sum, is_quartered}
use Rattle.rules.specs.Modes.{planar_channel}

-- what is added, and what is taken away
abbrev pub more : ℕ → ℕ → ℕ → ℕ → ℕ → ℕ
more o h v x y = x * h + y * v + 4 * o + 2

abbrev pub fewer : ℕ → ℕ → ℕ → ℕ
fewer o x y = x * o + y * o

pub planar_is : (o h v x y : ℕ) → planar_channel o h v x y ≡ min ((more o h v x y - fewer o x y) / 4) 255
unfolding planar_channel
planar_is o h v x y =
    is_quartered
    (is_plus (is_plus (is_sum (is_times (is_pos x) (is_gap (is_pos h) (is_pos o))) (is_times (is_pos y) (is_gap (is_pos v) (is_pos o)))) (is_pos (4 * o))) (is_pos 2))

pub taken : (o x y : ℕ) → (x + y) * o ≡ fewer o x y
taken o x y = add-mul x y o

pub product : (x h : ℕ) → x < 4 → h < 256 → x * h ≤ 765
product x h p q = times_le x 3 h 255 (omega arith) (omega arith)
