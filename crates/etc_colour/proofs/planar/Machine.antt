-- The machine's signed way to the planar channel: each step fits 16 bits, and is the difference that it says.
-- Assumes nothing.
use Rattle.std.proofs.Common.{ℕ, ◌+◌, ◌*◌, ◌<◌, ℤ, pos, ◌+ℤ◌, ◌-ℤ◌, ◌*ℤ◌, arith, w16, to_z}
use Rattle.laws.proofs.Signed.{held}
use Rattle.laws.proofs.Diff.{Is, is_pos, is_cast, is_gap, is_plus, is_times, is_sum, is_held}
use Rattle.etc_colour.proofs.planar.Fold.{more, fewer, product}

abbrev gap_m : ℕ → ℕ → ℤ
gap_m h o = to_z w16 h -ℤ to_z w16 o

abbrev part_m : ℕ → ℕ → ℕ → ℤ
part_m x h o = to_z w16 x *ℤ held w16 (gap_m h o)

abbrev two_m : ℕ → ℕ → ℕ → ℕ → ℕ → ℤ
two_m o h v x y = held w16 (part_m x h o) +ℤ held w16 (part_m y v o)

abbrev four_m : ℕ → ℤ
four_m o = pos 4 *ℤ to_z w16 o

abbrev three_m : ℕ → ℕ → ℕ → ℕ → ℕ → ℤ
three_m o h v x y = held w16 (two_m o h v x y) +ℤ held w16 (four_m o)

abbrev pub all_m : ℕ → ℕ → ℕ → ℕ → ℕ → ℤ
all_m o h v x y = held w16 (three_m o h v x y) +ℤ pos 2

pub gap : (h o : ℕ) → h < 256 → o < 256 → Is (gap_m h o) h o
gap h o p q = is_gap (is_cast w16 h (omega arith)) (is_cast w16 o (omega arith))

pub part : (x h o : ℕ) → x < 4 → h < 256 → o < 256 → Is (part_m x h o) (x * h) (x * o)
part x h o p q r = is_times (is_cast w16 x (omega arith)) (is_held w16 (gap h o q r) (omega arith) (omega arith))

pub four : (o : ℕ) → o < 256 → Is (four_m o) (4 * o) 0
four o p = is_times (is_pos 4) (is_cast w16 o (omega arith))

module _ (o h v x y : ℕ) (po : o < 256) (ph : h < 256) (pv : v < 256) (px : x < 4) (py : y < 4) where
  kept : (x h : ℕ) → x < 4 → h < 256 → Is (held w16 (part_m x h o)) (x * h) (x * o)
  kept x h p q = is_held w16 (part x h o p q po) (omega (arith, product x h p q)) (omega (arith, product x o p po))

  pub two : Is (two_m o h v x y) (x * h + y * v) (fewer o x y)
  two = is_sum (kept x h px ph) (kept y v py pv)

  pub three : Is (three_m o h v x y) (x * h + y * v + 4 * o) (fewer o x y)
  three =
      is_plus (is_held w16 two (omega (arith, product x h px ph, product y v py pv)) (omega (arith, product x o px po, product y o py po)))
      (is_held w16 (four o po) (omega arith) (omega arith))

  pub all : Is (all_m o h v x y) (more o h v x y) (fewer o x y)
  all = is_plus (is_held w16 three (omega (arith, product x h px ph, product y v py pv)) (omega (arith, product x o px po, product y o py po))) (is_pos 2)

  pub small_more : more o h v x y < 3000
  small_more = omega (arith, product x h px ph, product y v py pv)

  pub small_fewer : fewer o x y < 3000
  small_fewer = omega (arith, product x o px po, product y o py po)
