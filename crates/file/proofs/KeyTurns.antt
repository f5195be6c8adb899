-- The key and value data, entry by entry.
-- Assumes nothing.
use mathlib.Core.Path.{◌≡◌, ap}
use mathlib.Core.Bool.{Bool, cond}
use mathlib.Core.List.{List}
use Prim.Native.Nat.{ℕ, suc, ◌+◌, ◌-◌, ◌*◌, ◌/◌, ◌≤◌, ◌<◌}
use native.Mathlib.Omega.{arith}
use lib.Dec.{eqb, ltb}
use Rattle.rules.specs.FileFormats.{word32}
use Rattle.rules.specs.declared.Orientation.{Orientation}
use Rattle.rules.specs.declared.Orientation.TheVariants.{Untold}
use Rattle.rules.specs.Keys.{is_orientation_lem, rows_told_lem, rows_in_lem}

module _ (second order : Bool) (d : List ℕ) (stop n i at : ℕ) (told : Orientation) where
  pub turn :
      i < n
      → rows_in_lem second order d stop (n - i) at told
      ≡ cond (eqb at stop) told
      (cond (ltb stop (at + 4)) Untold
      (cond (ltb (stop - (at + 4)) ((word32 order d at + 3) / 4 * 4)) Untold
      (rows_in_lem second order d stop (n - (i + 1)) (at + 4 + (word32 order d at + 3) / 4 * 4)
      (cond (is_orientation_lem d (at + 4)) (rows_told_lem second d (at + 4) (word32 order d at)) told))))
  unfolding rows_in_lem
  turn h =
      let one : n - i ≡ suc (n - (i + 1)) = omega arith in
      ap (λ (k : ℕ). rows_in_lem second order d stop k at told) one

  pub over : n ≤ i → rows_in_lem second order d stop (n - i) at told ≡ Untold
  unfolding rows_in_lem
  over h =
      let none : n - i ≡ 0 = omega arith in
      ap (λ (k : ℕ). rows_in_lem second order d stop k at told) none
