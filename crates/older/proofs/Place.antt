-- Where block b of a picture stands, and how much of it the picture shows.
-- Assumes nothing.
use mathlib.Core.Path.{◌≡◌, ◌∙◌, sym, ap}
use Prim.Native.Nat.{ℕ, ◌+◌, ◌-◌, ◌*◌, ◌/◌, ◌%◌, ◌<◌, ◌≤◌}
use native.Mathlib.Decide.{dec_lt}
use native.Mathlib.Nat.{zero-mul}
use native.Mathlib.Omega.{arith}
use borrow.Author.Tests.{lt-ltb, le-ltb}
use lib.Dec.{ltb}
use Rattle.rules.specs.Places.{across, blocks}
use Rattle.rules.specs.declared.Picture.{Picture}
use Rattle.blocks.proofs.Blocks.{stands, high}
use Rattle.rules.specs.Older.{in_picture}
use Rattle.older.specs.Compared.{clipped}

-- a place is left of an edge where it is in what is left of the picture
beyond : (x k w : ℕ) → x ≤ w → ltb k (w - x) ≡ ltb (x + k) w
beyond x k w h =
    elim (dec_lt k (w - x)) [
      | yes l ↦ lt-ltb k (w - x) l ∙ sym (lt-ltb (x + k) w (omega (arith, l)))
      | no l ↦ le-ltb k (w - x) (omega (arith, l)) ∙ sym (le-ltb (x + k) w (omega (arith, l)))
    ]

module _ (pic : Picture) (b : ℕ) (in_it : b < blocks pic) where
  some : 0 < across pic.width
  some =
      elim (dec_lt 0 (across pic.width)) [
        | yes l ↦ l
        | no l ↦
            let z : across pic.width ≡ 0 = omega (arith, l) in
            let none : blocks pic ≡ 0 = ap (λ (n : ℕ). n * across pic.height) z ∙ zero-mul (across pic.height) in
            absurd (omega (arith, in_it, none))
      ]

  column : b % across pic.width * 4 ≤ pic.width
  column = omega (arith, (stands (across pic.width) b some).short)

  row : b / across pic.width * 4 ≤ pic.height
  row = omega (arith, high (across pic.width) (across pic.height) b _ _ (stands (across pic.width) b some) in_it)

  -- in rows of n blocks, which are as many as lie along the picture
  module _ (n : ℕ) (e : n ≡ across pic.width) where
    pub some_of : 0 < n
    some_of = rw e some

    pub column_of : b % n * 4 ≤ pic.width
    column_of = rw e column

    pub row_of : b / n * 4 ≤ pic.height
    row_of = rw e row

    pub shown : (k : ℕ) → clipped (pic.width - b % n * 4) (pic.height - b / n * 4) k ≡ in_picture pic b k
    shown k =
        rw (e, beyond (b % across pic.width * 4) (k % 4) pic.width column, beyond (b / across pic.width * 4) (k / 4) pic.height row)
