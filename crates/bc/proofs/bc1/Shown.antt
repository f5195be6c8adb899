-- The picks of a half's word are the block's pixels.
-- Assumes nothing.
use mathlib.Core.Path.{◌≡◌, ap}
use mathlib.Core.Bool.{Bool}
use mathlib.Core.List.{List}
use Prim.Native.Nat.{ℕ, ◌+◌, ◌*◌, ◌/◌, ◌%◌}
use native.Mathlib.Omega.{arith}
use lib.ListN.{get_or}
use Rattle.rules.specs.Notation.{build}
use Rattle.rules.specs.Places.{tile}
use Rattle.rules.specs.Desktop.{half_word_lem, palette_in_lem, colour_index, bc1_pixel}
use Rattle.laws.proofs.Filled.{build_same}

-- a place of sixteen, by its row and its column
pub by_row : (k : ℕ) → k ≡ 4 * (k / 4) + k % 4
by_row k = omega arith

pub shown : (always alpha : Bool) (d : List ℕ) → build 16 (λ k. get_or (palette_in_lem always alpha (half_word_lem d)) (colour_index (half_word_lem d) k) 0) ≡ tile (bc1_pixel always alpha) d
unfolding bc1_pixel
shown always alpha d =
    build_same 0 _ _ 16
    (λ k h. ap (λ (i : ℕ). get_or (palette_in_lem always alpha (half_word_lem d)) (colour_index (half_word_lem d) i) 0) (by_row k))
