-- The pixels of a BC3 block: what a turn reads of its alphas, and what the two picks of a turn make.
-- Assumes nothing.
use mathlib.Core.Path.{◌≡◌, ◌∙◌, sym, ap, subst}
use mathlib.Core.Bool.{true, false}
use mathlib.Core.List.{List}
use Prim.Native.Nat.{ℕ, zero, suc, ◌+◌, ◌*◌, ◌/◌, ◌%◌, ◌^◌, ◌<◌, ◌≤◌}
use native.Mathlib.Omega.{arith}
use lib.ListN.{get_or, drop}
use lib.Pow.{shr-shr}
use Rattle.rules.specs.Notation.{from, build}
use Rattle.rules.specs.Places.{tile}
use Rattle.rules.specs.Desktop.{half_word_lem, palette_in_lem, colour_index, alphas_in_lem, alpha_index_in, bc1_pixel, bc3_alpha, bc3_pixel, replaced}
use Rattle.laws.proofs.Between.{alphas_small}
use Rattle.laws.proofs.Filled.{build_same, get_or_build}
use Rattle.laws.proofs.Word.{Word, palette_word}

-- a place of sixteen, by its row and its column
by_row : (k : ℕ) → k ≡ 4 * (k / 4) + k % 4
by_row k = omega arith

-- the alpha of pixel k
pub alpha_of_lem : (d : List ℕ) (k : ℕ) → get_or (alphas_in_lem (half_word_lem d)) (alpha_index_in (half_word_lem d) k) 0 ≡ bc3_alpha d (k % 4) (k / 4)
unfolding bc3_alpha
alpha_of_lem d k = ap (λ (i : ℕ). get_or (alphas_in_lem (half_word_lem d)) (alpha_index_in (half_word_lem d) i) 0) (by_row k)

-- what turn k reads of it
pub alpha_at_lem : (d set : List ℕ) (w l k : ℕ) → set ≡ alphas_in_lem w → w ≡ half_word_lem d → l ≡ w / 0x10000 / 2 ^ (3 * k) → get_or set (l % 8) 0 ≡ bc3_alpha d (k % 4) (k / 4)
alpha_at_lem d set w l k s e f =
    ap (λ (a : List ℕ). get_or a (l % 8) 0) s
    ∙ ap (λ (i : ℕ). get_or (alphas_in_lem w) (i % 8) 0) (f ∙ shr-shr w 16 (3 * k))
    ∙ ap (λ (v : ℕ). get_or (alphas_in_lem v) (alpha_index_in v k) 0) e
    ∙ alpha_of_lem d k

-- a list of numbers that are at most m, and 0 past its end
from_le : (f : ℕ → ℕ) (m : ℕ) → ((k : ℕ) → f k ≤ m) → (i n k : ℕ) → get_or (from f i n) k 0 ≤ m
from_le f m h i zero k = omega arith
from_le f m h i (suc n) zero = h i
from_le f m h i (suc n) (suc k) = from_le f m h (suc i) n k

pub at_most : (f : ℕ → ℕ) (m n : ℕ) (l : List ℕ) → l ≡ build n f → ((k : ℕ) → f k ≤ m) → (k : ℕ) → get_or l k 0 ≤ m
at_most f m n l e h k = subst (λ (b : List ℕ). get_or b k 0 ≤ m) (sym e) (from_le f m h 0 n k)

-- colours without their top bytes
pub below : (c l : List ℕ) → l ≡ build 4 (λ k. get_or c k 0 % 0x1000000) → (k : ℕ) → get_or l k 0 < 0x1000000
below c l e k = omega (arith, at_most (λ k. get_or c k 0 % 0x1000000) 0xFFFFFF 4 l e (λ k. omega arith) k)

-- a top byte and a colour without one make the colour with its top byte replaced
join : (p b : ℕ) → Word p → b < 256 → b * 0x1000000 + p % 0x1000000 ≡ replaced 3 p b
join p b h k = omega arith

-- the two picks of every turn are the block's pixels
pub shown : (d : List ℕ) (a w : ℕ) (tops hues : List ℕ) → a ≡ half_word_lem d → w ≡ half_word_lem (drop 8 d)
    → tops ≡ build 8 (λ k. get_or (alphas_in_lem a) k 0 * 0x1000000) → hues ≡ build 4 (λ k. get_or (palette_in_lem true false w) k 0 % 0x1000000)
    → build 16 (λ k. get_or tops (alpha_index_in a k) 0 + get_or hues (colour_index w k) 0) ≡ tile bc3_pixel d
unfolding bc3_pixel bc1_pixel
shown d a w tops hues ea ew et eh =
    build_same 0 _ _ 16 (λ k h. pixel k)
  where
    top : (k : ℕ) → get_or tops (alpha_index_in a k) 0 ≡ get_or (alphas_in_lem a) (alpha_index_in a k) 0 * 0x1000000
    top k =
        ap (λ (l : List ℕ). get_or l (alpha_index_in a k) 0) et
        ∙ get_or_build (λ (i : ℕ). get_or (alphas_in_lem a) i 0 * 0x1000000) 0 8 (alpha_index_in a k) (omega arith)

    hue : (k : ℕ) → get_or hues (colour_index w k) 0 ≡ get_or (palette_in_lem true false w) (colour_index w k) 0 % 0x1000000
    hue k =
        ap (λ (l : List ℕ). get_or l (colour_index w k) 0) eh
        ∙ get_or_build (λ (i : ℕ). get_or (palette_in_lem true false w) i 0 % 0x1000000) 0 4 (colour_index w k) (omega arith)

    pixel : (k : ℕ) → get_or tops (alpha_index_in a k) 0 + get_or hues (colour_index w k) 0 ≡ bc3_pixel d (k % 4) (k / 4)
    pixel k =
        rw (top k, hue k)
        (join (get_or (palette_in_lem true false w) (colour_index w k) 0) (get_or (alphas_in_lem a) (alpha_index_in a k) 0)
        (palette_word true false w (colour_index w k))
        (alphas_small a (alpha_index_in a k)))
        ∙ ap (λ (p : ℕ). replaced 3 p (get_or (alphas_in_lem a) (alpha_index_in a k) 0))
        (ap (λ (v : ℕ). get_or (palette_in_lem true false v) (colour_index v k) 0) ew
        ∙ ap (λ (i : ℕ). get_or (palette_in_lem true false (half_word_lem (drop 8 d))) (colour_index (half_word_lem (drop 8 d)) i) 0) (by_row k))
        ∙ ap (λ (b : ℕ). replaced 3 (get_or (palette_in_lem true false (half_word_lem (drop 8 d))) (colour_index (half_word_lem (drop 8 d)) (4 * (k / 4) + k % 4)) 0) b)
        (ap (λ (v : ℕ). get_or (alphas_in_lem v) (alpha_index_in v k) 0) ea ∙ alpha_of_lem d k)
