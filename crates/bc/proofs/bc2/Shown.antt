-- The pixels of a BC2 block: what the two words of a turn make.
-- Assumes nothing.
use mathlib.Core.Path.{◌≡◌, ◌∙◌, ap}
use mathlib.Core.Bool.{true, false}
use mathlib.Core.List.{List}
use Prim.Native.Nat.{ℕ, ◌+◌, ◌*◌, ◌/◌, ◌%◌, ◌^◌}
use native.Mathlib.Omega.{arith}
use lib.ListN.{get_or, drop}
use Rattle.rules.specs.Notation.{build}
use Rattle.rules.specs.Places.{tile}
use Rattle.rules.specs.Desktop.{half_word_lem, palette_in_lem, colour_index, bc1_pixel, bc2_alpha, bc2_pixel, replaced}
use Rattle.laws.proofs.Filled.{build_same, get_or_build}
use Rattle.laws.proofs.Word.{Word, palette_word}
use Rattle.bc.proofs.bc1.Shown.{by_row}

-- four bits at the top, widened, and a colour without its top byte make the colour with that byte replaced
join : (p n : ℕ) → Word p → n % 16 * 0x11000000 + p % 0x1000000 ≡ replaced 3 p (n % 16 * 17)
join p n h = omega arith

pub shown : (d : List ℕ) (a w : ℕ) (hues : List ℕ) → a ≡ half_word_lem d → w ≡ half_word_lem (drop 8 d)
    → hues ≡ build 4 (λ k. get_or (palette_in_lem true false w) k 0 % 0x1000000)
    → build 16 (λ k. a / 2 ^ (4 * k) % 16 * 0x11000000 + get_or hues (colour_index w k) 0) ≡ tile bc2_pixel d
unfolding bc2_pixel bc2_alpha bc1_pixel
shown d a w hues ea ew eh =
    build_same 0 _ _ 16 (λ k h. pixel k)
  where
    hue : (k : ℕ) → get_or hues (colour_index w k) 0 ≡ get_or (palette_in_lem true false w) (colour_index w k) 0 % 0x1000000
    hue k =
        ap (λ (l : List ℕ). get_or l (colour_index w k) 0) eh
        ∙ get_or_build (λ (i : ℕ). get_or (palette_in_lem true false w) i 0 % 0x1000000) 0 4 (colour_index w k) (omega arith)

    pixel : (k : ℕ) → a / 2 ^ (4 * k) % 16 * 0x11000000 + get_or hues (colour_index w k) 0 ≡ bc2_pixel d (k % 4) (k / 4)
    pixel k =
        rw (hue k) (join (get_or (palette_in_lem true false w) (colour_index w k) 0) (a / 2 ^ (4 * k)) (palette_word true false w (colour_index w k)))
        ∙ ap (λ (v : ℕ). replaced 3 (get_or (palette_in_lem true false v) (colour_index v k) 0) (a / 2 ^ (4 * k) % 16 * 17)) ew
        ∙ ap (λ (v : ℕ). replaced 3 (get_or (palette_in_lem true false (half_word_lem (drop 8 d))) (colour_index (half_word_lem (drop 8 d)) k) 0) (v / 2 ^ (4 * k) % 16 * 17)) ea
        ∙ ap (λ (i : ℕ). replaced 3 (get_or (palette_in_lem true false (half_word_lem (drop 8 d))) (colour_index (half_word_lem (drop 8 d)) i) 0) (half_word_lem d / 2 ^ (4 * i) % 16 * 17))
        (by_row k)
