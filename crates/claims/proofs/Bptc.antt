-- M-108: what is shown once over the whole tables of BC7; and the block without a mode.
-- Assumes nothing.
use mathlib.Core.Path.{◌≡◌, ◌∙◌, ap}
use mathlib.Core.Bool.{Bool, cond}
use mathlib.Core.List.{List}
use Prim.Native.Nat.{ℕ, suc, ◌+◌, ◌-◌, ◌*◌, ◌%◌, ◌<◌}
use native.Mathlib.Omega.{arith}
use lib.Dec.{ltb, eqb, eqb→eq}
use lib.ListN.{get_or}
use Rattle.numbers.specs.Numbers.{little}
use Rattle.rules.specs.Bptc.{two, three, anchor_of_two, anchor_of_three1, anchor_of_three2, subset, anchor}
use Rattle.rules.specs.Bc7.{mode_table, lowest, mode_of, mode_at, index_place, second_place, bits_before, pixel_in, block_word, bc7_pixel}
use Rattle.laws.proofs.Every.{every, below}
use Rattle.laws.proofs.Tables.{subset_exists, first_pixel, anchor_own, anchor_below, fields_fill}

-- of one, two and three subsets: "every pixel's subset exists"
pub every_pixels_subset_exists : (n p i : ℕ) → n < 3 → p < 64 → i < 16 → subset (suc n) p i < suc n
every_pixels_subset_exists = subset_exists

-- "pixel 0 is in subset 0"
pub pixel_0_is_in_subset_0 : (n p : ℕ) → n < 3 → p < 64 → subset (suc n) p 0 ≡ 0
pixel_0_is_in_subset_0 = first_pixel

-- "each anchor pixel lies in its own subset", and is a pixel
pub each_anchor_lies_in_its_own_subset : (n p s : ℕ) → n < 3 → p < 64 → s < suc n → subset (suc n) p (anchor (suc n) p s) ≡ s
each_anchor_lies_in_its_own_subset = anchor_own

pub each_anchor_is_a_pixel : (n p s : ℕ) → n < 3 → p < 64 → s < suc n → anchor (suc n) p s < 16
each_anchor_is_a_pixel = anchor_below

-- The places of a mode's fields count 16 * b - subsets bits for its indices of b bits. A pixel's index is found by `bits_before`, which
-- goes by the anchors. Both count alike, in every mode and every partition, and so of a second index: of 0 bits there is none.
fill_test : ℕ → ℕ → ℕ → ℕ → Bool
fill_test b due n p = eqb (bits_before b n p 16) due

abbrev second_bits : ℕ → ℕ
second_bits m = cond (eqb (mode_at m).second 0) 0 (16 * (mode_at m).second - (mode_at m).subsets)

pub the_indices_fill_their_place : (m p : ℕ) → m < 8 → p < 64 → bits_before (mode_at m).index (mode_at m).subsets p 16 ≡ 16 * (mode_at m).index - (mode_at m).subsets
unfolding mode_table bits_before subset two three anchor anchor_of_two anchor_of_three1 anchor_of_three2 fill_test
the_indices_fill_their_place m p h j =
    let test : ℕ → ℕ → Bool = λ m p. fill_test (mode_at m).index (16 * (mode_at m).index - (mode_at m).subsets) (mode_at m).subsets p in
    eqb→eq _ _ (below (test m) 64 (below (λ m. every (test m) 64) 8 tt m h) p j)

pub the_second_indices_fill_theirs : (m p : ℕ) → m < 8 → p < 64 → bits_before (mode_at m).second (mode_at m).subsets p 16 ≡ second_bits m
unfolding mode_table bits_before subset two three anchor anchor_of_two anchor_of_three1 anchor_of_three2 fill_test
the_second_indices_fill_theirs m p h j =
    let test : ℕ → ℕ → Bool = λ m p. fill_test (mode_at m).second (second_bits m) (mode_at m).subsets p in
    eqb→eq _ _ (below (test m) 64 (below (λ m. every (test m) 64) 8 tt m h) p j)

-- "each mode's fields fill 128 bits": the last index ends at bit 128, whatever the partition
pub each_modes_fields_fill_128_bits : (m p : ℕ)
    → m < 8
    → p < 64
    → index_place m (mode_at m) + bits_before (mode_at m).index (mode_at m).subsets p 16 + bits_before (mode_at m).second (mode_at m).subsets p 16 ≡ 128
each_modes_fields_fill_128_bits m p h j =
    ap (λ (n : ℕ). index_place m (mode_at m) + n + bits_before (mode_at m).second (mode_at m).subsets p 16) (the_indices_fill_their_place m p h j)
    ∙ ap (λ (n : ℕ). second_place m (mode_at m) + n) (the_second_indices_fill_theirs m p h j)
    ∙ fields_fill m h

-- "A block whose first byte is 0 has no mode and gives sixteen pixels of 0."
first_byte : (d : List ℕ) → get_or d 0 0 ≡ 0 → block_word d % 256 ≡ 0
unfolding little
first_byte d h = omega arith

pub a_block_without_a_mode_is_0 : (d : List ℕ) (x y : ℕ) → get_or d 0 0 ≡ 0 → bc7_pixel d x y ≡ 0
unfolding bc7_pixel lowest
a_block_without_a_mode_is_0 d x y h =
    let w = block_word d in
    ap (λ (b : ℕ). cond (ltb 7 (lowest 8 b 0)) 0 (pixel_in w (mode_of w) (mode_at (mode_of w)) (4 * y + x))) (first_byte d h)
