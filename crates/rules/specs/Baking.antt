-- M-112, the baker: the bytes of an individual block with given bases, flip, codes and indices, and the codes and indices it chooses.
-- Assumes nothing.
use Rattle.std.specs.Prelude.{Bool, cond, ◌||◌, List, [], ◌∷◌, ◌++◌, ◌≡◌, ℕ, zero, suc, ◌+◌, ◌*◌, ◌/◌, ◌%◌, ltb, eqb, length}
use Rattle.std.specs.Prelude.{get_or, drop, Result, ⊤}
use Rattle.rules.specs.Answers.{Check, refusal, verdict, block_checks, left}
use Rattle.rules.specs.Colour.{steps_of, half_colours}
use Rattle.rules.specs.Counting.{least_of_lem, sum_of, from_bits_lem}
use Rattle.rules.specs.Checking.{differ, baking_said}
use Rattle.rules.specs.declared.BakingRefusal.{BakingRefusal}

-- what half h has, of the first and the second half
abbrev pub of_half_lem : {A : Type 0} → A → A → ℕ → A
of_half_lem first second zero = first
of_half_lem first second (suc h) = second

-- "the two four-bit bases": the base colour of each half, "each times 17" (document 01)
abbrev pub seventeen : List ℕ → List ℕ
seventeen c = get_or c 0 0 * 17 ∷ get_or c 1 0 * 17 ∷ get_or c 2 0 * 17 ∷ []

abbrev pub bases_of_lem : List ℕ → List ℕ → ℕ → List ℕ
bases_of_lem first second = of_half_lem (seventeen first) (seventeen second)

-- the half of pixel k of a tile: "0 puts columns 0, 1 in the first half, 1 puts rows 0, 1 there" (document 01)
abbrev pub half_of : ℕ → ℕ → ℕ
half_of flip k = cond (eqb flip 1) (k / 4 / 2) (k % 4 / 2)

-- and so the eight pixels of half h: its two rows, or its two columns
abbrev pub own : ℕ → ℕ → ℕ → ℕ
own flip h j = cond (eqb flip 1) (8 * h + j) (4 * (j / 2) + 2 * h + j % 2)

-- what index i shows with code c on a base colour
unfoldable pub shown : List ℕ → ℕ → ℕ → ℕ
shown base c i = get_or (half_colours base (steps_of c)) i 0

-- "ties go to .. the lower index number (twice the high bit plus the low)": for a pixel v whose half has this base and code c, the
-- lowest index of those with the least difference
unfoldable pub index_for : List ℕ → ℕ → ℕ → ℕ
index_for base c v = least_of_lem (λ i. differ (shown base c i) v) 4

-- the least sum that half h of a tile, of this base, allows with code c
unfoldable pub cost_for : List ℕ → ℕ → List ℕ → ℕ → ℕ → ℕ
cost_for base flip t h c =
    sum_of (λ j. differ (shown base c (index_for base c (get_or t (own flip h j) 0))) (get_or t (own flip h j) 0)) 8

-- "ties go to the lower code": the lowest of those with the least sum
unfoldable pub code_for : List ℕ → ℕ → List ℕ → ℕ → ℕ
code_for base flip t h = least_of_lem (cost_for base flip t h) 8

-- "Pixel i = 4x + y (down the columns)" stands at 4y + x of the tile, so these are the words of the high and of the low index bits
abbrev pub high_of : (ℕ → ℕ) → ℕ
high_of index = from_bits_lem (λ i. index (4 * (i % 4) + i / 4) / 2) 0 16

abbrev pub low_of : (ℕ → ℕ) → ℕ
low_of index = from_bits_lem (λ i. index (4 * (i % 4) + i / 4) % 2) 0 16

-- the eight bytes of the individual block with these bases and flip, and with any codes, by half, and indices, by pixel of the tile
unfoldable pub block_with : List ℕ → List ℕ → ℕ → (ℕ → ℕ) → (ℕ → ℕ) → List ℕ
block_with first second flip code index =
    (16 * get_or first 0 0 + get_or second 0 0)
    ∷ (16 * get_or first 1 0 + get_or second 1 0)
    ∷ (16 * get_or first 2 0 + get_or second 2 0)
    ∷ (32 * code 0 + 4 * code 1 + flip)
    ∷ high_of index / 256
    ∷ high_of index % 256
    ∷ low_of index / 256
    ∷ low_of index % 256
    ∷ []

-- the index of pixel k, where a half has this base and this code
abbrev pub index_with : (ℕ → List ℕ) → (ℕ → ℕ) → ℕ → List ℕ → ℕ → ℕ
index_with base code flip t k = index_for (base (half_of flip k)) (code (half_of flip k)) (get_or t k 0)

-- the block with a code for each half, and for each pixel the index with its half's code
abbrev pub baked_with : List ℕ → List ℕ → ℕ → List ℕ → ℕ → ℕ → List ℕ
baked_with first second flip t a b =
    block_with first second flip (of_half_lem a b) (index_with (bases_of_lem first second) (of_half_lem a b) flip t)

-- "given the two four-bit bases and the flip bit, it chooses codes and indices with the least summed absolute red, green and blue
-- difference that those bases and that flip allow": the halves have no pixel in common, so each half the least of its own
abbrev pub baked_block : List ℕ → List ℕ → ℕ → List ℕ → List ℕ
baked_block first second flip t =
    baked_with first second flip t (code_for (seventeen first) flip t 0) (code_for (seventeen second) flip t 1)

-- "It refuses with 16 a base channel above 15 or a flip above 1,
abbrev pub above : List ℕ → Bool
above c = ltb 15 (get_or c 0 0) || (ltb 15 (get_or c 1 0) || ltb 15 (get_or c 2 0))

abbrev pub no_base : List ℕ → List ℕ → ℕ → Bool
no_base first second flip = above first || (above second || ltb 1 flip)

-- then with 2 (under 8 bytes of room) or 3,
abbrev pub bake_checks : List ℕ → List ℕ → ℕ → ℕ → ℕ → List Check
bake_checks first second flip room elements = refusal 16 (no_base first second flip) ∷ block_checks 8 room elements

abbrev pub bake_verdict : List ℕ → List ℕ → ℕ → ℕ → ℕ → List ℕ
bake_verdict first second flip room elements = verdict (bake_checks first second flip room elements)

-- writing nothing; else it writes 8 bytes only.": these, and behind them what was there
abbrev pub eight_over : List ℕ → List ℕ → List ℕ
eight_over bytes old = bytes ++ drop 8 old

-- The promise of the baker: bases, flip, tile and room go in; an answer and the room come out.
pub record Bakes (first second : List ℕ) (flip : ℕ) (t : List ℕ) (answer : Result ⊤ BakingRefusal) (old new : List ℕ) : Type 0 where
  pub says : baking_said answer ≡ bake_verdict first second flip (length old) (length t)
  pub leaves : new ≡ left (bake_verdict first second flip (length old) (length t)) (eight_over (baked_block first second flip t) old) old
