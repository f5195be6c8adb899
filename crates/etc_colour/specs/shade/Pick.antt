-- Eight colours, four for each half, and the one that a pixel takes.
-- Assumes nothing.
use Rattle.std.specs.Prelude.{ℕ, ◌+◌, ◌*◌, ◌/◌, ◌%◌, Bool, cond, List, slice_index}
use Rattle.rules.specs.Notation.{byte, build}
use Rattle.rules.specs.Colour.{half, index}

-- the low index bits of a block, and the high ones
abbrev pub low_word : List ℕ → ℕ
low_word d = 256 * byte d 6 + byte d 7

abbrev pub high_word : List ℕ → ℕ
high_word d = 256 * byte d 4 + byte d 5

-- the pixels i = 4x + y that lie in half 1, a bit each: rows 2 and 3, or columns 2 and 3
abbrev pub second_half_lem : Bool → ℕ
second_half_lem flip = cond flip 0xCCCC 0xFF00

-- the four colours of half 0, and then those of half 1
abbrev pub eight : (ℕ → List ℕ) → List ℕ
eight colours = build 8 (λ n. slice_index (colours (n / 4)) (n % 4))

-- which of eight colours the pixel at place k, row by row, takes
abbrev pub number_at : List ℕ → ℕ → ℕ
number_at d k = half d (k % 4) (k / 4) * 4 + index d (k % 4) (k / 4)

-- what it takes of them
unfoldable pub taken : List ℕ → List ℕ → ℕ → ℕ
taken d colours k = slice_index colours (number_at d k)
