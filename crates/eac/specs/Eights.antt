-- The eight values of a channel's block, of which each pixel picks one.
-- Assumes nothing.
use Rattle.std.specs.Prelude.{ℕ, ◌+◌, ◌*◌, ◌/◌, ◌%◌, Bool, List, [], ℤ, pos, ◌+ℤ◌, ◌*ℤ◌, slice_index_or, unsigned_abs}
use Rattle.rules.specs.Notation.{byte, bits}
use Rattle.rules.specs.Channels.{alpha_steps_lem, alpha_index, multiplier}
use Rattle.rules.specs.Whole.{least, most, between, middle, added}

-- the steps of a block, and the value that each of the eight gives
abbrev pub steps_in_lem : List ℕ → List ℤ
steps_in_lem d = slice_index_or alpha_steps_lem (bits 3 0 (byte d 1)) []

abbrev pub whole_of : Bool → List ℕ → ℕ → ℤ
whole_of signed d j =
    between (least signed) (most signed) (middle signed (byte d 0) +ℤ pos (multiplier (bits 7 4 (byte d 1))) *ℤ slice_index_or
    (steps_in_lem d) j (pos 0))

-- and its eighth, counted from the least
abbrev pub eighth_of : Bool → List ℕ → ℕ → ℕ
eighth_of signed d j = unsigned_abs (whole_of signed d j +ℤ pos (added signed)) / 8

-- the number that pixel k has among the eight, row by row
abbrev pub number_at : List ℕ → ℕ → ℕ
number_at d k = alpha_index d (4 * (k % 4) + k / 4)
