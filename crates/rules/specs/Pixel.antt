-- The pixel word.
-- Assumes nothing.
use Rattle.std.specs.Prelude.{List, ℕ, ◌+◌, ◌*◌, ◌^◌}
use Rattle.rules.specs.Notation.{bits}

-- "A pixel is alpha * 2^24 + red * 2^16 + green * 2^8 + blue, on every host."
abbrev pub word : ℕ → ℕ → ℕ → ℕ → ℕ
word alpha red green blue = alpha * 2 ^ 24 + red * 2 ^ 16 + green * 2 ^ 8 + blue

-- and so these are its four bytes
abbrev pub alpha_of : ℕ → ℕ
alpha_of p = bits 31 24 p

abbrev pub red_of : ℕ → ℕ
red_of p = bits 23 16 p

abbrev pub green_of : ℕ → ℕ
green_of p = bits 15 8 p

abbrev pub blue_of : ℕ → ℕ
blue_of p = bits 7 0 p

-- what the bytes of a block show in column x of its row y
abbrev pub Shows : Type 0
Shows = List ℕ → ℕ → ℕ → ℕ
