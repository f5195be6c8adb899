-- The bits of a list of bytes, and what a read of some of them answers (M-108 of document 02).
-- Assumes nothing.
use Rattle.std.specs.Prelude.{Option, Some, None, Bool, cond, ◌||◌, List, [], ◌∷◌, ℕ, ◌+◌, ◌*◌, ◌/◌, ◌%◌, ◌^◌, ltb, length}
use Rattle.numbers.specs.Numbers.{little}

-- the bytes as one number, the first byte lowest: bit i of the bytes is bit i of this number
unfoldable pub number : List ℕ → ℕ
number d = little (length d) 0 d

-- n bits from bit p on, "lowest bit first": of a number, and of bytes
abbrev pub field : ℕ → ℕ → ℕ → ℕ
field v p n = v / 2 ^ p % 2 ^ n

abbrev pub field_at : List ℕ → ℕ → ℕ → ℕ
field_at d p n = field (number d) p n

-- n bits from bit p on are "past the lent bytes"; a place beyond 64 bits can't be named, and is past them too
abbrev pub lacks : List ℕ → ℕ → ℕ → Bool
lacks d p n = ltb (length d * 8) (p + n) || ltb 18446744073709551615 (p + n)

-- "a read of over 8 bits, or past the lent bytes, is refused"
unfoldable pub refuses : List ℕ → ℕ → ℕ → Bool
refuses d p n = ltb 8 n || lacks d p n

-- a read's answer, the bits or none, as document 01 has answers, a number and its values: "is refused with 2"
abbrev pub bits_said : Option ℕ → List ℕ
bits_said (Some v) = 0 ∷ v ∷ []
bits_said None = 2 ∷ []

-- what a read answers, and where the place is after it: "the place kept"
abbrev pub read_verdict : List ℕ → ℕ → ℕ → List ℕ
read_verdict d p n = cond (refuses d p n) (2 ∷ []) (0 ∷ field_at d p n ∷ [])

abbrev pub place_after_lem : List ℕ → ℕ → ℕ → ℕ
place_after_lem d p n = cond (refuses d p n) p (p + n)
