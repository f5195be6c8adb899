-- Numbers in bytes: what n bytes at a place of a list say, and the n bytes of a number, in either order. A byte that is missing
-- reads as 0.
-- Assumes nothing.
use Rattle.std.specs.Prelude.{List, [], ◌∷◌, ◌++◌, ℕ, zero, suc, ◌+◌, ◌*◌, ◌/◌, ◌%◌, get_or}

-- what n bytes say, from byte k on, the least first
unfoldable pub little : ℕ → ℕ → List ℕ → ℕ
little zero k d = 0
little (suc n) k d = get_or d k 0 + 256 * little n (suc k) d

-- and the greatest first: each byte after the first says what is below those before it
unfoldable pub big : ℕ → ℕ → List ℕ → ℕ
big zero k d = 0
big (suc n) k d = 256 * big n k d + get_or d (k + n) 0

-- a number in n bytes, the least first; what n bytes cannot say is left out
unfoldable pub in_bytes : ℕ → ℕ → List ℕ
in_bytes zero x = []
in_bytes (suc n) x = x % 256 ∷ in_bytes n (x / 256)

-- and the greatest first
unfoldable pub big_bytes : ℕ → ℕ → List ℕ
big_bytes zero x = []
big_bytes (suc n) x = big_bytes n (x / 256) ++ (x % 256 ∷ [])
