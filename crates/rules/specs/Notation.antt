-- The few words of arithmetic that the rules are written in. Each of them is a short name, and unfolds everywhere.
-- Assumes nothing.
use Rattle.std.specs.Prelude.{cond, List, [], ◌∷◌, ℕ, zero, suc, ◌-◌, ◌/◌, ◌%◌, ◌^◌, min, ltb, ℤ, pos, negsuc, neg_ℤ, ◌-ℤ◌, get_or}
use Rattle.std.specs.Int.Signed.{shr_z}

-- byte k of a list of bytes, and 0 past its end
abbrev pub byte : List ℕ → ℕ → ℕ
byte d k = get_or d k 0

-- bit i of n
abbrev pub bit : ℕ → ℕ → ℕ
bit i n = n / 2 ^ i % 2

-- bits high to low of n, as a number
abbrev pub bits : ℕ → ℕ → ℕ → ℕ
bits high low n = n / 2 ^ low % 2 ^ (suc high - low)

-- what n bits say as two's complement
abbrev pub twos : ℕ → ℕ → ℤ
twos n v = cond (ltb v (2 ^ (n - 1))) (pos v) (pos v -ℤ pos (2 ^ n))

-- n less than nothing
abbrev pub minus : ℕ → ℤ
minus n = neg_ℤ (pos n)

-- z, clamped to 0..top
abbrev pub clamp : ℕ → ℤ → ℕ
clamp top (pos n) = min n top
clamp top (negsuc n) = 0

-- z modulo m, from 0 to m - 1
abbrev pub modulo : ℤ → ℕ → ℕ
modulo (pos n) m = n % m
modulo (negsuc n) m = m - 1 - n % m

-- floor(z / 4)
abbrev pub quarter : ℤ → ℤ
quarter z = shr_z z 4

-- the list of f i, f (i + 1), .. of n elements, and the list of f 0 .. f (n - 1)
abbrev pub from : {A : Type 0} → (ℕ → A) → ℕ → ℕ → List A
from f i zero = []
from f i (suc n) = f i ∷ from f (suc i) n

abbrev pub build : {A : Type 0} → ℕ → (ℕ → A) → List A
build n f = from f 0 n
