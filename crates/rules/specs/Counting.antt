-- Of the places 0 .. n - 1: the first at which a number is least, the sum, the greatest, a test at each; and a number by its bits.
-- Assumes nothing.
use Rattle.std.specs.Prelude.{Bool, true, cond, ◌&&◌, ℕ, zero, suc, ◌+◌, ◌*◌, max, ltb}

-- n where f is less there than at m, and else m
abbrev pub lower : (ℕ → ℕ) → ℕ → ℕ → ℕ
lower f n m = cond (ltb (f n) (f m)) n m

-- the first of the places 0 .. n - 1 at which f is least; the twin of `first_of`
unfoldable pub least_of_lem : (ℕ → ℕ) → ℕ → ℕ
least_of_lem f zero = zero
least_of_lem f (suc n) = lower f n (least_of_lem f n)

-- f 0 + .. + f (n - 1)
unfoldable pub sum_of : (ℕ → ℕ) → ℕ → ℕ
sum_of f zero = zero
sum_of f (suc n) = sum_of f n + f n

-- the greatest of f 0 .. f (n - 1), and 0 where there are none
unfoldable pub most_of : (ℕ → ℕ) → ℕ → ℕ
most_of f zero = zero
most_of f (suc n) = max (f n) (most_of f n)

-- whether a test holds at each of the places 0 .. n - 1
unfoldable pub each : (ℕ → Bool) → ℕ → Bool
each test zero = true
each test (suc n) = test n && each test n

-- the number whose n bits, from the lowest on, are f i, f (i + 1), ..
unfoldable pub from_bits_lem : (ℕ → ℕ) → ℕ → ℕ → ℕ
from_bits_lem f i zero = zero
from_bits_lem f i (suc n) = f i + 2 * from_bits_lem f (suc i) n
