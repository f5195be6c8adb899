-- The number that two words hold, and the fields of a number one after the other.
-- Assumes nothing.
use Rattle.std.specs.Prelude.{ℕ, zero, suc, ◌+◌, ◌-◌, ◌*◌, ◌/◌, ◌%◌, ◌^◌}
use Rattle.bc7.specs.declared.rest.Rest.{Rest}

abbrev pub whole : Rest → ℕ
whole r = r.hi * 18446744073709551616 + r.lo

-- the k-th field of b bits
abbrev pub field_of : ℕ → ℕ → ℕ → ℕ
field_of n b k = n / 2 ^ (k * b) % 2 ^ b

-- indices of b bits, one less where a bit of the mask is set: how many bits are passed before the i-th
abbrev pub width_by : ℕ → ℕ → ℕ → ℕ
width_by b mask i = b - mask / 2 ^ i % 2

unfoldable pub passed_by : ℕ → ℕ → ℕ → ℕ
passed_by b mask zero = 0
passed_by b mask (suc i) = passed_by b mask i + width_by b mask i
