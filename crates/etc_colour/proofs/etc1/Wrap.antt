-- The wrapped sum with no signs, at each byte: one test that antt computes.
-- Assumes nothing.
use Rattle.std.proofs.Common.{◌≡◌, ℕ, ◌+◌, ◌-◌, ◌*◌, ◌/◌, ◌%◌, ◌<◌, eqb, eqb→eq}
use Rattle.rules.specs.Colour.{wrapped}
use Rattle.laws.proofs.Every.{below}

abbrev plain : ℕ → ℕ
plain b = (8 * (b / 8) + 8 * (b % 4) + (256 - 32 * (b / 4 % 2))) % 256 / 8

pub unsigned : (b : ℕ) → b < 256 → wrapped b ≡ plain b
unfolding wrapped
unsigned b h = eqb→eq _ _ (below (λ k. eqb (wrapped k) (plain k)) 256 tt b h)
