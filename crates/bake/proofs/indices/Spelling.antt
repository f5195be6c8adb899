-- The words of the index bits, spelt from the last pixel down.
-- Assumes nothing.
use mathlib.Core.Path.{◌≡◌, ◌∙◌, refl, ap}
use Prim.Native.Nat.{ℕ, ◌+◌, ◌-◌, ◌*◌, ◌/◌, ◌%◌, ◌<◌, ◌≤◌}
use native.Mathlib.Omega.{arith}
use Rattle.rules.specs.Counting.{from_bits_lem}
use Rattle.rules.specs.Baking.{high_of, low_of}
use Rattle.bake.proofs.baking.Bits.{bits_small, bits_turn}

abbrev pub high : (ℕ → ℕ) → ℕ → ℕ
high index i = index (4 * (i % 4) + i / 4) / 2

abbrev pub low : (ℕ → ℕ) → ℕ → ℕ
low index i = index (4 * (i % 4) + i / 4) % 2

-- the bits of the pixels from i on
pub record Spelt (index : ℕ → ℕ) (i h l : ℕ) : Type 0 where
  pub within : i ≤ 16
  pub upper : h ≡ from_bits_lem (high index) i (16 - i)
  pub lower : l ≡ from_bits_lem (low index) i (16 - i)

module _ (index : ℕ → ℕ) where
  pub begun : Spelt index 16 0 0
  unfolding from_bits_lem
  begun = record { within = omega arith; upper = refl; lower = refl }

  pub turned : (i h l v : ℕ) → Spelt index i h l → 0 < i → v ≡ index (4 * ((i - 1) % 4) + (i - 1) / 4) → Spelt index (i - 1) (h * 2 + v / 2) (l * 2 + v % 2)
  turned i h l v p q e =
      record {
        within = omega (arith, p.within);
        upper = ap (λ (x : ℕ). x * 2 + v / 2) p.upper ∙ ap (λ (x : ℕ). from_bits_lem (high index) i (16 - i) * 2 + x / 2) e ∙ bits_turn (high index) 16 i q p.within;
        lower = ap (λ (x : ℕ). x * 2 + v % 2) p.lower ∙ ap (λ (x : ℕ). from_bits_lem (low index) i (16 - i) * 2 + x % 2) e ∙ bits_turn (low index) 16 i q p.within;
      }

  pub small : ((k : ℕ) → index k < 4) → (i h l : ℕ) → Spelt index i h l → (h < 65536) × (l < 65536)
  small four i h l p = (
    rw p.upper (bits_small (high index) 16 (λ j m. omega (arith, four (4 * (j % 4) + j / 4))) i (16 - i) 16 (omega (arith, p.within)) (omega arith)),
    rw p.lower (bits_small (low index) 16 (λ j m. omega arith) i (16 - i) 16 (omega (arith, p.within)) (omega arith)),
  )

  pub ended : (i h l : ℕ) → Spelt index i h l → i ≡ 0 → (h ≡ high_of index) × (l ≡ low_of index)
  ended i h l p e = (
    p.upper ∙ ap (λ (x : ℕ). from_bits_lem (high index) x (16 - x)) e,
    p.lower ∙ ap (λ (x : ℕ). from_bits_lem (low index) x (16 - x)) e,
  )
