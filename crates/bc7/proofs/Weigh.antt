-- The weights and the pixels: what the code's lists hold at pixel i is what the definition says.
-- Assumes nothing.
use mathlib.Core.Path.{◌≡◌, ◌∙◌, refl, sym, ap}
use Prim.Native.Nat.{ℕ, zero, suc, ◌+◌, ◌-◌, ◌*◌, ◌/◌, ◌%◌, ◌^◌, ◌<◌, ◌≤◌}
use native.Mathlib.Nat.{mod-lt}
use native.Mathlib.Omega.{arith}
use lib.Dec.{lit≤}
use lib.Pow.{shr-shr, split, pow_pos}
use Rattle.rules.specs.Bits.{field}
use Rattle.rules.specs.Bc7.{index_bits, bits_before}
use Rattle.laws.proofs.Order.{low_field}
use Rattle.bc7.specs.rest.Whole.{width_by, passed_by}
use Rattle.bc7.specs.bptc.Layout.{layout_of}
use Rattle.bc7.proofs.bptc.Layouts.{anchor_said}

-- the 64 bits next hold a field that ends within them
pub in_word : (x q w : ℕ) → q + w ≤ 64 → x % 2 ^ 64 / 2 ^ q % 2 ^ w ≡ x / 2 ^ q % 2 ^ w
in_word x q w h = sym (ap (λ (y : ℕ). y / 2 ^ q % 2 ^ w) (sym (split x 64)) ∙ low_field 64 (x / 2 ^ 64) (x % 2 ^ 64) q w (mod-lt x (pow_pos 64)) h)

pub passed_most : (b mask i : ℕ) → b ≤ 4 → passed_by b mask i ≤ i * 4
unfolding passed_by
passed_most b mask zero h = lit≤ tt
passed_most b mask (suc i) h = omega (arith, passed_most b mask i h)

-- with the anchors of a partition for the mask
module _ (n p : ℕ) (h : n < 3) (l : p < 64) where
  abbrev mask_of : ℕ
  mask_of = layout_of (suc n) p / 4294967296

  pub width_said : (b i : ℕ) → i < 16 → width_by b mask_of i ≡ index_bits b (suc n) p i
  width_said b i j = ap (λ (x : ℕ). b - x) (anchor_said n p i h l j)

  pub passed_said : (b i : ℕ) → i ≤ 16 → passed_by b mask_of i ≡ bits_before b (suc n) p i
  unfolding passed_by bits_before
  passed_said b zero j = refl
  passed_said b (suc i) j =
      ap (λ (x : ℕ). x + width_by b mask_of i) (passed_said b i (omega arith)) ∙ ap (λ (x : ℕ). bits_before b (suc n) p i + x) (width_said b i (omega arith))

  -- the index of pixel i, of b bits, read from the 64 bits at a place
  pub index_said : (d place v b i : ℕ) → b ≤ 4 → i < 16 → v ≡ d / 2 ^ place % 2 ^ 64
      → v / 2 ^ passed_by b mask_of i % 2 ^ width_by b mask_of i ≡ field d (place + bits_before b (suc n) p i) (index_bits b (suc n) p i)
  index_said d place v b i k j e =
      let most-said : passed_by b mask_of i + width_by b mask_of i ≤ 64 = omega (arith, passed_most b mask_of i k) in
      ap (λ (x : ℕ). x / 2 ^ passed_by b mask_of i % 2 ^ width_by b mask_of i) e
      ∙ in_word (d / 2 ^ place) (passed_by b mask_of i) (width_by b mask_of i) most-said
      ∙ ap (λ (x : ℕ). x % 2 ^ width_by b mask_of i) (shr-shr d place (passed_by b mask_of i))
      ∙ ap (λ (x : ℕ). d / 2 ^ (place + x) % 2 ^ width_by b mask_of i) (passed_said b i (omega arith))
      ∙ ap (λ (x : ℕ). d / 2 ^ (place + bits_before b (suc n) p i) % 2 ^ x) (width_said b i j)
