-- The endpoints stage: values read one after the other are the fields of the definition.
-- Assumes nothing.
use mathlib.Core.Path.{◌≡◌, ◌∙◌, sym, ap, subst}
use mathlib.Core.Bool.{Bool, true, false, cond}
use mathlib.Core.List.{List}
use Prim.Native.Nat.{ℕ, ◌+◌, ◌*◌, ◌/◌, ◌%◌, ◌^◌, ◌<◌}
use native.Mathlib.Omega.{arith}
use lib.Dec.{eqb}
use lib.ListN.{get_or}
use lib.Pow.{shr-shr}
use Rattle.rules.specs.Bits.{field}
use Rattle.rules.specs.Bc7.{expand, colour_place, alpha_place, p_place, index_place, p_bits, p_count_lem, p_of, colour_end, alpha_end}
use Rattle.rules.specs.declared.Mode.{Mode}
use Rattle.bc7.specs.rest.Whole.{field_of}

-- a field of what is left is a field of the whole
pub field_at : (d w p b j : ℕ) → w ≡ d / 2 ^ p → field_of w b j ≡ field d (p + j * b) b
field_at d w p b j e = ap (λ (x : ℕ). field_of x b j) e ∙ ap (λ (x : ℕ). x % 2 ^ b) (shr-shr d p (j * b))

module _ (d m : ℕ) (k : Mode) where
  pub record Fetched (cv av pv : List ℕ) (left : ℕ) : Type 0 where
    pub colours : (j : ℕ) → j < 6 * k.subsets → get_or cv j 0 ≡ field d (colour_place m k + j * k.colour) k.colour
    pub alphas : (j : ℕ) → j < 2 * k.subsets → get_or av j 0 ≡ field d (alpha_place m k + j * k.alpha) k.alpha
    pub ps : (j : ℕ) → j < p_count_lem m k → get_or pv j 0 ≡ field d (p_place m k + j * p_bits m k) (p_bits m k)
    pub rest : left ≡ d / 2 ^ index_place m k

  pub fetched : (cv av pv : List ℕ) (w₁ w₂ w₃ w₄ n : ℕ)
      → w₁ ≡ d / 2 ^ colour_place m k
      → ((j : ℕ) → j < 3 * (2 * k.subsets) → get_or cv j 0 ≡ field_of w₁ k.colour j) → w₂ ≡ w₁ / 2 ^ (3 * (2 * k.subsets) * k.colour)
      → ((j : ℕ) → j < 2 * k.subsets → get_or av j 0 ≡ field_of w₂ k.alpha j) → w₃ ≡ w₂ / 2 ^ (2 * k.subsets * k.alpha)
      → n ≡ p_count_lem m k → ((j : ℕ) → j < n → get_or pv j 0 ≡ field_of w₃ (p_bits m k) j) → w₄ ≡ w₃ / 2 ^ (n * p_bits m k)
      → Fetched cv av pv w₄
  fetched cv av pv w₁ w₂ w₃ w₄ n e₁ c e₂ a e₃ q p e₄ =
      let s : 3 * (2 * k.subsets) ≡ 6 * k.subsets = omega arith in
      let f₂ : w₂ ≡ d / 2 ^ alpha_place m k =
      e₂ ∙ ap (λ (x : ℕ). x / 2 ^ (3 * (2 * k.subsets) * k.colour)) e₁ ∙ shr-shr d (colour_place m k) (3 * (2 * k.subsets) * k.colour)
      ∙ ap (λ (x : ℕ). d / 2 ^ (colour_place m k + x * k.colour)) s in
      let f₃ : w₃ ≡ d / 2 ^ p_place m k = e₃ ∙ ap (λ (x : ℕ). x / 2 ^ (2 * k.subsets * k.alpha)) f₂ ∙ shr-shr d (alpha_place m k) (2 * k.subsets * k.alpha) in
      record {
        colours = λ j h. c j (omega arith) ∙ field_at d w₁ (colour_place m k) k.colour j e₁;
        alphas = λ j h. a j h ∙ field_at d w₂ (alpha_place m k) k.alpha j f₂;
        ps = λ j h. p j (subst (λ (x : ℕ). j < x) (sym q) h) ∙ field_at d w₃ (p_place m k) (p_bits m k) j f₃;
        rest = e₄ ∙ ap (λ (x : ℕ). x / 2 ^ (n * p_bits m k)) f₃ ∙ shr-shr d (p_place m k) (n * p_bits m k) ∙ ap (λ (x : ℕ). d / 2 ^ (p_place m k + x * p_bits m k)) q;
      }

  -- which p-bit
  within : (t : Bool) (e s : ℕ) → e < 2 * s → cond t e (e / 2) < cond t (2 * s) s
  within true e s h = h
  within false e s h = omega arith

  module _ {cv av pv : List ℕ} {left : ℕ} (f : Fetched cv av pv left) where
    p_at : (e : ℕ) → e < 2 * k.subsets → get_or pv (cond (eqb k.shared 0) e (e / 2)) 0 ≡ p_of d m k e
    p_at e h = f.ps (cond (eqb k.shared 0) e (e / 2)) (within (eqb k.shared 0) e k.subsets h)

    pub colour_end_lem : (c at e x : ℕ) → at ≡ c * (2 * k.subsets) → c * (2 * k.subsets) + e < 6 * k.subsets → e < 2 * k.subsets
        → x ≡ expand (k.colour + p_bits m k) (get_or cv (at + e) 0 * 2 ^ p_bits m k + get_or pv (cond (eqb k.shared 0) e (e / 2)) 0)
        → x ≡ colour_end d m k c e
    colour_end_lem c at e x q h l y =
        y
        ∙ ap (λ (z : ℕ). expand (k.colour + p_bits m k) (z * 2 ^ p_bits m k + get_or pv (cond (eqb k.shared 0) e (e / 2)) 0))
        (ap (λ (z : ℕ). get_or cv (z + e) 0) q ∙ f.colours (c * (2 * k.subsets) + e) h)
        ∙ ap (λ (z : ℕ). expand (k.colour + p_bits m k) (field d (colour_place m k + (c * (2 * k.subsets) + e) * k.colour) k.colour * 2 ^ p_bits m k + z)) (p_at e l)

    pub alpha_end_lem : (e x : ℕ) → eqb k.alpha 0 ≡ false → e < 2 * k.subsets
        → x ≡ expand (k.alpha + p_bits m k) (get_or av (0 + e) 0 * 2 ^ p_bits m k + get_or pv (cond (eqb k.shared 0) e (e / 2)) 0)
        → x ≡ alpha_end d m k e
    alpha_end_lem e x t l y =
        let z0 : 0 + e ≡ e = omega arith in
        y
        ∙ ap (λ (z : ℕ). expand (k.alpha + p_bits m k) (z * 2 ^ p_bits m k + get_or pv (cond (eqb k.shared 0) e (e / 2)) 0)) (ap (λ (z : ℕ). get_or av z 0) z0 ∙ f.alphas e l)
        ∙ ap (λ (z : ℕ). expand (k.alpha + p_bits m k) (field d (alpha_place m k + e * k.alpha) k.alpha * 2 ^ p_bits m k + z)) (p_at e l)
        ∙ sym (ap (λ (b : Bool). cond b 255 (expand (k.alpha + p_bits m k) (field d (alpha_place m k + e * k.alpha) k.alpha * 2 ^ p_bits m k + p_of d m k e))) t)
