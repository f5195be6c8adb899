-- The invariants of the two loops over what is left of a block's bits, and their steps.
-- Assumes nothing.
use mathlib.Core.Path.{◌≡◌, ◌∙◌, refl, sym, ap}
use mathlib.Core.List.{List}
use Prim.Native.Nat.{ℕ, zero, suc, ◌+◌, ◌-◌, ◌*◌, ◌/◌, ◌%◌, ◌^◌, ◌<◌, ◌≤◌}
use native.Mathlib.Nat.{add-mul, one-mul, zero-mul, div-one}
use native.Mathlib.Numerals.{add-one}
use native.Mathlib.Omega.{arith}
use lib.ListN.{length, get_or, set, replicate, length-set}
use lib.Seq.{get_or-set_other}
use lib.Pow.{shr-shr}
use Rattle.laws.proofs.Filled.{fills}
use Rattle.laws.proofs.Filling.{Filling, in_order_lem, stored_next}
use Rattle.bc7.specs.rest.Whole.{field_of, width_by, passed_by}

-- nothing but 0
pub blank : (n k : ℕ) → ◌≡◌ {A = ℕ} (get_or (replicate n 0) k 0) 0
blank zero k = refl
blank (suc n) zero = refl
blank (suc n) (suc k) = blank n k

-- i of the fields of the number v are read, of b bits each, and w is what is left
pub record Several (v count b w : ℕ) (out : List ℕ) (i : ℕ) : Type 0 where
  pub turns : i ≤ count
  pub size : length out ≡ 24
  pub passed : (k : ℕ) → k < i → get_or out k 0 ≡ field_of v b k
  pub others : (k : ℕ) → i ≤ k → get_or out k 0 ≡ 0
  pub left : w ≡ v / 2 ^ (i * b)

module _ (v count b : ℕ) where
  pub begun : Several v count b v (replicate 24 0) 0
  begun =
      record {
        turns = omega arith;
        size = refl;
        passed = λ k h. absurd (omega arith);
        others = λ k h. blank 24 k;
        left = sym (ap (λ (m : ℕ). v / 2 ^ m) (zero-mul b) ∙ div-one v);
      }

  pub read : (w w' : ℕ) (out : List ℕ) (i x : ℕ) → Several v count b w out i → i < count → count ≤ 24 → x ≡ w % 2 ^ b → w' ≡ w / 2 ^ b → Several v count b w' (set out i x) (i + 1)
  read w w' out i x p h c e f =
      let n : i * b + b ≡ (i + 1) * b = sym (add-mul i 1 b ∙ ap (λ (m : ℕ). i * b + m) (one-mul b)) in
      record {
        turns = omega arith;
        size = length-set out i x ∙ p.size;
        passed = fills (field_of v b) 0 out i x (omega (arith, p.size)) p.passed (e ∙ ap (λ (m : ℕ). m % 2 ^ b) p.left);
        others = λ k j. get_or-set_other out i k x 0 (λ q. omega arith) ∙ p.others k (omega arith);
        left = f ∙ ap (λ (m : ℕ). m / 2 ^ b) p.left ∙ shr-shr v (i * b) b ∙ ap (λ (m : ℕ). v / 2 ^ m) n;
      }

-- index i of the number v
abbrev pub index_of : ℕ → ℕ → ℕ → ℕ → ℕ
index_of v b mask i = v / 2 ^ passed_by b mask i % 2 ^ width_by b mask i

pub record Indexed (v b mask w m : ℕ) (out : List ℕ) (i : ℕ) : Type 0 where
  pub filling : Filling in_order_lem (index_of v b mask) 0 16 i out
  pub word : w ≡ v / 2 ^ passed_by b mask i
  pub anchors : m ≡ mask / 2 ^ i

module _ (v b mask : ℕ) where
  pub started : Indexed v b mask v mask (replicate 16 0) 0
  unfolding passed_by
  started =
      record {
        filling = record { turns = omega arith; size = refl; passed = λ k h t. absurd (omega arith) };
        word = sym (div-one v);
        anchors = sym (div-one mask);
      }

  pub indexed : (w m : ℕ) (out : List ℕ) (i x : ℕ) → Indexed v b mask w m out i → i < 16 → x ≡ w % 2 ^ (b - m % 2) → Indexed v b mask (w / 2 ^ (b - m % 2)) (m / 2) (set out i x) (i + 1)
  unfolding passed_by
  indexed w m out i x p h e =
      let n : b - m % 2 ≡ width_by b mask i = ap (λ (y : ℕ). b - y % 2) p.anchors in
      let s : passed_by b mask (i + 1) ≡ passed_by b mask i + width_by b mask i = ap (passed_by b mask) (add-one i) in
      record {
        filling = stored_next (index_of v b mask) 0 16 out i p.filling x h (e ∙ ap (λ (y : ℕ). w % 2 ^ y) n ∙ ap (λ (y : ℕ). y % 2 ^ width_by b mask i) p.word);
        word =
            ap (λ (y : ℕ). w / 2 ^ y) n
            ∙ ap (λ (y : ℕ). y / 2 ^ width_by b mask i) p.word
            ∙ shr-shr v (passed_by b mask i) (width_by b mask i)
            ∙ ap (λ (y : ℕ). v / 2 ^ y) (sym s);
        anchors = ap (λ (y : ℕ). y / 2) p.anchors ∙ shr-shr mask i 1;
      }
