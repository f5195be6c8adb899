-- A signed expression as a difference of two natural numbers, `sub_ℕ a b`, which `omega` can bound: one law for each operation.
-- Assumes nothing.
use mathlib.Core.Path.{◌≡◌, ◌∙◌, refl, sym, ap, subst}
use Prim.Native.Nat.{ℕ, zero, suc, ◌+◌, ◌-◌, ◌*◌, ◌/◌, ◌<◌, ◌≤◌, ◌^◌, min}
use native.Mathlib.Nat.{mul-add}
use native.Mathlib.Omega.{arith}
use native.Mathlib.Decide.{dec_lt}
use lib.IntN.{ℤ, pos, negsuc, neg_ℤ, sub_ℕ, ◌+ℤ◌, ◌-ℤ◌, ◌*ℤ◌}
use mathlib.Core.Bool.{true, false}
use borrow.Author.Tests.{le-ltb}
use lib.Dec.{T}
use lib.Signed.{mag, shr_z, lt_z, quot_z}
use mir.Syntax.{Width}
use mir.Val.{SFits, to_z, hbits}
use mir.ValLaws.{to_z-of_z, to_z_pos}
use Rattle.rules.specs.Notation.{clamp}
use Rattle.laws.proofs.Signed.{neg, nat, held}

-- two differences are equal where the cross sums are
pub even : (a b c d : ℕ) → a + d ≡ c + b → sub_ℕ a b ≡ sub_ℕ c d
even a b c d e =
    elim (dec_lt a b) [
      | yes p ↦ neg a b p ∙ ap negsuc (omega arith) ∙ sym (neg c d (omega arith))
      | no q ↦ nat a b (omega (arith, q)) ∙ ap pos (omega (arith, q)) ∙ sym (nat c d (omega (arith, q)))
    ]

pub whole : (n : ℕ) → pos n ≡ sub_ℕ n 0
whole n = sym (nat n 0 (omega arith) ∙ ap pos (omega arith))

opposite : (n : ℕ) → neg_ℤ (pos n) ≡ sub_ℕ 0 n
opposite zero = refl
opposite (suc n) = sym (neg 0 (suc n) (omega arith) ∙ ap negsuc (omega arith))

turned : (a b : ℕ) → neg_ℤ (sub_ℕ a b) ≡ sub_ℕ b a
turned a b =
    elim (dec_lt a b) [
      | yes p ↦ ap neg_ℤ (neg a b p) ∙ ap pos (omega arith) ∙ sym (nat b a (omega arith))
      | no q ↦ ap neg_ℤ (nat a b (omega (arith, q))) ∙ opposite (a - b) ∙ even 0 (a - b) b a (omega (arith, q))
    ]

pub sum : (a b c d : ℕ) → sub_ℕ a b +ℤ sub_ℕ c d ≡ sub_ℕ (a + c) (b + d)
sum a b c d =
    elim (dec_lt a b) [
      | yes p ↦ elim (dec_lt c d) [
        | yes q ↦ rw (neg a b p, neg c d q) (ap negsuc (omega arith) ∙ sym (neg (a + c) (b + d) (omega arith)))
        | no q ↦ rw (neg a b p, nat c d (omega (arith, q))) (even (c - d) (suc (b - suc a)) (a + c) (b + d) (omega (arith, q)))
      ]
      | no p ↦ elim (dec_lt c d) [
        | yes q ↦ rw (nat a b (omega (arith, p)), neg c d q) (even (a - b) (suc (d - suc c)) (a + c) (b + d) (omega (arith, p)))
        | no q ↦ rw (nat a b (omega (arith, p)), nat c d (omega (arith, q))) (ap pos (omega (arith, p, q)) ∙ sym (nat (a + c) (b + d) (omega (arith, p, q))))
      ]
    ]

pub less : (a b c d : ℕ) → sub_ℕ a b -ℤ sub_ℕ c d ≡ sub_ℕ (a + d) (b + c)
less a b c d = ap (λ (z : ℤ). sub_ℕ a b +ℤ z) (turned c d) ∙ sum a b d c

pub times : (m a b : ℕ) → pos m *ℤ sub_ℕ a b ≡ sub_ℕ (m * a) (m * b)
times m a b =
    elim (dec_lt a b) [
      | yes p ↦
          let s : suc (b - suc a) + a ≡ b = omega arith in
          let t : m * suc (b - suc a) + m * a ≡ m * b = sym (mul-add m (suc (b - suc a)) a) ∙ ap (λ (x : ℕ). m * x) s in
          ap (λ (z : ℤ). pos m *ℤ z) (neg a b p) ∙ opposite (m * suc (b - suc a)) ∙ even 0 (m * suc (b - suc a)) (m * a) (m * b) (omega arith)
      | no q ↦
          let s : (a - b) + b ≡ a = omega (arith, q) in
          let t : m * (a - b) + m * b ≡ m * a = sym (mul-add m (a - b) b) ∙ ap (λ (x : ℕ). m * x) s in
          ap (λ (z : ℤ). pos m *ℤ z) (nat a b (omega (arith, q))) ∙ whole (m * (a - b)) ∙ even (m * (a - b)) 0 (m * a) (m * b) (omega arith)
    ]

mag_diff : (a b n : ℕ) → a < n → b ≤ n → mag (sub_ℕ a b) < n
mag_diff a b n h k =
    elim (dec_lt a b) [
      | yes p ↦ rw (neg a b p) (omega arith)
      | no q ↦ rw (nat a b (omega (arith, q))) (omega arith)
    ]

quartered : (a b : ℕ) → clamp 255 (shr_z (sub_ℕ a b) 4) ≡ min ((a - b) / 4) 255
quartered a b =
    elim (dec_lt a b) [
      | yes p ↦ ap (λ (z : ℤ). clamp 255 (shr_z z 4)) (neg a b p) ∙ (omega arith)
      | no q ↦ ap (λ (z : ℤ). clamp 255 (shr_z z 4)) (nat a b (omega (arith, q)))
    ]

-- `Is z a b`: z is the difference of a and b. A law for each operation, of the integers and of the machine
pub record Is (z : ℤ) (a b : ℕ) : Type 0 where
  pub eq : z ≡ sub_ℕ a b

pub is_gap : {z y : ℤ} {a c : ℕ} → Is z a 0 → Is y c 0 → Is (z -ℤ y) a c
is_gap {z} {y} {a} {c} p q = record { eq = ap (λ (u : ℤ). u -ℤ y) p.eq ∙ ap (λ (u : ℤ). sub_ℕ a 0 -ℤ u) q.eq ∙ less a 0 c 0 ∙ even (a + 0) (0 + c) a c (omega arith) }

module _ {z y : ℤ} {a b c : ℕ} where
  pub is_plus : Is z a b → Is y c 0 → Is (z +ℤ y) (a + c) b
  is_plus p q = record { eq = ap (λ (u : ℤ). u +ℤ y) p.eq ∙ ap (λ (u : ℤ). sub_ℕ a b +ℤ u) q.eq ∙ sum a b c 0 ∙ even (a + c) (b + 0) (a + c) b (omega arith) }

  pub is_times : Is y c 0 → Is z a b → Is (y *ℤ z) (c * a) (c * b)
  is_times q p = record { eq = ap (λ (u : ℤ). u *ℤ z) (q.eq ∙ sym (whole c)) ∙ ap (λ (u : ℤ). pos c *ℤ u) p.eq ∙ times c a b }

pub is_sum : {z y : ℤ} {a b c d : ℕ} → Is z a b → Is y c d → Is (z +ℤ y) (a + c) (b + d)
is_sum {z} {y} {a} {b} {c} {d} p q = record { eq = ap (λ (u : ℤ). u +ℤ y) p.eq ∙ ap (λ (u : ℤ). sub_ℕ a b +ℤ u) q.eq ∙ sum a b c d }

pub is_pos : (n : ℕ) → Is (pos n) n 0
is_pos n = record { eq = whole n }

module _ (w : Width) where
  pub is_cast : (a : ℕ) → a < 2 ^ hbits w → Is (to_z w a) a 0
  is_cast a h = record { eq = to_z_pos w a h ∙ whole a }

  module _ {z : ℤ} {a b : ℕ} (e : Is z a b) (h : a < 2 ^ hbits w) (k : b ≤ 2 ^ hbits w) where
    pub is_fits : SFits w z
    is_fits = record { sfits = rw e.eq (mag_diff a b (2 ^ hbits w) h k) }

    pub is_held : Is (held w z) a b
    is_held = record { eq = to_z-of_z w z is_fits ∙ e.eq }

-- the sign, and a quotient toward zero of what is not negative
module _ {z : ℤ} {a b : ℕ} (e : Is z a b) where
  pub is_negative : lt_z z (pos 0) ≡ true → a < b
  is_negative t =
      elim (dec_lt a b) [
        | yes p ↦ p
        | no q ↦ absurd (subst T (sym t ∙ ap (λ (u : ℤ). lt_z u (pos 0)) (e.eq ∙ nat a b (omega (arith, q))) ∙ le-ltb (a - b) 0 (omega arith)) tt)
      ]

  pub is_natural : lt_z z (pos 0) ≡ false → b ≤ a
  is_natural t =
      elim (dec_lt a b) [
        | yes p ↦ absurd (subst T (sym (ap (λ (u : ℤ). lt_z u (pos 0)) (e.eq ∙ neg a b p)) ∙ t) tt)
        | no q ↦ omega (arith, q)
      ]

  pub is_quotient : (n : ℕ) → b ≤ a → quot_z z (pos n) ≡ pos ((a - b) / n)
  is_quotient n h = ap (λ (u : ℤ). quot_z u (pos n)) (e.eq ∙ nat a b h)

  -- a fourth, rounded down and clamped
  pub is_quartered : clamp 255 (shr_z z 4) ≡ min ((a - b) / 4) 255
  is_quartered = ap (λ (u : ℤ). clamp 255 (shr_z u 4)) e.eq ∙ quartered a b
