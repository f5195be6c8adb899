-- Signed numbers by cases, for `omega`: the bound of a sum and of a product, and the three ways of a clamp.
-- Assumes nothing.
use mathlib.Core.Path.{◌≡◌, ◌∙◌, refl, sym, ap, subst}
use mathlib.Core.Bool.{Bool, true, false}
use Prim.Native.Nat.{ℕ, zero, suc, ◌+◌, ◌-◌, ◌*◌, ◌<◌, ◌≤◌, ◌^◌}
use native.Mathlib.Omega.{arith}
use native.Mathlib.Decide.{dec_lt}
use borrow.Author.Tests.{lt-ltb, le-ltb, ltb-true, ltb-false}
use lib.Dec.{T, ltb, ltb→lt}
use lib.ListN.{get_or}
use mathlib.Core.List.{List, [], ◌∷◌}
use Rattle.laws.proofs.Every.{both, both_left, both_right}
use lib.IntN.{ℤ, pos, negsuc, neg_ℤ, nat_abs, sub_ℕ, ◌+ℤ◌, ◌-ℤ◌, ◌*ℤ◌, +ℤ_idl}
use native.Mathlib.Nat.{le-suc, le_trans, mul-le-mul_left, mul-le-mul_right}
use lib.Signed.{mag, lt_z, non_neg}
use mir.Syntax.{Width}
use mir.Val.{SFits, to_z, of_z, hbits}
use mir.ValLaws.{to_z-of_z, to_z_pos}
use Rattle.rules.specs.Notation.{clamp}

pub neg : (a b : ℕ) → a < b → sub_ℕ a b ≡ negsuc (b - suc a)
neg a b h = rw (lt-ltb a b h)

pub nat : (a b : ℕ) → b ≤ a → sub_ℕ a b ≡ pos (a - b)
nat a b h = rw (le-ltb a b h)

mag_sub : (a b : ℕ) → mag (sub_ℕ a b) ≤ a + (b - 1)
mag_sub a b =
    elim (dec_lt a b) [
      | yes p ↦ rw (neg a b p) (omega arith)
      | no q ↦ rw (nat a b (omega (arith, q))) (omega arith)
    ]

-- the sum of a natural number and a signed one
pub mag_add : (a : ℕ) (z : ℤ) → mag (pos a +ℤ z) ≤ a + mag z
mag_add a (pos b) = omega arith
mag_add a (negsuc b) = omega (arith, mag_sub a (suc b))

-- the three ways of a clamp to 0..top
low : (top : ℕ) (z : ℤ) → lt_z z (pos 0) ≡ true → 0 ≡ clamp top z
low top (pos n) h = omega (arith, ltb-true n 0 h)
low top (negsuc n) h = refl

high : (top : ℕ) (z : ℤ) → lt_z (pos top) z ≡ true → top ≡ clamp top z
high top (pos n) h = omega (arith, ltb-true top n h)
high top (negsuc n) h = absurd (subst T (sym h) tt)

mid : (top : ℕ) (z : ℤ) → lt_z z (pos 0) ≡ false → lt_z (pos top) z ≡ false → T (non_neg z) × (nat_abs z ≤ top) × (nat_abs z ≡ clamp top z) × (z ≡ pos (nat_abs z))
mid top (pos n) l h = (tt, omega (arith, ltb-false top n h), omega (arith, ltb-false top n h), refl)
mid top (negsuc n) l h = absurd (subst T l tt)

-- what is clamped is at most the top
pub clamp_le : (top : ℕ) (z : ℤ) → clamp top z ≤ top
clamp_le top (pos n) = omega arith
clamp_le top (negsuc n) = omega arith

-- the same, of a number as the machine holds it
abbrev pub held : Width → ℤ → ℤ
held w z = to_z w (of_z w z)

module _ (w : Width) (top : ℕ) (z : ℤ) (f : SFits w z) where
  pub clamp_low : lt_z (held w z) (pos 0) ≡ true → 0 ≡ clamp top z
  clamp_low h = low top z (rw (to_z-of_z w z f) at h)

  pub clamp_high : lt_z (pos top) (held w z) ≡ true → top ≡ clamp top z
  clamp_high h = high top z (rw (to_z-of_z w z f) at h)

  pub clamp_mid : lt_z (held w z) (pos 0) ≡ false → lt_z (pos top) (held w z) ≡ false
      → T (non_neg (held w z)) × (nat_abs (held w z) ≤ top) × (nat_abs (held w z) ≡ clamp top z) × (held w z ≡ pos (nat_abs (held w z)))
  clamp_mid l h = rw (to_z-of_z w z f) (mid top z (rw (to_z-of_z w z f) at l) (rw (to_z-of_z w z f) at h))

-- an unsigned number, cast to a signed type, and a signed one: the sum fits, and is the sum
module _ (w : Width) (a : ℕ) (z : ℤ) (f : SFits w z) (b : a + mag z < 2 ^ hbits w) where
  pub sum_fits : SFits w (to_z w a +ℤ held w z)
  sum_fits = rw (to_z_pos w a (omega arith), to_z-of_z w z f) (record { sfits = omega (arith, mag_add a z) })

  pub sum_held : held w (to_z w a +ℤ held w z) ≡ pos a +ℤ z
  sum_held = to_z-of_z w _ sum_fits ∙ rw (to_z_pos w a (omega arith), to_z-of_z w z f)

-- a number that is small is held as it is
pub held_small : (w : Width) (z : ℤ) → mag z < 2 ^ hbits w → held w z ≡ z
held_small w z h = to_z-of_z w z (record { sfits = h })

-- every number of a list is small: a test that antt computes
abbrev pub small : ℕ → List ℤ → Bool
small n [] = true
small n (z ∷ l) = both (ltb (mag z) n) (small n l)

pub small_at : (n : ℕ) (l : List ℤ) → 0 < n → T (small n l) → (k : ℕ) → mag (get_or l k (pos 0)) < n
small_at n [] p t k = p
small_at n (z ∷ l) p t zero = ltb→lt (mag z) n (both_left (ltb (mag z) n) (small n l) t)
small_at n (z ∷ l) p t (suc k) = small_at n l p (both_right (ltb (mag z) n) (small n l) t) k

-- a cast from one signed type to another
pub held_twice : (w v : Width) (z : ℤ) → mag z < 2 ^ hbits w → mag z < 2 ^ hbits v → held v (held w z) ≡ z
held_twice w v z h k = ap (held v) (held_small w z h) ∙ held_small v z k

pub mag-neg : (n : ℕ) → mag (neg_ℤ (pos n)) ≤ n
mag-neg zero = omega arith
mag-neg (suc n) = omega arith

-- the product of a natural number and a signed one
pub mag_mul : (m : ℕ) (z : ℤ) → mag (pos m *ℤ z) ≤ m * suc (mag z)
mag_mul m (pos b) = mul-le-mul_left m (le-suc b)
mag_mul m (negsuc b) = mag-neg (m * suc b)

pub times_le : (m k x n : ℕ) → m ≤ k → x ≤ n → m * x ≤ k * n
times_le m k x n h p = le_trans (mul-le-mul_left m p) (mul-le-mul_right n h)

-- a + m * z, with a and m cast from an unsigned type: each step fits, and it is what it says
module _ (w : Width) (a m : ℕ) (z : ℤ) (f : SFits w z) (h : m < 2 ^ hbits w) (b : a + m * suc (mag z) < 2 ^ hbits w) where
  prod : to_z w m *ℤ held w z ≡ pos m *ℤ z
  prod = rw (to_z_pos w m h, to_z-of_z w z f)

  pub prod_fits : SFits w (to_z w m *ℤ held w z)
  prod_fits = rw prod (record { sfits = omega (arith, mag_mul m z) })

  less : a + mag (to_z w m *ℤ held w z) < 2 ^ hbits w
  less = rw prod (omega (arith, mag_mul m z))

  pub moved_fits : SFits w (to_z w a +ℤ held w (to_z w m *ℤ held w z))
  moved_fits = sum_fits w a (to_z w m *ℤ held w z) prod_fits less

  pub moved_held : held w (to_z w a +ℤ held w (to_z w m *ℤ held w z)) ≡ pos a +ℤ (pos m *ℤ z)
  moved_held = sum_held w a (to_z w m *ℤ held w z) prod_fits less ∙ ap (λ (y : ℤ). pos a +ℤ y) prod

pub held_is : (w : Width) (y z : ℤ) → y ≡ z → mag z < 2 ^ hbits w → held w y ≡ z
held_is w y z e h = ap (held w) e ∙ held_small w z h

-- the sum of two signed numbers
pub mag_sum : (y z : ℤ) → mag (y +ℤ z) ≤ mag y + mag z + 1
mag_sum (pos a) z = omega (arith, mag_add a z)
mag_sum (negsuc a) (pos b) = omega (arith, mag_sub b (suc a))
mag_sum (negsuc a) (negsuc b) = omega arith

-- a + y * z, of numbers as the machine holds them, where y is m, not negative
module _ (w : Width) (a y z : ℤ) (m : ℕ) (e : y ≡ pos m) (fa : SFits w a) (fy : SFits w y) (fz : SFits w z) (b : mag a + m * suc (mag z) + 1 < 2 ^ hbits w) where
  by : held w y *ℤ held w z ≡ y *ℤ z
  by = ap (λ (u : ℤ). u *ℤ held w z) (to_z-of_z w y fy) ∙ ap (λ (u : ℤ). y *ℤ u) (to_z-of_z w z fz)

  mag_by : mag (y *ℤ z) ≤ m * suc (mag z)
  mag_by = subst (λ (u : ℤ). mag (u *ℤ z) ≤ m * suc (mag z)) (sym e) (mag_mul m z)

  pub by_fits : SFits w (held w y *ℤ held w z)
  by_fits = subst (SFits w) (sym by) (record { sfits = omega (arith, mag_by) })

  on : held w a +ℤ held w (held w y *ℤ held w z) ≡ a +ℤ (y *ℤ z)
  on = ap (λ (u : ℤ). u +ℤ held w (held w y *ℤ held w z)) (to_z-of_z w a fa) ∙ ap (λ (u : ℤ). a +ℤ u) (to_z-of_z w _ by_fits ∙ by)

  pub on_fits : SFits w (held w a +ℤ held w (held w y *ℤ held w z))
  on_fits = subst (SFits w) (sym on) (record { sfits = omega (arith, mag_sum a (y *ℤ z), mag_by) })

  pub on_held : held w (held w a +ℤ held w (held w y *ℤ held w z)) ≡ a +ℤ (y *ℤ z)
  on_held = to_z-of_z w _ on_fits ∙ on

-- an unsigned number, cast to a signed type, and its opposite
module _ (w : Width) (m : ℕ) (h : m < 2 ^ hbits w) where
  pub cast_pos : to_z w m ≡ pos m
  cast_pos = to_z_pos w m h

  opposite : pos 0 -ℤ to_z w m ≡ neg_ℤ (pos m)
  opposite = ap (λ (z : ℤ). pos 0 -ℤ z) cast_pos ∙ +ℤ_idl (neg_ℤ (pos m))

  pub opposite_fits : SFits w (pos 0 -ℤ to_z w m)
  opposite_fits = subst (SFits w) (sym opposite) (record { sfits = omega (arith, mag-neg m) })

  pub opposite_held : held w (pos 0 -ℤ to_z w m) ≡ neg_ℤ (pos m)
  opposite_held = held_is w _ (neg_ℤ (pos m)) opposite (omega (arith, mag-neg m))
