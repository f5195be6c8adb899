-- The ranges of degrees, by bits: a float lies in -720 to 720 exactly where its bits, but for the sign, are at most 44340000 (hex),
-- and in -8 to 8 where they are at most 41000000. The patterns of the infinities and of every NaN are above both. So it is said of a
-- legend, too, by bits which one is refused.
-- Assumes nothing.
use mathlib.Core.Path.{◌≡◌, refl, sym, ap, ◌∙◌, subst}
use mathlib.Core.Bool.{Bool, true, false, cond, ◌&&◌}
use mathlib.Core.Logic.{◌⊎◌, inl, inr, ⊎_elim}
use Prim.Native.Nat.{ℕ, zero, suc, ◌+◌, ◌-◌, ◌*◌, ◌/◌, ◌%◌, ◌^◌, ◌≤◌, ◌<◌}
use native.Mathlib.Nat.{le_trans, le_of_eq, lt_of_lt_of_le, eq-or-lt_of_le, not-le_of_lt, lt_of_not-le, le_of_lt}
use native.Mathlib.Nat.{mul_assoc, mul_right_comm, mul-le-mul_right, mul-le-mul_left, mul-lt-mul_of_pos_right, le_of_mul-le-mul_right, le-mul_of_pos_right, mul-one, pow-succ'}
use native.Mathlib.Omega.{arith}
use borrow.Author.Tests.{le-leb, lt-leb, leb-true, leb-false, eqb-true}
use lib.Dec.{leb, eqb, lit<}
use lib.Pow.{pow_pos, pow_mono}
use lib.Ieee.{Float, nan, inf, fin, binary32, up, down, odd, of_fields, of_bits}
use lib.Ieee.Fits.{down_pos}
use lib.Ieee.Exact.{HasValue, odd_sign}
use Rattle.rules.specs.Floats.{within}
use Rattle.rules.specs.Degrees.{in_degrees_lem, in_step_lem, sound}
use Rattle.rules.specs.declared.Legend.TheVariants.{Level, Line, Bend}

-- two tests that follow from each other are one
alike : (a b c d : ℕ) → (a ≤ b → c ≤ d) → (c ≤ d → a ≤ b) → leb a b ≡ leb c d
alike a b c d f g = go (leb a b) refl
  where
    go : (t : Bool) → leb a b ≡ t → leb a b ≡ leb c d
    go true e = e ∙ sym (le-leb c d (f (leb-true a b e)))
    go false e = e ∙ sym (lt-leb c d (lt_of_not-le (λ (h : c ≤ d). not-le_of_lt (leb-false a b e) (g h))))

either : (a b : ℕ) → (a < b) ⊎ (b ≤ a)
either a b = go (leb b a) refl
  where
    go : (t : Bool) → leb b a ≡ t → (a < b) ⊎ (b ≤ a)
    go true e = inr (leb-true b a e)
    go false e = inl (leb-false b a e)

-- a / 2 ^ 149 lies in -n to n where a is at most n * 2 ^ 149
by_value : (n : ℕ) (x : Float) (s : Bool) (a : ℕ) → HasValue x s a (2 ^ 149) → within n x ≡ leb a (n * 2 ^ 149)
by_value n nan s a v = absurd v
by_value n (inf t) s a v = absurd v
by_value n (fin t m e) s a v = alike (m * up e) (n * down e) a (n * 2 ^ 149) f g
  where
    f : m * up e ≤ n * down e → a ≤ n * 2 ^ 149
    f h =
        le_of_mul-le-mul_right
        (le_trans (le_of_eq (sym v.1)) (le_trans (mul-le-mul_right (2 ^ 149) h) (le_of_eq (mul_right_comm n (down e) (2 ^ 149)))))
        (down_pos e)

    g : a ≤ n * 2 ^ 149 → m * up e ≤ n * down e
    g h =
        le_of_mul-le-mul_right
        (le_trans (le_of_eq v.1) (le_trans (mul-le-mul_right (down e) h) (le_of_eq (mul_right_comm n (2 ^ 149) (down e)))))
        (pow_pos 149)

-- the size of a pattern with field x + 1 and digits t, in units of 2 ^ -149
abbrev size : ℕ → ℕ → ℕ
size x t = (8388608 + t) * 2 ^ x

-- the patterns are in the order of their sizes
below : (x t y u : ℕ) → t < 8388608 → x * 8388608 + t < y * 8388608 + u → u < 8388608 → size x t < size y u
below x t y u a h b = ⊎_elim same higher (eq-or-lt_of_le {n = x} {m = y} (omega arith))
  where
    same : x ≡ y → size x t < size y u
    same e =
        let l : 8388608 + t < 8388608 + u = omega arith in
        subst (λ (z : ℕ). size x t < size z u) e (mul-lt-mul_of_pos_right l (pow_pos x))

    higher : x < y → size x t < size y u
    higher l =
        let m : 8388608 + t < 8388608 * 2 = omega arith in
        let k : 8388608 ≤ 8388608 + u = omega arith in
        lt_of_lt_of_le (mul-lt-mul_of_pos_right m (pow_pos x))
        (le_trans (le_of_eq (mul_assoc 8388608 2 (2 ^ x) ∙ ap (λ (z : ℕ). 8388608 * z) (sym (pow-succ' 2 x))))
        (le_trans (mul-le-mul_left 8388608 (pow_mono l)) (mul-le-mul_right (2 ^ y) k)))

ordered : (x t y u : ℕ) → t < 8388608 → u < 8388608 → leb (size x t) (size y u) ≡ leb (suc x * 8388608 + t) (suc y * 8388608 + u)
ordered x t y u a b = alike (size x t) (size y u) (suc x * 8388608 + t) (suc y * 8388608 + u) up_to back
  where
    back : suc x * 8388608 + t ≤ suc y * 8388608 + u → size x t ≤ size y u
    back h = ⊎_elim equal (λ l. le_of_lt (below x t y u a (omega arith) b)) (eq-or-lt_of_le h)
      where
        equal : suc x * 8388608 + t ≡ suc y * 8388608 + u → size x t ≤ size y u
        equal e =
            let p : x ≡ y = omega arith in
            let q : t ≡ u = omega arith in
            le_of_eq (cc)

    up_to : size x t ≤ size y u → suc x * 8388608 + t ≤ suc y * 8388608 + u
    up_to h = ⊎_elim (λ l. absurd (not-le_of_lt (below y u x t b (omega arith) a) h)) (λ l. l) (either (suc y * 8388608 + u) (suc x * 8388608 + t))

-- n is the number of the pattern with field y + 1 and digits u
module _ (n y u : ℕ) (digits : u < 8388608) (finite : y < 254) (is : size y u ≡ n * 2 ^ 149) where
  abbrev limit : ℕ
  limit = suc y * 8388608 + u

  by_fields : (s : Bool) (f t : ℕ) → t < 8388608 → within n (of_fields binary32 s f t) ≡ leb (f * 8388608 + t) limit
  unfolding of_fields
  by_fields s zero t h =
      by_value n (odd 24 s t 0 149) s (t * 1) (odd_sign 24 s t 0 149)
      ∙ le-leb (t * 1) (n * 2 ^ 149) (le_trans (le_of_eq (mul-one t)) (le_trans (le_trans small (le-mul_of_pos_right (8388608 + u) (pow_pos y))) (le_of_eq is)))
      ∙ sym (le-leb (0 + t) limit (omega arith))
    where
      small : t ≤ 8388608 + u
      small = omega arith
  by_fields s (suc x) t h = go (eqb (suc x) 255) refl
    where
      past : suc x ≡ 255 → limit < suc x * 8388608 + t
      past e = omega arith

      none : (z : Bool) → within n (cond z (inf s) nan) ≡ false
      none true = refl
      none false = refl

      go : (v : Bool) → eqb (suc x) 255 ≡ v → within n (cond v (cond (eqb t 0) (inf s) nan) (odd 24 s (8388608 + t) x 149)) ≡ leb (suc x * 8388608 + t) limit
      go true e = none (eqb t 0) ∙ sym (lt-leb (suc x * 8388608 + t) limit (past (eqb-true (suc x) 255 e)))
      go false e =
          by_value n (odd 24 s (8388608 + t) x 149) s (size x t) (odd_sign 24 s (8388608 + t) x 149)
          ∙ ap (λ (z : ℕ). leb (size x t) z) (sym is)
          ∙ ordered x t y u h digits

  by_bits : (b : ℕ) → within n (of_bits binary32 b) ≡ leb (b % 2147483648) limit
  unfolding of_bits
  by_bits b = by_fields (leb 2147483648 b) (b % 2147483648 / 8388608) (b % 8388608) (omega arith) ∙ ap (λ (z : ℕ). leb z limit) (split b)
    where
      split : (k : ℕ) → k % 2147483648 / 8388608 * 8388608 + k % 8388608 ≡ k % 2147483648
      split k = omega arith

-- "lies in -720 to 720", and -8 to 8, of any 32 bits
pub degrees_by_bits : (b : ℕ) → in_degrees_lem (of_bits binary32 b) ≡ leb (b % 2147483648) 0x4434_0000
degrees_by_bits b = by_bits 720 135 3407872 (lit< tt) (lit< tt) refl b

pub step_by_bits : (b : ℕ) → in_step_lem (of_bits binary32 b) ≡ leb (b % 2147483648) 0x4100_0000
step_by_bits b = by_bits 8 129 0 (lit< tt) (lit< tt) refl b

-- "every low or level lies in -720 to 720 and every step in -8 to 8", of each kind of legend
abbrev degrees_bits : ℕ → Bool
degrees_bits b = leb (b % 2147483648) 0x4434_0000

abbrev step_bits : ℕ → Bool
step_bits b = leb (b % 2147483648) 0x4100_0000

pub a_level_by_bits : (b : ℕ) → sound (Level (of_bits binary32 b)) ≡ degrees_bits b
a_level_by_bits b = degrees_by_bits b

pub a_line_by_bits : (b s : ℕ) → sound (Line (of_bits binary32 b) (of_bits binary32 s)) ≡ (degrees_bits b && step_bits s)
a_line_by_bits b s = rw (degrees_by_bits b, step_by_bits s)

pub a_bend_by_bits : (b s t : ℕ) → sound (Bend (of_bits binary32 b) (of_bits binary32 s) (of_bits binary32 t)) ≡ (degrees_bits b && (step_bits s && step_bits t))
a_bend_by_bits b s t = rw (degrees_by_bits b, step_by_bits s, step_by_bits t)
