-- A number by its bits: it is below 2^n, and bit k of it is the one given.
-- Assumes nothing.
use mathlib.Core.Path.{◌≡◌, ◌∙◌, refl, sym, ap}
use Prim.Native.Nat.{ℕ, zero, suc, ◌+◌, ◌-◌, ◌*◌, ◌/◌, ◌%◌, ◌^◌, ◌<◌, ◌≤◌}
use native.Mathlib.Omega.{arith}
use native.Mathlib.Nat.{pow-succ', add-zero, add-suc, suc-add, le_of_suc-le-suc, lt_of_lt_of_le}
use lib.Pow.{shr-shr, pow_mono}
use Rattle.rules.specs.Notation.{bit}
use Rattle.rules.specs.Counting.{from_bits_lem}

halved : (b v : ℕ) → b < 2 → (b + 2 * v) / 2 ≡ v
halved b v h = omega arith

lowest : (b v : ℕ) → b < 2 → (b + 2 * v) / 1 % 2 ≡ b
lowest b v h = omega arith

-- a number without its lowest bit
shifted : (b v k : ℕ) → b < 2 → bit (suc k) (b + 2 * v) ≡ bit k v
shifted b v k h =
    let e : suc k ≡ 1 + k = omega arith in
    ap (λ (m : ℕ). (b + 2 * v) / 2 ^ m % 2) e
    ∙ ap (λ (m : ℕ). m % 2) (sym (shr-shr (b + 2 * v) 1 k))
    ∙ ap (λ (m : ℕ). m / 2 ^ k % 2) (halved b v h)

-- the bits below top are bits
module _ (f : ℕ → ℕ) (top : ℕ) (bits : (i : ℕ) → i < top → f i < 2) where
  pub bits_below : (i n : ℕ) → i + n ≤ top → from_bits_lem f i n < 2 ^ n
  unfolding from_bits_lem
  bits_below i zero h = omega arith
  bits_below i (suc n) h = omega (arith, bits_below (suc i) n (omega arith), bits i (omega arith), pow-succ' 2 n)

  pub bits_small : (i n m : ℕ) → i + n ≤ top → n ≤ m → from_bits_lem f i n < 2 ^ m
  bits_small i n m h k = lt_of_lt_of_le (bits_below i n h) (pow_mono k)

  pub bits_bit : (i n k : ℕ) → i + n ≤ top → k < n → bit k (from_bits_lem f i n) ≡ f (i + k)
  unfolding from_bits_lem
  bits_bit i zero k t h = absurd (omega arith)
  bits_bit i (suc n) zero t h = lowest (f i) (from_bits_lem f (suc i) n) (bits i (omega arith)) ∙ ap f (sym (add-zero i))
  bits_bit i (suc n) (suc k) t h =
      shifted (f i) (from_bits_lem f (suc i) n) k (bits i (omega arith))
      ∙ bits_bit (suc i) n k (omega arith) (le_of_suc-le-suc h)
      ∙ ap f (suc-add i k ∙ sym (add-suc i k))

-- the next bit below, of n in all
pub bits_turn : (f : ℕ → ℕ) (n i : ℕ) → 0 < i → i ≤ n → from_bits_lem f i (n - i) * 2 + f (i - 1) ≡ from_bits_lem f (i - 1) (n - (i - 1))
unfolding from_bits_lem
bits_turn f n i p q =
    let e : n - (i - 1) ≡ suc (n - i) = omega arith in
    let g : suc (i - 1) ≡ i = omega arith in
    rw e (omega (arith, ap (λ (m : ℕ). from_bits_lem f m (n - i)) g))

-- two rules that agree make the same number
pub bits_same : (f g : ℕ → ℕ) (i n : ℕ) → ((k : ℕ) → k < i + n → f k ≡ g k) → from_bits_lem f i n ≡ from_bits_lem g i n
unfolding from_bits_lem
bits_same f g i zero e = refl
bits_same f g i (suc n) e =
    ap (λ (m : ℕ). m + 2 * from_bits_lem f (suc i) n) (e i (omega arith))
    ∙ ap (λ (m : ℕ). g i + 2 * m) (bits_same f g (suc i) n (λ k h. e k (omega arith)))
