-- A test at each place, spelled out; and the test that a number is at most t, at each place, is one of the largest.
-- Assumes nothing.
use mathlib.Core.Path.{◌≡◌, ◌∙◌, refl, sym, ap}
use mathlib.Core.Bool.{Bool, true, false, ◌&&◌, true≢false}
use mathlib.Core.Logic.{⊎_elim}
use Prim.Native.Nat.{ℕ, zero, suc, ◌+◌, ◌<◌, max}
use native.Mathlib.Omega.{arith}
use native.Mathlib.Nat.{eq-or-lt_of_le, le_refl}
use native.Mathlib.Numerals.{add-one}
use native.Mathlib.Decide.{dec_lt}
use borrow.Author.Tests.{le-leb, lt-leb}
use lib.Dec.{leb}
use Rattle.rules.specs.Counting.{each, most_of}

first_of : (a b : Bool) → (a && b) ≡ true → a ≡ true
first_of true b e = refl
first_of false b e = e

second-of : (a b : Bool) → (a && b) ≡ true → b ≡ true
second-of true b e = e
second-of false b e = absurd (true≢false (sym e))

fails_second : (a b : Bool) → b ≡ false → (a && b) ≡ false
fails_second true b e = e
fails_second false b e = refl

pub each_next : (test : ℕ → Bool) (n : ℕ) → each test n ≡ true → test n ≡ true → each test (n + 1) ≡ true
unfolding each
each_next test n e h = ap (each test) (add-one n) ∙ ap (λ (t : Bool). t && each test n) h ∙ e

pub each_at : (test : ℕ → Bool) (n : ℕ) → each test n ≡ true → (k : ℕ) → k < n → test k ≡ true
unfolding each
each_at test zero e k h = absurd (omega arith)
each_at test (suc n) e k h =
    ⊎_elim (λ q. ap test q ∙ first_of (test n) (each test n) e) (λ q. each_at test n (second-of (test n) (each test n) e) k q) (eq-or-lt_of_le {n = k} {m = n} (omega arith))

pub each_all : (test : ℕ → Bool) (n : ℕ) → ((k : ℕ) → k < n → test k ≡ true) → each test n ≡ true
unfolding each
each_all test zero e = refl
each_all test (suc n) e = ap (λ (t : Bool). t && each test n) (e n (le_refl (suc n))) ∙ each_all test n (λ k h. e k (omega arith))

-- one place at which it fails is enough
pub each_not : (test : ℕ → Bool) (n k : ℕ) → k < n → test k ≡ false → each test n ≡ false
unfolding each
each_not test zero k h e = absurd (omega arith)
each_not test (suc n) k h e =
    ⊎_elim (λ q. ap (λ (t : Bool). t && each test n) (sym (ap test q) ∙ e)) (λ q. fails_second (test n) (each test n) (each_not test n k q e)) (eq-or-lt_of_le {n = k} {m = n} (omega arith))

-- two numbers are at most t exactly where the greater is
pub both_most : (a b t : ℕ) → (leb a t && leb b t) ≡ leb (max a b) t
both_most a b t =
    elim (dec_lt t a) [
      | yes p ↦ rw (lt-leb a t p, lt-leb (max a b) t (omega arith))
      | no p ↦ elim (dec_lt t b) [
        | yes q ↦ rw (lt-leb b t q, lt-leb (max a b) t (omega arith)) (fails_second (leb a t) false refl)
        | no q ↦ rw (le-leb a t (omega (arith, p)), le-leb b t (omega (arith, q)), le-leb (max a b) t (omega (arith, p, q)))
      ]
    ]

-- and so are any
pub each_most : (f : ℕ → ℕ) (t n : ℕ) → each (λ k. leb (f k) t) n ≡ leb (most_of f n) t
unfolding each most_of
each_most f t zero = sym (le-leb 0 t (omega arith))
each_most f t (suc n) = ap (λ (b : Bool). leb (f n) t && b) (each_most f t n) ∙ both_most (f n) (most_of f n) t

pub each_same : (p q : ℕ → Bool) (n : ℕ) → ((k : ℕ) → k < n → p k ≡ q k) → each p n ≡ each q n
unfolding each
each_same p q zero e = refl
each_same p q (suc n) e =
    ap (λ (b : Bool). b && each p n) (e n (le_refl (suc n)))
    ∙ ap (λ (b : Bool). q n && b) (each_same p q n (λ k h. e k (omega arith)))
