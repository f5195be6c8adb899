-- The first place at which a test holds, spelled out: the test holds there and nowhere before.
-- Assumes nothing.
use mathlib.Core.Path.{◌≡◌, ◌∙◌, refl, sym, ap, subst}
use mathlib.Core.Bool.{Bool, true, false, cond, true≢false}
use mathlib.Core.Logic.{◌⊎◌, ⊎_elim}
use Prim.Native.Nat.{ℕ, zero, suc, ◌<◌, ◌≤◌}
use native.Mathlib.Omega.{arith}
use native.Mathlib.Nat.{le_refl, eq-or-lt_of_le}
use native.Mathlib.Decide.{dec_lt}
use borrow.Author.Tests.{lt-ltb, le-ltb}
use Rattle.rules.specs.Answers.{first_of}

-- what `first_of` says of a test and a number of places
pub record First (test : ℕ → Bool) (n first : ℕ) : Type 0 where
  pub within : first ≤ n
  pub found : first < n → test first ≡ true
  pub none : (k : ℕ) → k < first → test k ≡ false

kept : (test : ℕ → Bool) (n f : ℕ) → First test n f → f < n → First test (suc n) f
kept test n f p h = record { within = omega (arith, p.within); found = λ q. p.found h; none = p.none }

-- no place before n: then n itself, or none
last : (test : ℕ → Bool) (n f : ℕ) (t : Bool) → First test n f → f ≡ n → test n ≡ t → First test (suc n) (cond t n (suc n))
last test n f true p e h =
    record { within = omega arith; found = λ q. h; none = λ k q. p.none k (omega arith) }
last test n f false p e h =
    record {
      within = le_refl (suc n);
      found = λ q. absurd (omega arith);
      none =
          λ k q.
          ⊎_elim (λ s. ap test s ∙ h) (λ s. p.none k (omega arith)) (eq-or-lt_of_le {n = k} {m = n} (omega arith));
    }

pub first : (test : ℕ → Bool) (n : ℕ) → First test n (first_of test n)
unfolding first_of
first test zero = record { within = le_refl 0; found = λ q. absurd (omega arith); none = λ k q. absurd (omega arith) }
first test (suc n) =
    let p = first test n in
    elim (dec_lt (first_of test n) n) [
      | yes h ↦ subst (λ (b : Bool). First test (suc n) (cond b (first_of test n) (cond (test n) n (suc n))))
          (sym (lt-ltb (first_of test n) n h)) (kept test n (first_of test n) p h)
      | no h ↦
          let e : first_of test n ≡ n = omega (arith, p.within, h) in
          subst (λ (b : Bool). First test (suc n) (cond b (first_of test n) (cond (test n) n (suc n))))
          (sym (le-ltb (first_of test n) n (omega arith))) (last test n (first_of test n) (test n) p e refl)
    ]

-- and nothing else is first
pub only : (test : ℕ → Bool) (n a b : ℕ) → First test n a → First test n b → a ≡ b
only test n a b p q =
    elim (dec_lt a b) [
      | yes h ↦ absurd (clash (p.found (omega (arith, q.within))) (q.none a h))
      | no h ↦ elim (dec_lt b a) [
        | yes g ↦ absurd (clash (q.found (omega (arith, p.within))) (p.none b g))
        | no g ↦ omega (arith, h, g)
      ]
    ]
  where
    clash : {t : Bool} → t ≡ true → t ≡ false → ⊥
    clash r s = true≢false (sym r ∙ s)

-- a test that says the same of each of n places finds the same first one
pub first_alike : (t u : ℕ → Bool) (n : ℕ) → ((m : ℕ) → m < n → t m ≡ u m) → first_of t n ≡ first_of u n
first_alike t u n h =
    let f = first t n in
    only u n (first_of t n) (first_of u n)
    (record {
      within = f.within;
      found = λ l. sym (h (first_of t n) l) ∙ f.found l;
      none = λ k l. sym (h k (omega (arith, f.within)))
          ∙ f.none k l;
    })
    (first u n)
