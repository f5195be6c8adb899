-- The first place at which a number is least, spelled out: it is less nowhere, and nowhere before as little.
-- Assumes nothing.
use mathlib.Core.Path.{◌≡◌, ◌∙◌, refl, sym, ap, subst}
use mathlib.Core.Bool.{Bool, true, false, cond}
use mathlib.Core.Logic.{⊎_elim}
use Prim.Native.Nat.{ℕ, zero, suc, ◌+◌, ◌<◌, ◌≤◌}
use native.Mathlib.Omega.{arith}
use native.Mathlib.Nat.{eq-or-lt_of_le, le_refl}
use native.Mathlib.Numerals.{add-one}
use native.Mathlib.Decide.{dec_lt}
use borrow.Author.Tests.{lt-ltb, le-ltb}
use lib.Dec.{ltb}
use Rattle.rules.specs.Counting.{lower, least_of_lem}
use Rattle.bake.specs.baking.Chosen.{Chosen}

-- what `least_of_lem` says of f and a number of places
pub record Least (f : ℕ → ℕ) (n m : ℕ) : Type 0 where
  pub within : m < n
  pub least : (k : ℕ) → k < n → f m ≤ f k
  pub first : (k : ℕ) → k < m → f m < f k

-- what holds of each place before n, and of n
up_to : (P : ℕ → Type 0) (n k : ℕ) → k < suc n → P n → ((j : ℕ) → j < n → P j) → P k
up_to P n k h p q =
    ⊎_elim (λ e. subst P (sym e) p) (λ l. q k l) (eq-or-lt_of_le {n = k} {m = n} (omega arith))

more : (f : ℕ → ℕ) (n m : ℕ) → Least f n m → Least f (suc n) (lower f n m)
more f n m p =
    elim (dec_lt (f n) (f m)) [
      | yes h ↦ subst (λ (t : Bool). Least f (suc n) (cond t n m)) (sym (lt-ltb (f n) (f m) h))
          (record {
            within = le_refl (suc n);
            least = λ k b. up_to (λ j. f n ≤ f j) n k b (le_refl (f n)) (λ j l. omega (arith, p.least j l));
            first = λ k b. omega (arith, p.least k b);
          })
      | no h ↦ subst (λ (t : Bool). Least f (suc n) (cond t n m)) (sym (le-ltb (f n) (f m) (omega (arith, h))))
          (record {
            within = omega (arith, p.within);
            least = λ k b. up_to (λ j. f m ≤ f j) n k b (omega (arith, h)) p.least;
            first = p.first;
          })
    ]

same : (t : Bool) (n : ℕ) → cond t n n ≡ n
same true n = refl
same false n = refl

one : (f : ℕ → ℕ) → least_of_lem f 1 ≡ 0
unfolding least_of_lem
one f = same (ltb (f 0) (f 0)) 0

pub least : (f : ℕ → ℕ) (n : ℕ) → Least f (suc n) (least_of_lem f (suc n))
unfolding least_of_lem
least f zero =
    subst (Least f 1) (sym (one f))
    (record {
      within = omega arith;
      least = λ k b. up_to (λ j. f 0 ≤ f j) 0 k b (le_refl (f 0)) (λ j l. absurd (omega arith));
      first = λ k b. absurd (omega arith);
    })
least f (suc n) = more f (suc n) (least_of_lem f (suc n)) (least f n)

-- and nothing else is
pub only : (f : ℕ → ℕ) (n a b : ℕ) → Least f n a → Least f n b → a ≡ b
only f n a b p q =
    elim (dec_lt a b) [
      | yes h ↦ absurd (omega (arith, q.first a h, p.least b q.within))
      | no h ↦ elim (dec_lt b a) [
        | yes g ↦ absurd (omega (arith, p.first b g, q.least a p.within))
        | no g ↦ omega (arith, h, g)
      ]
    ]

-- one that is as little stands no earlier
pub no_earlier : (f : ℕ → ℕ) (n k : ℕ) → f k ≤ f (least_of_lem f (suc n)) → least_of_lem f (suc n) ≤ k
no_earlier f n k e =
    elim (dec_lt k (least_of_lem f (suc n))) [
      | yes h ↦ absurd (omega (arith, (least f n).first k h))
      | no h ↦ omega (arith, h)
    ]

-- The search that keeps the best so far, a turn at a time
pub begun : (f : ℕ → ℕ) (v : ℕ) → v ≡ f 0 → Chosen f 1 0 v
begun f v e = record { place = sym (one f); worth = e }

better : (f : ℕ → ℕ) (n at value v : ℕ) (t : Bool) → value ≡ f at → v ≡ f n → cond t v value ≡ f (cond t n at)
better f n at value v true p q = q
better f n at value v false p q = p

pub turned : (f : ℕ → ℕ) (n at value v : ℕ) → Chosen f n at value → v ≡ f n → Chosen f (n + 1) (cond (ltb v value) n at) (cond (ltb v value) v value)
unfolding least_of_lem
turned f n at value v p e =
    record {
      place =
          ap (λ (x : ℕ). cond (ltb x value) n at) e
          ∙ ap (λ (x : ℕ). cond (ltb (f n) x) n at) p.worth
          ∙ ap (lower f n) p.place
          ∙ ap (least_of_lem f) (sym (add-one n));
      worth = better f n at value v (ltb v value) p.worth e;
    }

-- the same, of a best that is said by equations
pub goes_on : (f : ℕ → ℕ) (n at value v at' value' : ℕ) → Chosen f n at value → v ≡ f n → (at' ≡ cond (ltb v value) n at) × (value' ≡ cond (ltb v value) v value) → Chosen f (n + 1) at' value'
goes_on f n at value v at' value' p e q =
    let t = turned f n at value v p e in
    record { place = q.0 ∙ t.place; worth = q.1 ∙ t.worth ∙ ap f (sym q.0) }
