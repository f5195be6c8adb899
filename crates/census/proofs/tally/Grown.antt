-- One more block in a tally: the count of the one test that it meets grows, and no other.
-- Assumes nothing.
use mathlib.Core.Path.{◌≡◌, ◌∙◌, refl, sym, ap}
use mathlib.Core.Bool.{Bool, true, false, true≢false}
use mathlib.Core.List.{List, [], ◌∷◌}
use Prim.Native.Nat.{ℕ, zero, suc, ◌+◌, ◌≤◌}
use native.Mathlib.Omega.{arith}
use lib.ListN.{get_or, set}
use Rattle.rules.specs.Census.{Test, more, count_of, counted, counts}
use Rattle.laws.specs.Sorted.{met, none, only}

-- one more of each count whose test holds
added : List Bool → List ℕ → List ℕ
added [] cs = cs
added (t ∷ ts) [] = []
added (t ∷ ts) (c ∷ cs) = more t c ∷ added ts cs

turn : (tests : List Test) (block : ℕ → List ℕ) (n : ℕ) → counts block (suc n) tests ≡ added (met tests (block n)) (counts block n tests)
unfolding count_of added
turn [] block n = refl
turn (test ∷ tests) block n = ap (λ (l : List ℕ). more (test (block n)) (counted block n test) ∷ l) (turn tests block n)

kept : (ts : List Bool) (cs : List ℕ) → none ts ≡ true → added ts cs ≡ cs
unfolding added
kept [] cs h = refl
kept (t ∷ ts) [] h = refl
kept (true ∷ ts) (c ∷ cs) h = absurd (true≢false (sym h))
kept (false ∷ ts) (c ∷ cs) h = ap (λ (l : List ℕ). c ∷ l) (kept ts cs h)

grown : (ts : List Bool) (cs : List ℕ) (k : ℕ) → only ts k ≡ true → added ts cs ≡ set cs k (get_or cs k 0 + 1)
unfolding added
grown [] cs k h = absurd (true≢false (sym h))
grown (t ∷ ts) [] k h = refl
grown (true ∷ ts) (c ∷ cs) zero h = ap (λ (l : List ℕ). (c + 1) ∷ l) (kept ts cs h)
grown (false ∷ ts) (c ∷ cs) zero h = absurd (true≢false (sym h))
grown (true ∷ ts) (c ∷ cs) (suc k) h = absurd (true≢false (sym h))
grown (false ∷ ts) (c ∷ cs) (suc k) h = ap (λ (l : List ℕ). c ∷ l) (grown ts cs k h)

module _ (tests : List Test) (block : ℕ → List ℕ) where
  pub one_more : (n k : ℕ) → only (met tests (block n)) k ≡ true → set (counts block n tests) k (get_or (counts block n tests) k 0 + 1) ≡ counts block (n + 1) tests
  one_more n k h =
      let e : suc n ≡ n + 1 = omega arith in
      sym (grown (met tests (block n)) (counts block n tests) k h) ∙ sym (turn tests block n) ∙ ap (λ (m : ℕ). counts block m tests) e

at_most : (test : ℕ → Bool) (n : ℕ) → count_of test n ≤ n
unfolding count_of
at_most test zero = omega arith
at_most test (suc n) = step (test n) (count_of test n) (at_most test n)
  where
    step : (t : Bool) (m : ℕ) → m ≤ n → more t m ≤ suc n
    step true m h = omega arith
    step false m h = omega arith

-- no count is above the number of blocks
pub within : (tests : List Test) (block : ℕ → List ℕ) (n k : ℕ) → get_or (counts block n tests) k 0 ≤ n
within [] block n k = omega arith
within (test ∷ tests) block n zero = at_most (λ i. test (block i)) n
within (test ∷ tests) block n (suc k) = within tests block n k
