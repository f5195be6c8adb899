-- Counts of places: of tests that hold together as often as another does, whether there is a first such place, and what a count does
-- not look at.
-- Assumes nothing.
use mathlib.Core.Path.{◌≡◌, ◌∙◌, refl, sym, ap}
use mathlib.Core.Bool.{Bool, true, false, true≢false}
use mathlib.Core.List.{List, [], ◌∷◌}
use mathlib.Core.Logic.{⊎_elim}
use Prim.Native.Nat.{ℕ, zero, suc, ◌+◌, ◌<◌}
use native.Mathlib.Omega.{arith}
use native.Mathlib.Decide.{dec_lt}
use native.Mathlib.Nat.{eq-or-lt_of_le}
use Rattle.rules.specs.Answers.{first_of}
use Rattle.laws.proofs.First.{first}
use Rattle.rules.specs.Census.{Test, more, count_of, counted, counts}
use Rattle.laws.specs.Sorted.{met, holding, total, none, only}

plus : (t : Bool) (n : ℕ) → more t n ≡ n + more t 0
plus true n = refl
plus false n = omega arith

-- a count looks at the places below n alone
pub same_below : (f g : ℕ → Bool) (n : ℕ) → ((k : ℕ) → k < n → f k ≡ g k) → count_of f n ≡ count_of g n
unfolding count_of
same_below f g zero h = refl
same_below f g (suc n) h = rw (h n (omega arith), same_below f g n (λ k l. h k (omega arith)))

never : (n : ℕ) → count_of (λ k. false) n ≡ 0
unfolding count_of
never zero = refl
never (suc n) = never n

-- no place meets the test; some place does
pub nowhere : (test : ℕ → Bool) (n : ℕ) → ((k : ℕ) → k < n → test k ≡ false) → count_of test n ≡ 0
nowhere test n h = same_below test (λ k. false) n h ∙ never n

pub somewhere : (test : ℕ → Bool) (n k : ℕ) → k < n → test k ≡ true → 0 < count_of test n
unfolding count_of
somewhere test zero k h t = absurd (omega arith)
somewhere test (suc n) k h t =
    ⊎_elim
    (λ e. let b : more (test n) 0 ≡ 1 = ap (λ (z : ℕ). more (test z) 0) (sym e) ∙ ap (λ (x : Bool). more x 0) t in omega (arith, plus (test n) (count_of test n)))
    (λ l. omega (arith, somewhere test n k (omega arith) t, plus (test n) (count_of test n)))
    (eq-or-lt_of_le {n = k} {m = n} (omega arith))

-- there is a first place that meets a test exactly where the count of such places is not 0
pub first_then_counted : (test : ℕ → Bool) (n : ℕ) → first_of test n < n → 0 < count_of test n
first_then_counted test n h = somewhere test n (first_of test n) h ((first test n).found h)

pub counted_then_first : (test : ℕ → Bool) (n : ℕ) → 0 < count_of test n → first_of test n < n
counted_then_first test n h =
    elim (dec_lt (first_of test n) n) [
      | yes q ↦ q
      | no q ↦ absurd (omega (arith, h, nowhere test n (λ k l. (first test n).none k (omega (arith, q, l)))))
    ]

module _ (block : ℕ → List ℕ) where
  begun : (tests : List Test) → total (counts block 0 tests) ≡ 0
  unfolding count_of
  begun [] = refl
  begun (test ∷ tests) = omega (arith, begun tests)

  turn : (tests : List Test) (n : ℕ) → total (counts block (suc n) tests) ≡ total (counts block n tests) + holding (met tests (block n))
  unfolding count_of
  turn [] n = refl
  turn (test ∷ tests) n =
      omega (arith, turn tests n, plus (test (block n)) (counted block n test), plus (test (block n)) (holding (met tests (block n))))

  -- where at each place some tests hold as often as one test does, once or not at all, their counts make its count
  pub joined : (tests : List Test) (test : Test) → ((k : ℕ) → holding (met tests (block k)) ≡ more (test (block k)) 0) → (n : ℕ) → total (counts block n tests) ≡ counted block n test
  unfolding count_of
  joined tests test h zero = begun tests
  joined tests test h (suc n) =
      omega (arith, turn tests n, joined tests test h n, h n, plus (test (block n)) (counted block n test))

  every : (n : ℕ) → counted block n (λ d. true) ≡ n
  unfolding count_of
  every zero = refl
  every (suc n) = omega (arith, every n)

  -- and where exactly one holds at each place, they make the number of places
  pub adds_up : (tests : List Test) → ((k : ℕ) → holding (met tests (block k)) ≡ 1) → (n : ℕ) → total (counts block n tests) ≡ n
  adds_up tests h n = joined tests (λ d. true) h n ∙ every n

-- a test that alone holds is one
nothing : (ts : List Bool) → none ts ≡ true → holding ts ≡ 0
nothing [] h = refl
nothing (true ∷ ts) h = absurd (true≢false (sym h))
nothing (false ∷ ts) h = nothing ts h

pub only_one : (ts : List Bool) (k : ℕ) → only ts k ≡ true → holding ts ≡ 1
only_one [] k h = absurd (true≢false (sym h))
only_one (true ∷ ts) zero h = ap (λ (n : ℕ). n + 1) (nothing ts h)
only_one (false ∷ ts) zero h = absurd (true≢false (sym h))
only_one (true ∷ ts) (suc k) h = absurd (true≢false (sym h))
only_one (false ∷ ts) (suc k) h = only_one ts k h
