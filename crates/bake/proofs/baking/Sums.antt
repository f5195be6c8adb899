-- Sums: they keep an order, and the sum of leasts is the least sum; where another choice has the same sum, each of its
-- parts is least too, and so stands no earlier.
-- Assumes nothing.
use mathlib.Core.Path.{◌≡◌, refl, sym, ap}
use mathlib.Core.Logic.{⊎_elim}
use Prim.Native.Nat.{ℕ, zero, suc, ◌+◌, ◌<◌, ◌≤◌}
use native.Mathlib.Omega.{arith}
use native.Mathlib.Nat.{eq-or-lt_of_le, le_refl}
use native.Mathlib.Numerals.{add-one}
use Rattle.rules.specs.Counting.{least_of_lem, sum_of}
use Rattle.bake.proofs.baking.Least.{least, no_earlier}

pub sum_next : (f : ℕ → ℕ) (n : ℕ) → sum_of f n + f n ≡ sum_of f (n + 1)
unfolding sum_of
sum_next f n = ap (sum_of f) (sym (add-one n))

pub sum_same : (f g : ℕ → ℕ) (n : ℕ) → ((k : ℕ) → k < n → f k ≡ g k) → sum_of f n ≡ sum_of g n
unfolding sum_of
sum_same f g zero e = refl
sum_same f g (suc n) e = omega (arith, sum_same f g n (λ k h. e k (omega arith)), e n (le_refl (suc n)))

pub sum-le : (f g : ℕ → ℕ) (n : ℕ) → ((k : ℕ) → k < n → f k ≤ g k) → sum_of f n ≤ sum_of g n
unfolding sum_of
sum-le f g zero e = le_refl 0
sum-le f g (suc n) e = omega (arith, sum-le f g n (λ k h. e k (omega arith)), e n (le_refl (suc n)))

-- where the sums are equal, so are their parts
pub sum_tie : (f g : ℕ → ℕ) (n : ℕ) → ((k : ℕ) → k < n → f k ≤ g k) → sum_of g n ≤ sum_of f n → (k : ℕ) → k < n → g k ≤ f k
unfolding sum_of
sum_tie f g zero e t k h = absurd (omega arith)
sum_tie f g (suc n) e t k h =
    let l = sum-le f g n (λ j b. e j (omega arith)) in
    let o = e n (le_refl (suc n)) in
    ⊎_elim (λ q. rw q (omega arith)) (λ q. sum_tie f g n (λ j b. e j (omega arith)) (omega arith) k q) (eq-or-lt_of_le {n = k} {m = n} (omega arith))

-- choices of suc m each at n places, F k i what choice i adds at place k; pick is any choice
module _ (F : ℕ → ℕ → ℕ) (m n : ℕ) (pick : ℕ → ℕ) (legal : (k : ℕ) → k < n → pick k < suc m) where
  abbrev pub leasts : ℕ → ℕ
  leasts k = F k (least_of_lem (F k) (suc m))

  abbrev pub picked : ℕ → ℕ
  picked k = F k (pick k)

  part : (k : ℕ) → k < n → leasts k ≤ picked k
  part k h = (least (F k) m).least (pick k) (legal k h)

  -- the sum of the leasts is the least sum
  pub least_sum_lem : sum_of leasts n ≤ sum_of picked n
  least_sum_lem = sum-le leasts picked n part

  -- and a choice with no more stands nowhere earlier
  pub least_first : sum_of picked n ≤ sum_of leasts n → (k : ℕ) → k < n → least_of_lem (F k) (suc m) ≤ pick k
  least_first t k h = no_earlier (F k) m (pick k) (sum_tie leasts picked n part t k h)
