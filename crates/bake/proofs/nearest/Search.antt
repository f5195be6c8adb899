-- What the searches end with.
-- Assumes nothing.
use mathlib.Core.Path.{◌≡◌, ◌∙◌, ap}
use mathlib.Core.List.{List}
use Prim.Native.Nat.{ℕ, suc, ◌+◌, ◌<◌, ◌≤◌}
use lib.ListN.{get_or}
use Rattle.rules.specs.Counting.{least_of_lem, sum_of}
use Rattle.bake.specs.baking.Chosen.{Chosen}
use Rattle.bake.proofs.baking.Least.{least}
use Rattle.bake.proofs.baking.Near.{differ_most}
use Rattle.bake.proofs.baking.Sums.{sum_next}
use Rattle.bake.specs.nearest.Search.{away, nearest_of}

-- the last turn of a search among suc n
pub ended : (f : ℕ → ℕ) (n i at value : ℕ) → i ≡ suc n → Chosen f i at value → (at ≡ least_of_lem f (suc n)) × (at < suc n) × (value ≡ f (least_of_lem f (suc n)))
ended f n i at value e p =
    let q = p.place ∙ ap (least_of_lem f) e in
    (q, rw q (least f n).within, p.worth ∙ ap f q)

-- a colour is at most so far
pub far : (colours : List ℕ) (v i : ℕ) → away colours v i ≤ 765
far colours v i = differ_most (get_or colours i 0) v

-- an index is one of four
pub one_of_four : (colours : List ℕ) (v : ℕ) → nearest_of colours v < 4
unfolding nearest_of
one_of_four colours v = (least (away colours v) 3).within

-- one part more
pub adds : (f : ℕ → ℕ) (sum v j : ℕ) → sum ≡ sum_of f j → v ≡ f j → sum + v ≡ sum_of f (j + 1)
adds f sum v j p q = ap (λ (x : ℕ). x + v) p ∙ ap (λ (x : ℕ). sum_of f j + x) q ∙ sum_next f j
