-- The invariant and the measure of the loop of `bake_check::all_near`.
use mathlib.Core.Path.{◌≡◌}
use mathlib.Core.Bool.{Bool, true}
use mathlib.Core.List.{List}
use Prim.Native.Nat.{ℕ, ◌-◌, ◌≤◌}
use lib.ListN.{get_or}
use Rattle.rules.specs.Counting.{each}
use Rattle.rules.specs.Checking.{near}
use Rattle.bake_check.proofs.all_near.Given as goal

-- the test of one pixel
abbrev pub test : ℕ → List ℕ → List ℕ → ℕ → Bool
test tolerance pixels tile k = near tolerance (get_or pixels k 0) (get_or tile k 0)

abbrev pub invariant-loop-k : goal.invariant-loop-k
invariant-loop-k l = (l.k ≤ 16) × (each (test l.tolerance l.pixels l.tile) l.k ≡ true)

abbrev pub decreases-loop-k : goal.decreases-loop-k
decreases-loop-k l = 16 - l.k
