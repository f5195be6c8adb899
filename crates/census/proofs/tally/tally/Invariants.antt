-- The invariant of the loop of `census::tally::tally`.
use mathlib.Core.Path.{◌≡◌}
use mathlib.Core.Bool.{Bool}
use mathlib.Core.List.{List}
use Prim.Native.Nat.{ℕ}
use Rattle.rules.specs.Places.{bytes_of}
use Rattle.rules.specs.Census.{counts}
use Rattle.laws.specs.Sorted.{eight}
use Rattle.census.proofs.tally.tally.Given as goal

-- the counts of the blocks before b
abbrev pub before : Bool → List ℕ → ℕ → List ℕ
before split d b = counts (bytes_of 8 d) b (eight split)

abbrev pub invariant-loop-b : goal.invariant-loop-b
invariant-loop-b l = l.tally ≡ before l.split l.«data» l.b
