-- The invariant and the measure of the loop of `older::first_wrong`.
use mathlib.Core.Bool.{Bool}
use mathlib.Core.List.{List}
use Prim.Native.Nat.{ℕ}
use lib.ListN.{get_or}
use Rattle.guard.proofs.Scan.{Scanned}
use Rattle.rules.specs.Older.{wrong}
use Rattle.older.specs.Compared.{clipped}
use Rattle.older.proofs.first_wrong.Given as goal

abbrev pub test : List ℕ → List ℕ → ℕ → ℕ → ℕ → Bool
test old new columns rows = wrong (clipped columns rows) (λ (i : ℕ). get_or old i 0) (λ (i : ℕ). get_or new i 0)

abbrev pub invariant-loop-k : goal.invariant-loop-k
invariant-loop-k l = Scanned (test l.old l.new l.columns l.rows) 16 l.k
