-- The invariant and the measure of the loop of `older::compare`.
use Prim.Native.Nat.{ℕ, ◌≤◌}
use lib.ListN.{get_or}
use Rattle.older.specs.Compared.{Compared, clipped}
use Rattle.older.proofs.compare.Given as goal

abbrev pub invariant-loop-k : goal.invariant-loop-k
invariant-loop-k l =
    (l.k ≤ 16) × Compared (clipped l.columns l.rows) (λ (i : ℕ). get_or l.old i 0) (λ (i : ℕ). get_or l.new i 0) l.k l.pixels l.colour l.alpha
