-- The invariant and the measure of the loop of `older::Viewed::tally`.
use Prim.Native.Nat.{◌≤◌}
use Rattle.guard.specs.Viewers.{guard_of}
use Rattle.older.specs.Compared.{Counted}
use Rattle.older.proofs.Viewed.tally.Given as goal

abbrev pub invariant-loop-b : goal.invariant-loop-b
invariant-loop-b l = (l.b ≤ l.n) × Counted (guard_of l.self.viewer) l.self.pic l.self.«data».now l.b l.c
