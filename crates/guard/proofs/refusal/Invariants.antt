-- The invariant and the measure of the loop of `guard::refusal`.
use Prim.Native.Nat.{◌-◌}
use Rattle.guard.proofs.Scan.{Clear}
use Rattle.guard.proofs.refusal.Given as goal

abbrev pub invariant-loop-b : goal.invariant-loop-b
invariant-loop-b l = Clear l.viewer l.«data» l.from l.n l.b
