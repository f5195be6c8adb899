-- The invariant of the loop of `bc::bc1::lanes`.
use Rattle.laws.proofs.Filling.{Filling, in_order_lem}
use Rattle.bc.specs.bc1.Lanes.{lane}
use Rattle.bc.proofs.bc1.lanes.Given as goal

abbrev pub invariant-loop-i : goal.invariant-loop-i
invariant-loop-i l =
    Filling in_order_lem (lane l.f l.t l.p l.q) 0 16 l.i l.out
