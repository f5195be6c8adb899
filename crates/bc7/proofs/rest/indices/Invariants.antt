-- The invariant of the loop of `bc7::rest::indices`.
use Rattle.bc7.proofs.rest.Loops.{Indexed}
use Rattle.bc7.proofs.rest.indices.Given as goal

abbrev pub invariant-loop-i : goal.invariant-loop-i
invariant-loop-i l = Indexed l.v l.b l.mask l.w l.m l.out l.i
