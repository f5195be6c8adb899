-- The invariant of the loop of `eac::widened`.
use Rattle.std.proofs.Common.{get_or, pos, nat_abs}
use Rattle.laws.proofs.Filling.{Filling, in_order_lem}
use Rattle.eac.proofs.widened.Given as goal

abbrev pub invariant-loop-i : goal.invariant-loop-i
invariant-loop-i l = Filling in_order_lem (λ k. nat_abs (get_or l.bytes k (pos 0))) 0 16 l.i l.out
