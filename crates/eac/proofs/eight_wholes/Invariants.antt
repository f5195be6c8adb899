-- The invariant of the loop of `eac::eight_wholes`.
use Rattle.std.proofs.Common.{pos}
use Rattle.laws.proofs.Filling.{Filling, in_order_lem}
use Rattle.eac.specs.Eights.{whole_of}
use Rattle.eac.proofs.eight_wholes.Given as goal

abbrev pub invariant-loop-i : goal.invariant-loop-i
invariant-loop-i l = Filling in_order_lem (whole_of l.span.signed l.d) (pos 0) 8 l.i l.eight
