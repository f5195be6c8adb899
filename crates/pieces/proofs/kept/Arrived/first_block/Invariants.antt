-- The invariant of the loop of `pieces::kept::Arrived::first_block`.
use Rattle.rules.specs.Notation.{byte}
use Rattle.laws.proofs.Filling.{Filling, in_order_lem}
use Rattle.pieces.specs.Arrived.{all_of}
use Rattle.pieces.proofs.kept.Arrived.first_block.Given as goal

abbrev pub invariant-loop-i : goal.invariant-loop-i
invariant-loop-i l = Filling in_order_lem (byte (all_of l.self)) 0 16 l.i l.out
