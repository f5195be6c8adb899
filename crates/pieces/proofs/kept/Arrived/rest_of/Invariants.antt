-- The invariant of the loop of `pieces::kept::Arrived::rest_of`.
use Rattle.std.proofs.Common.{◌≡◌}
use Rattle.rules.specs.Pieces.{padded}
use Rattle.pieces.specs.Arrived.{all_of}
use Rattle.pieces.proofs.kept.Arrived.rest_of.Given as goal

abbrev pub invariant-loop-i : goal.invariant-loop-i
invariant-loop-i l = l.out ≡ padded (all_of l.self) l.at l.i
