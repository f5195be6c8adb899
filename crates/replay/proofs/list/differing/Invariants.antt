-- No more cases differ than were taken.
use Rattle.std.proofs.Common.{◌≤◌}
use Rattle.replay.proofs.list.differing.Given as goal

abbrev pub invariant-loop-i : goal.invariant-loop-i
invariant-loop-i g l = l.differ ≤ l.i
