-- The invariant of the loop of `whole::paint_whole`.
use Prim.Native.Nat.{◌≤◌}
use Rattle.whole.specs.Lanes.{lanes}
use Rattle.whole.proofs.Rows.{Turned}
use Rattle.whole.proofs.paint_whole.Given as goal

abbrev pub invariant-loop-bx : goal.invariant-loop-bx
invariant-loop-bx l = (l.bx ≤ l.n) × Turned (lanes l.green) l.scale.span.signed l.«data» l.pic l.by 0 l.initial.image l.image l.bx
