-- The invariant of the loop of `whole::paint_row`.
use Rattle.whole.specs.Lanes.{lanes}
use Rattle.whole.proofs.Rows.{Turned}
use Rattle.whole.proofs.paint_row.Given as goal

abbrev pub invariant-loop-bx : goal.invariant-loop-bx
invariant-loop-bx l = Turned (lanes l.green) l.scale.span.signed l.«data» l.pic l.by l.initial.bx l.initial.image l.image l.bx
