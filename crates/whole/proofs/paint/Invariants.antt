-- The invariant of the loop of `whole::paint`.
use Rattle.whole.specs.Lanes.{lanes}
use Rattle.whole.proofs.Rows.{Down}
use Rattle.whole.proofs.paint.Given as goal

abbrev pub invariant-loop-by : goal.invariant-loop-by
invariant-loop-by l = Down (lanes l.green) l.scale.span.signed l.«data» l.pic l.initial.image l.image l.by
