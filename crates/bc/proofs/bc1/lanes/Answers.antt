-- Every place is filled.
-- Assumes nothing.
use native.Mathlib.Omega.{arith}
use Rattle.laws.proofs.Filling.{filled_all}
use Rattle.bc.proofs.bc1.lanes.Goals as goal

pub returns : goal.returns
returns c = filled_all _ 0 16 c.loop-i.out c.loop-i.i c.loop-i.invariant (omega arith)
