-- Turn i stores value i as sixteen bits.
-- Assumes nothing.
use Rattle.std.proofs.Common.{arith}
use Rattle.laws.proofs.Filling.{filled_all}
use Rattle.eac.proofs.narrowed.Goals as goal

pub returns : goal.returns
returns c = filled_all _ 0 16 c.loop-i.out c.loop-i.i c.loop-i.invariant (omega arith)
