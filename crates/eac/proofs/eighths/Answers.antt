-- Turn i stores the byte of value i.
-- Assumes nothing.
use Rattle.std.proofs.Common.{pos, arith}
use Rattle.laws.proofs.Filling.{filled_all}
use Rattle.eac.proofs.eighths.Goals as goal

pub returns : goal.returns
returns c = filled_all _ (pos 0) 8 c.loop-i.eight c.loop-i.i c.loop-i.invariant (omega arith)
