-- `pieces::kept::Arrived::first_block` meets its contract: each turn stored its byte.
-- Assumes nothing.
use Rattle.laws.proofs.Filling.{filled_all}
use Rattle.pieces.proofs.kept.Arrived.first_block.Goals as goal

pub returns : goal.returns
returns c = filled_all _ 0 16 _ _ c.loop-i.invariant c.loop-i-test.false
