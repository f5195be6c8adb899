-- `bc7::shade` meets its contract: all sixteen turns are over.
-- Assumes nothing.
use Rattle.laws.proofs.Filling.{filled_all}
use Rattle.bc7.proofs.shade.Goals as goal

pub returns : goal.returns
returns c = filled_all _ 0 16 c.loop-i.out c.loop-i.i c.loop-i.invariant c.loop-i-test.false
