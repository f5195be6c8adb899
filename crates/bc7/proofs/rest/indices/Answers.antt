-- `bc7::rest::indices` meets its contract: turn i reads index i, and what is left is shifted by as many bits.
-- Assumes nothing.
use Rattle.laws.proofs.Filling.{filled_all}
use Rattle.bc7.proofs.rest.Loops.{started, indexed}
use Rattle.bc7.proofs.rest.indices.Goals as goal

pub loop-i-init : goal.loop-i-init
loop-i-init c = started _ _ _

pub loop-i-preserved : goal.loop-i-preserved
loop-i-preserved c =
    let l = c.loop-i in
    indexed _ _ _ l.w l.m l.out l.i c.lowest.result l.invariant c.loop-i-test.true c.lowest.ensures

pub returns : goal.returns
returns c = filled_all _ 0 16 c.loop-i.out c.loop-i.i c.loop-i.invariant.filling c.loop-i-test.false
