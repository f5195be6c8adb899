-- `bc7::rest::Rest::several` meets its contract: turn i reads field i and passes it.
-- Assumes nothing.
use Rattle.bc7.specs.rest.Whole.{whole}
use Rattle.bc7.proofs.rest.Loops.{read}
use Rattle.bc7.proofs.rest.Rest.several.Goals as goal

pub loop-i-preserved : goal.loop-i-preserved
loop-i-preserved c =
    let l = c.loop-i in
    read _ _ _ (whole l.self) (whole c.take.new.self) l.values l.i c.take.result l.invariant c.loop-i-test.true c.requires.0 c.take.ensures.bits c.take.ensures.passed
