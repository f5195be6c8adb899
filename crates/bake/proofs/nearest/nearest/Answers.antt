-- The best of the colours passed.
-- Assumes nothing.
use native.Mathlib.Omega.{arith}
use Rattle.bake.proofs.baking.Least.{begun, goes_on}
use Rattle.bake.specs.nearest.Search.{away, nearest_of}
use Rattle.bake.proofs.nearest.Search.{ended, far}
use Rattle.bake.proofs.nearest.nearest.Goals as goal

pub loop-i-init : goal.loop-i-init
loop-i-init c = begun (away c.args.colours c.args.v) _ c.differ.ensures.0

pub loop-i-preserved : goal.loop-i-preserved
loop-i-preserved c =
    let a = c.args in
    goes_on (away a.colours a.v) c.loop-i.i c.loop-i.b.at c.loop-i.b.value _ _ _ c.loop-i.invariant c.differ-in-loop-i.ensures.0 c.better-b.ensures

pub returns : goal.returns
unfolding nearest_of
returns c =
    let a = c.args in
    let e = ended (away a.colours a.v) 3 c.loop-i.i c.loop-i.b.at c.loop-i.b.value (omega arith) c.loop-i.invariant in
    (e.0, e.1, e.2, rw e.2 (far a.colours a.v _))
