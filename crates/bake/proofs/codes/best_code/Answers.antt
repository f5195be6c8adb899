-- The best of the codes passed.
-- Assumes nothing.
use native.Mathlib.Omega.{arith}
use Rattle.rules.specs.Baking.{cost_for, code_for}
use Rattle.bake.proofs.baking.Least.{begun, goes_on}
use Rattle.bake.proofs.nearest.Search.{ended}
use Rattle.bake.proofs.codes.best_code.Goals as goal

pub loop-c-init : goal.loop-c-init
loop-c-init c =
    let a = c.args in
    begun (cost_for a.base a.tile.flip a.tile.pixels.now a.h) _ c.code_cost.ensures

pub loop-c-preserved : goal.loop-c-preserved
loop-c-preserved c =
    let a = c.args in
    let f = cost_for a.base a.tile.flip a.tile.pixels.now a.h in
    goes_on f c.loop-c.c c.loop-c.b.at c.loop-c.b.value _ _ _ c.loop-c.invariant c.code_cost-in-loop-c.ensures c.better-b.ensures

pub returns : goal.returns
unfolding code_for
returns c =
    let a = c.args in
    let e = ended (cost_for a.base a.tile.flip a.tile.pixels.now a.h) 7 c.loop-c.c c.loop-c.b.at c.loop-c.b.value (omega arith) c.loop-c.invariant in
    (e.0, e.1)
