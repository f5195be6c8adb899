-- Each pixel that was passed is near.
use mathlib.Core.Path.{◌∙◌, refl, sym}
use native.Mathlib.Omega.{arith}
use Rattle.rules.specs.Counting.{each}
use Rattle.bake.proofs.baking.Each.{each_next, each_not}
use Rattle.bake_check.proofs.all_near.Invariants.{test}
use Rattle.bake_check.proofs.all_near.Goals as goal

-- Assumes nothing.

-- src/lib.rt:30:5
pub loop-k-init : goal.loop-k-init
unfolding each
loop-k-init c = (omega arith, refl)

-- src/lib.rt:32:13
pub returns-then-not-near : goal.returns-then-not-near
returns-then-not-near c =
    let a = c.args in
    sym (each_not (test a.tolerance a.pixels a.tile.now) 16 c.loop-k.k c.loop-k-test.true (sym c.near.ensures ∙ c.if-not-near.true))

-- src/lib.rt:30:5
pub loop-k-preserved : goal.loop-k-preserved
loop-k-preserved c =
    let a = c.args in
    (omega arith, each_next (test a.tolerance a.pixels a.tile.now) c.loop-k.k c.loop-k.invariant.1 (sym c.near.ensures ∙ c.if-not-near.false))
