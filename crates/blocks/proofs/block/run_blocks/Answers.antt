-- `blocks::block::run_blocks` meets its contract: turn i paints block i.
-- Assumes nothing.
use native.Mathlib.Omega.{arith}
use borrow.Author.Rules.{rules}
use Rattle.blocks.proofs.Beside.{turn, ended}
use Rattle.blocks.proofs.block.run_blocks.Goals as goal

pub loop-i-preserved : goal.loop-i-preserved
loop-i-preserved g c shows h =
    let a = c.args in
    let t = a.at in
    turn shows a.size a.«data».now t.pic t.bx t.by a.n c.loop-i.i c.pixels.result a.image.now c.loop-i.image _ c.loop-i-test.true
    c.requires.whole.1.narrow (c.loop-i.invariant shows h) (h _ _ (search rules) c.pixels.ensures) (c.place_whole.ensures 0)

pub returns : goal.returns
returns g c shows h =
    let a = c.args in
    let t = a.at in
    ended shows a.size a.«data».now t.pic t.bx t.by a.n c.loop-i.i a.image.now c.loop-i.image (omega (arith, c.loop-i-test.false))
    (c.loop-i.invariant shows h)
