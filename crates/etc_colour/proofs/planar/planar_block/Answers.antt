-- The loop has made the pixels passed, each from its column and its row.
-- Assumes nothing.
use Rattle.std.proofs.Common.{arith}
use Rattle.laws.proofs.Filling.{filled_all}
use Rattle.etc_colour.proofs.planar.planar_block.Goals as goal

pub returns : goal.returns
returns c =
    let l = c.loop-i in
    filled_all _ 0 16 l.out l.i l.invariant (omega arith)
