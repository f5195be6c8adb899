-- `whole::pairs` meets its contract: turn i stores number i of the tile.
-- Assumes nothing.
use native.Mathlib.Omega.{arith}
use Rattle.laws.proofs.Filling.{filled_all}
use Rattle.whole.specs.Lanes.{paired}
use Rattle.whole.proofs.pairs.Goals as goal

pub returns : goal.returns
unfolding paired
returns c =
    let l = c.loop-i in
    filled_all _ 0 16 l.out l.i l.invariant (omega arith)
