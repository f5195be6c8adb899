-- `pixel::place::place_rows` meets its contract: turn i paints row i of the tile.
-- Assumes nothing.
use native.Mathlib.Omega.{arith}
use Rattle.pixel.proofs.place.Tile.{turn, whole}
use Rattle.pixel.proofs.place.place_rows.Goals as goal

pub loop-i-preserved : goal.loop-i-preserved
loop-i-preserved g c =
    let a = c.args in
    turn a.pic a.bx a.by c.loop-i.i a.m a.tile a.image.now c.loop-i.image _
    (omega (arith, c.loop-i-test.true)) (omega (arith, c.requires.n_value.1)) c.loop-i.invariant c.place_row.ensures

pub returns : goal.returns
returns g c =
    let a = c.args in
    whole a.pic a.bx a.by c.loop-i.i a.m a.tile a.image.now c.loop-i.image c.requires.n_value.1 c.loop-i-test.false c.loop-i.invariant
