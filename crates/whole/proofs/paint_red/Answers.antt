-- `whole::paint_red` meets its contract: its tile is the block.
-- Assumes nothing.
use native.Mathlib.Omega.{arith}
use Rattle.pixel.proofs.place.Grid.{roomy}
use Rattle.whole.proofs.Lanes.{one_tile}
use Rattle.whole.proofs.paint_red.Goals as goal

pub put-requires : goal.put-requires
put-requires g c =
    let r = c.requires.in_bounds.1 in
    let b = c.requires.bx_bound in
    (omega (arith, b.0), omega (arith, b.1), roomy c.args.pic _ r.fits (omega (arith, r.roomy)), b.2)

pub returns : goal.returns
returns g c =
    let a = c.args in
    one_tile a.pic a.scale.span.signed a.d.now a.bx a.by c.eac_sixteens.result a.image.now _ c.eac_sixteens.ensures
    (c.put.ensures 0)
