-- `pixel::fill::place_block` meets its contract: the first sixteen elements are one part, which is filled.
-- Assumes nothing.
use native.Mathlib.Omega.{arith}
use lib.ListN.{length-take}
use Rattle.pixel.proofs.fill.Part.{sixteen}
use Rattle.pixel.proofs.fill.place_block.Goals as goal

pub slice_bounds-fill-end-2 : goal.slice_bounds-fill-end-2
slice_bounds-fill-end-2 c = simp length-take (omega arith)

pub fill-requires : goal.fill-requires
fill-requires c = simp length-take (omega arith)

pub returns : goal.returns
returns c =
    sixteen c.args.tile c.args.image.now _ c.requires (c.fill.ensures 0)
