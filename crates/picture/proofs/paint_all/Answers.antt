-- `picture::paint_all` meets its contract: the blocks from 0 to the last are the picture.
-- Assumes nothing.
use native.Mathlib.Nat.{sub-zero}
use Rattle.rules.specs.Formats.{size_of, shows_of}
use Rattle.pixel.proofs.place.Grid.{roomy}
use Rattle.blocks.proofs.Blocks.{whole}
use Rattle.picture.proofs.paint_all.Goals as goal

pub paint-requires-clause-room : goal.paint-requires-clause-room
paint-requires-clause-room c =
    (roomy c.args.pic _ c.requires.fits c.requires.roomy, rw (c.blocks_of.ensures.0, sub-zero) c.requires.enough)

pub returns : goal.returns
returns c =
    let a = c.args in
    whole a.pic (shows_of a.f) (size_of a.f) a.«data».now a.image.now _ (rw c.blocks_of.ensures.0 at c.paint.ensures)
