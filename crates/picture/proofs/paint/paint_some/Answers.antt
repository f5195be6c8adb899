-- `picture::paint::paint_some` meets its contract: a block that the picture clips is painted by itself.
-- Assumes nothing.
use Rattle.std.proofs.Common.{arith}
use Rattle.rules.specs.Formats.{size_of, shows_of}
use Rattle.blocks.proofs.Beside.{one}
use Rattle.picture.proofs.paint.paint_some.Goals as goal

pub returns-then-n-eq0 : goal.returns-then-n-eq0
returns-then-n-eq0 c =
    let a = c.args in (
      omega arith,
      omega arith,
      omega arith,
      one (shows_of a.f) (size_of a.f) a.«data».now a.pic a.spot.bx a.spot.by 1 c.block_at-tile.result a.image.now _
          c.requires.bx_bound.0 c.block_at-tile.ensures (c.place.ensures 0),
    )
