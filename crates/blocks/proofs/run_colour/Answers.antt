-- `blocks::run_colour` meets its contract, since the closure makes a block's pixels.
-- Assumes nothing.
use mathlib.Core.Path.{subst}
use Prim.Native.Nat.{ℕ}
use Rattle.blocks.specs.Run.{PaintsRow}
use Rattle.blocks.specs.Colour.{colour_shows}
use Rattle.blocks.proofs.run_colour.Goals as goal

pub returns : goal.returns
returns c =
    let a = c.args in
    let shows = colour_shows a.plain a.punch a.alpha in
    subst (λ (m : ℕ). PaintsRow shows m a.«data».now a.at.pic a.at.bx a.at.by a.n a.image.now c.run_blocks.new.image) c.colour_size-size.ensures.0
    (c.run_blocks.ensures shows (λ d px h e. e))
