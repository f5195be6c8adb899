-- `blocks::run_red_green` meets its contract, since the closure makes a block's pixels.
-- Assumes nothing.
use mathlib.Core.Path.{◌∙◌, ap}
use mathlib.Core.Bool.{Bool}
use Rattle.rules.specs.Places.{tile}
use Rattle.rules.specs.Channels.{red_green_pixel}
use Rattle.blocks.proofs.run_red_green.Goals as goal

pub returns : goal.returns
returns c =
    c.run_blocks.ensures (red_green_pixel c.args.signed) (λ d px h e. e ∙ ap (λ (t : Bool). tile (red_green_pixel t) d.now) c.span_of-span.ensures.0)
