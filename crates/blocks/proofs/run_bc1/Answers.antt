-- `blocks::run_bc1` meets its contract, since the closure makes a block's pixels.
-- Assumes nothing.
use mathlib.Core.Bool.{false}
use Rattle.rules.specs.Desktop.{bc1_pixel}
use Rattle.blocks.proofs.run_bc1.Goals as goal

pub returns : goal.returns
returns c = c.run_blocks.ensures (bc1_pixel false c.args.alpha) (λ d px h e. e)
