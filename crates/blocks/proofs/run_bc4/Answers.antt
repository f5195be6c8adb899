-- `blocks::run_bc4` meets its contract, since the closure makes a block's pixels.
-- Assumes nothing.
use Rattle.rules.specs.Rgtc.{bc4_pixel}
use Rattle.blocks.proofs.run_bc4.Goals as goal

pub returns : goal.returns
returns c = c.run_blocks.ensures (bc4_pixel c.args.signed) (λ d px h e. e)
