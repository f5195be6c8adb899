-- `block_readers::read_block` meets its contract: where the checks pass it writes the sixteen pixels.
-- Assumes nothing.
use Rattle.std.proofs.Common.{◌∙◌, rules}
use Rattle.laws.proofs.Outcome.{done}
use Rattle.blocks.proofs.First.{first_block}
use Rattle.block_readers.proofs.Block.{sixteen}
use Rattle.block_readers.proofs.read_block.Goals as goal

pub returns : goal.returns
returns c =
    let a = c.args in
    let d = a.«data».now in
    done _ _ a.image.now _ (search rules)
    (c.place_block.ensures ∙ sixteen _ _ a.image.now (c.block_at.ensures ∙ first_block a.f d))
