-- The parts, and the block that they make.
use Rattle.bake.proofs.baker.Assembled.{assembled}
use Rattle.bake.proofs.baker.baked.Goals as goal

-- Assumes nothing.

pub returns : goal.returns
returns c =
    let a = c.args in
    assembled a.first a.second a.flip a.tile.now _ _ _ _ _ _ _ _ _ _ _ _
    c.widened-a.ensures
    c.widened-b.ensures
    c.best_code-first_code.ensures.0
    c.best_code-second_code.ensures.0
    c.colours.ensures
    c.colours-2.ensures
    c.index_words-w.ensures.0
    c.index_words-w.ensures.1
    c.nibbles.ensures
    c.nibbles-2.ensures
    c.nibbles-3.ensures
    c.code_byte.ensures
