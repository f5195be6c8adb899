-- The eight reds of the half, and the pick of each pixel.
-- Assumes nothing.
use mathlib.Core.Path.{◌∙◌}
use Rattle.bc.proofs.rgtc.Values.{shown_red}
use Rattle.bc.proofs.picks.Digits.{of_eight}
use Rattle.bc.proofs.rgtc.bc4_block.Goals as goal

pub returns : goal.returns
returns c =
    let a = c.args in
    c.picked.ensures
    ∙ of_eight c.values_in.result c.half_word-w.result
    ∙ shown_red a.signed a.d.now c.values_in.result c.half_word-w.result c.half_word-w.ensures c.values_in.ensures
