-- The colours of the block's word, and the picks.
-- Assumes nothing.
use mathlib.Core.Path.{◌∙◌}
use mathlib.Core.Bool.{false}
use Rattle.bc.proofs.bc1.Shown.{shown}
use Rattle.bc.proofs.picks.Digits.{of_four}
use Rattle.bc.proofs.bc1.bc1_block.Goals as goal

pub returns : goal.returns
returns c =
    c.picked.ensures
    ∙ of_four c.palette_in.result c.half_word-w.result
    ∙ rw (c.palette_in.ensures, c.half_word-w.ensures) (shown false c.args.alpha c.args.d.now)
