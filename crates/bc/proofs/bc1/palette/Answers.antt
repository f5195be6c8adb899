-- The two colours of the word, and the lanes made of them.
-- Assumes nothing.
use mathlib.Core.Path.{◌∙◌}
use Rattle.rules.specs.Notation.{bits}
use Rattle.rules.specs.Desktop.{has_four}
use Rattle.bc.proofs.bc1.Colours.{at_most, listed}
use Rattle.bc.proofs.bc1.palette.Goals as goal

pub clear-requires : goal.clear-requires
clear-requires c = at_most (has_four c.args.always c.first-p.result c.second-q.result) _ c.is_four-f.ensures

pub returns : goal.returns
returns c =
    let s = c.args in
    let four = has_four s.always (bits 15 0 s.w) (bits 31 16 s.w) in
    c.words.ensures
    ∙ rw (c.lanes.ensures, c.clear.ensures, c.is_four-f.ensures, c.second-q.ensures, c.first-p.ensures)
    (listed four s.alpha (bits 15 0 s.w) (bits 31 16 s.w))
