-- `file::formats::known_row` meets its contract: what is left of the table tells the same at each turn.
-- Assumes nothing.
use mathlib.Core.Path.{◌∙◌, sym}
use native.Mathlib.Omega.{arith}
use Rattle.file.proofs.Tables.{met, passed, over}
use Rattle.file.proofs.formats.known_row.Goals as goal

pub returns-then-row-number : goal.returns-then-row-number
returns-then-row-number c =
    sym (met c.args.table.now c.loop-row.row-index c.args.number (omega arith) c.if-row-number.true) ∙ c.loop-row.invariant

pub loop-row-preserved : goal.loop-row-preserved
loop-row-preserved c =
    sym (passed c.args.table.now c.loop-row.row-index c.args.number (omega arith) c.if-row-number.false) ∙ c.loop-row.invariant

pub returns : goal.returns
returns c = sym (over c.args.table.now c.loop-row.row-index c.args.number (omega arith)) ∙ c.loop-row.invariant
