-- A row of the table.
-- Assumes nothing.
use Rattle.tables.proofs.consts.Order.{steps_at}
use Rattle.std.proofs.Common.{rules}
use Rattle.etc_colour.proofs.etc1.code_steps.Goals as goal

pub returns : goal.returns
returns c = steps_at c.modifiers-table.result c.modifiers-table.ensures c.args.code (search rules)
