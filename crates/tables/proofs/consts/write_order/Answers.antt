-- The table is its rule: one computed test over all its entries.
-- Assumes nothing.
use mathlib.Core.Path.{refl}
use Rattle.tables.specs.consts.Tables.{write_order_lem}
use Rattle.tables.proofs.consts.write_order.Goals as goal

pub returns : goal.returns
unfolding write_order_lem
returns c = refl
