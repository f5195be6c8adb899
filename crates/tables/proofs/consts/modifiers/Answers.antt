-- The table is its rule: one computed test over all its entries.
-- Assumes nothing.
use mathlib.Core.Path.{refl}
use Rattle.tables.specs.consts.Tables.{signed_steps}
use Rattle.tables.proofs.consts.modifiers.Goals as goal

pub returns : goal.returns
unfolding signed_steps
returns c = refl
