-- `degrees::ranges::in_step` meets its contract: 8.0 is 1 * 2 ^ 3.
use mathlib.Core.Path.{refl, ◌∙◌}
use lib.Dec.{lit<}
use lib.Ieee.{of_bits}
use Rattle.degrees.proofs.floats.Range.{spans}
use Rattle.degrees.proofs.ranges.in_step.Goals as goal

-- Assumes nothing.

pub returns : goal.returns
unfolding of_bits
returns c = c.within.ensures ∙ spans 8 1 3 (lit< tt) refl c.args.x
