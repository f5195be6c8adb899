-- `degrees::ranges::in_degrees` meets its contract: 720.0 is 45 * 2 ^ 4.
use mathlib.Core.Path.{refl, ◌∙◌}
use lib.Dec.{lit<}
use lib.Ieee.{of_bits}
use Rattle.degrees.proofs.floats.Range.{spans}
use Rattle.degrees.proofs.ranges.in_degrees.Goals as goal

-- Assumes nothing.

pub returns : goal.returns
unfolding of_bits
returns c = c.within.ensures ∙ spans 720 45 4 (lit< tt) refl c.args.x
