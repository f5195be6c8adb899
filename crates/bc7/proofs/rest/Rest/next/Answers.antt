-- `bc7::rest::Rest::next` meets its contract: the lowest bits are those of the low word.
-- Assumes nothing.
use mathlib.Core.Path.{sym, ◌∙◌}
use native.Mathlib.Omega.{arith}
use Rattle.laws.proofs.Shift.{whole_low}
use Rattle.bc7.proofs.rest.Rest.next.Goals as goal

pub returns : goal.returns
returns c = c.lowest.ensures ∙ sym (whole_low c.args.self.hi c.args.self.lo c.args.n (omega arith))
