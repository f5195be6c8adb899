-- `bc7::rest::next_low` meets its contract: the two words shifted as one, so that nothing overlaps.
-- Assumes nothing.
use Rattle.laws.proofs.Shift.{on_top, low_fits}
use Rattle.bc7.proofs.rest.next_low.Goals as goal

pub overflow_add-result : goal.overflow_add-result
overflow_add-result c = record { fits = rw (on_top c.args.hi c.args.n c.requires) (low_fits c.args.hi c.args.lo c.args.n c.requires c.ranges.lo.fits) }

pub returns : goal.returns
returns c = rw (on_top c.args.hi c.args.n c.requires)
