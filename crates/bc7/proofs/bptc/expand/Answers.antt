-- `bc7::bptc::expand` meets its contract: the shifts are a product and a division, within a byte.
-- Assumes nothing.
use Rattle.laws.proofs.Shades.{shifted, expand_byte}
use Rattle.bc7.proofs.bptc.expand.Goals as goal

pub overflow_cast-result-2 : goal.overflow_cast-result-2
overflow_cast-result-2 c = record { fits = rw (c.from.ensures, shifted c.args.w c.args.v c.requires.0 c.requires.1) (expand_byte c.args.w c.args.v c.requires.0 c.requires.1) }
