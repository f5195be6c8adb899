-- The rule with signs and the one that wraps without them agree at each byte.
-- Assumes nothing.
use Rattle.std.proofs.Common.{arith}
use Rattle.etc_colour.proofs.etc1.Wrap.{unsigned}
use Rattle.etc_colour.proofs.etc1.wrapped_sum.Goals as goal

pub returns : goal.returns
returns c = omega (arith, unsigned c.args.b (omega arith))
