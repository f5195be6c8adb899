-- Eight bytes.
-- Assumes nothing.
use native.Mathlib.Omega.{arith}
use Rattle.numbers.specs.Numbers.{little}
use Rattle.bc.proofs.bc1.half_word.Goals as goal

pub returns : goal.returns
unfolding little
returns c = omega (arith, c.from_le_bytes.ensures)
