-- At each of 256 bytes, by one computed test.
-- Assumes nothing.
use mathlib.Core.Bool.{Bool}
use Prim.Native.Nat.{ℕ}
use lib.Dec.{eqb, eqb→eq}
use lib.Count.{count_trailing_zeros}
use Rattle.rules.specs.Bc7.{lowest}
use Rattle.laws.proofs.Every.{below}
use Rattle.bc7.proofs.bptc.zeros_below.Goals as goal

right : ℕ → Bool
right b = eqb (count_trailing_zeros 8 b) (lowest 8 b 0)

pub returns : goal.returns
unfolding lowest count_trailing_zeros right
returns c = eqb→eq _ _ (below right 256 tt c.args.b c.ranges.b.fits)
