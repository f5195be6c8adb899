-- `older::Viewed::tally` meets its contract. The loop has counted the blocks before b.
use native.Mathlib.Omega.{arith}
use Rattle.guard.specs.Viewers.{guard_of}
use Rattle.older.proofs.Counts.{begin, joins}
use Rattle.older.proofs.Viewed.tally.Goals as goal

-- Assumes nothing.

pub loop-b-init : goal.loop-b-init
loop-b-init c = (omega arith, begin _ _ _)

pub loop-b-preserved : goal.loop-b-preserved
loop-b-preserved c =
    let l = c.loop-b in
    let a = c.args in (
      omega (arith, c.loop-b-test.true),
      joins (guard_of a.self.viewer) a.self.pic a.self.«data».now l.c c.join-c.result l.b c.in_block.result l.invariant.1 c.in_block.ensures c.join-c.ensures,
    )
