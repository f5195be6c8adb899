-- `older::compare` meets its contract. The loop has compared the places before k.
use native.Mathlib.Omega.{arith}
use Rattle.older.proofs.Turn.{begin, turn, one_or_none}
use Rattle.older.proofs.compare.Goals as goal

-- Assumes nothing.

pub loop-k-init : goal.loop-k-init
loop-k-init c = (omega arith, begin _ _ _)

pub loop-k-preserved : goal.loop-k-preserved
loop-k-preserved c =
    let l = c.loop-k in (
      omega (arith, c.loop-k-test.true),
      turn _ _ _ l.k l.pixels l.colour l.alpha c.is_wrong-wrong.result _ _ _ l.invariant.1
          (rw c.is_shown.ensures at c.is_wrong-wrong.ensures)
          (one_or_none c.is_wrong-wrong.result l.pixels c.from-pixels.result c.from-pixels.ensures)
          (rw c.colour_off.ensures at c.larger-colour.ensures)
          (rw c.alpha_off.ensures at c.larger-alpha.ensures),
    )
