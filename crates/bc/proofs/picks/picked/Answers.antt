-- Turn i stores what the word's least digit picks, and the word loses it.
-- Assumes nothing.
use mathlib.Core.Path.{◌∙◌, ap}
use Prim.Native.Nat.{ℕ, ◌/◌, ◌%◌}
use native.Mathlib.Omega.{arith}
use lib.ListN.{get_or}
use Rattle.laws.proofs.Filling.{stored_next, filled_all}
use Rattle.bc.proofs.picks.Digits.{lost}
use Rattle.bc.proofs.picks.picked.Goals as goal

pub loop-i-preserved : goal.loop-i-preserved
loop-i-preserved g c =
    let l = c.loop-i in
    let n = g.row.N in (
      ap (λ (m : ℕ). m / n) l.invariant.0 ∙ lost c.args.w n l.i,
      stored_next _ 0 16 l.out l.i l.invariant.1 _ (omega arith) (ap (λ (m : ℕ). get_or c.args.set (m % n) 0) l.invariant.0),
    )

pub returns : goal.returns
returns g c = filled_all _ 0 16 c.loop-i.out c.loop-i.i c.loop-i.invariant.1 (omega arith)
