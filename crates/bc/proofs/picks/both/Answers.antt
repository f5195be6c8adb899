-- Turn i adds what the two words' least digits pick, and the words lose them.
-- Assumes nothing.
use mathlib.Core.Path.{◌∙◌, ap}
use Prim.Native.Nat.{ℕ, ◌+◌, ◌/◌, ◌%◌, ◌^◌}
use native.Mathlib.Omega.{arith}
use lib.ListN.{get_or}
use Rattle.laws.proofs.Filling.{stored_next, filled_all}
use Rattle.bc.proofs.picks.Digits.{lost}
use Rattle.bc.proofs.picks.both.Goals as goal

pub loop-i-preserved : goal.loop-i-preserved
loop-i-preserved g c =
    let l = c.loop-i in
    let tops = c.args.tops in
    let rest = c.args.rest in (
      ap (λ (n : ℕ). n / g.row.M) l.invariant.0 ∙ lost c.args.a g.row.M l.i,
      ap (λ (n : ℕ). n / g.row.N) l.invariant.1 ∙ lost c.args.b g.row.N l.i,
      stored_next _ 0 16 l.out l.i l.invariant.2 _ (omega arith)
          (ap (λ (n : ℕ). get_or tops (n % g.row.M) 0 + get_or rest (l.m % g.row.N) 0) l.invariant.0
          ∙ ap (λ (n : ℕ). get_or tops (c.args.a / g.row.M ^ l.i % g.row.M) 0 + get_or rest (n % g.row.N) 0) l.invariant.1),
    )

pub returns : goal.returns
returns g c = filled_all _ 0 16 c.loop-i.out c.loop-i.i c.loop-i.invariant.2 (omega arith)
