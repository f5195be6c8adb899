-- Turn i stores pixel i with what the word's low three bits pick, and the word loses them.
-- Assumes nothing.
use mathlib.Core.Path.{◌∙◌, ap}
use Prim.Native.Nat.{ℕ, ◌/◌}
use native.Mathlib.Omega.{arith}
use lib.ListN.{get_or}
use Rattle.laws.proofs.Filling.{stored_next, filled_all}
use Rattle.laws.proofs.Order.{shifted}
use Rattle.rules.specs.Desktop.{replaced}
use Rattle.bc.proofs.bc3.Turns.{alpha_at_lem}
use Rattle.bc.proofs.bc3.alpha_onto.Goals as goal

pub loop-i-preserved : goal.loop-i-preserved
loop-i-preserved c =
    let l = c.loop-i in
    let d = c.args.d.now in (
      ap (λ (n : ℕ). n / 8) l.invariant.0 ∙ shifted (c.half_word-w.result / 65536) 3 l.i,
      stored_next _ 0 16 l.out l.i l.invariant.1 _ (omega arith)
          (c.replace.ensures
          ∙ ap (replaced c.args.channel (get_or c.args.px l.i 0))
          (alpha_at_lem d c.alphas_in-eight.result c.half_word-w.result l.l l.i c.alphas_in-eight.ensures.0 c.half_word-w.ensures l.invariant.0)),
    )

pub returns : goal.returns
returns c = filled_all _ 0 16 c.loop-i.out c.loop-i.i c.loop-i.invariant.1 (omega arith)
