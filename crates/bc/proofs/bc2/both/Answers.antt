-- Turn i adds the low bits of one word and what those of the other pick, and the words lose them.
-- Assumes nothing.
use mathlib.Core.Path.{◌∙◌, ap}
use Prim.Native.Nat.{ℕ, ◌+◌, ◌*◌, ◌/◌, ◌%◌, ◌^◌}
use native.Mathlib.Omega.{arith}
use lib.ListN.{get_or}
use lib.Pow.{shr-shr}
use Rattle.laws.proofs.Filling.{stored_next, filled_all}
use Rattle.laws.proofs.Order.{shifted}
use Rattle.bc.proofs.bc2.both.Goals as goal

pub loop-i-preserved : goal.loop-i-preserved
loop-i-preserved c =
    let l = c.loop-i in
    let a = c.args.a in
    let w = c.args.w in
    let hues = c.args.hues in (
      ap (λ (n : ℕ). n / 16) l.invariant.0 ∙ shifted a 4 l.i,
      ap (λ (n : ℕ). n / 4) l.invariant.1 ∙ shifted (w / 0x100000000) 2 l.i,
      stored_next _ 0 16 l.out l.i l.invariant.2 _ (omega arith)
          (ap (λ (n : ℕ). n % 16 * 0x11000000 + get_or hues (l.m % 4) 0) l.invariant.0
          ∙ ap (λ (n : ℕ). a / 2 ^ (4 * l.i) % 16 * 0x11000000 + get_or hues (n % 4) 0) (l.invariant.1 ∙ shr-shr w 32 (2 * l.i))),
    )

pub returns : goal.returns
returns c = filled_all _ 0 16 c.loop-i.out c.loop-i.i c.loop-i.invariant.2 (omega arith)
