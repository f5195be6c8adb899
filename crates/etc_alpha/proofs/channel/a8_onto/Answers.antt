-- Turn i stores pixel i with the alpha that it picks.
-- Assumes nothing.
use mathlib.Core.Path.{◌≡◌, ◌∙◌, refl, ap}
use Prim.Native.Nat.{◌/◌, ◌%◌}
use native.Mathlib.Omega.{arith}
use lib.IntN.{ℤ, pos, nat_abs}
use lib.ListN.{get_or}
use mir.Syntax.{w16}
use Rattle.rules.specs.Channels.{alpha_byte, with_alpha}
use Rattle.laws.proofs.Filling.{stored_next, filled_all}
use Rattle.laws.proofs.Signed.{held}
use Rattle.etc_alpha.proofs.channel.Moves.{small_byte, alpha_held}
use Rattle.etc_alpha.proofs.channel.a8_onto.Goals as goal

pub topped-requires : goal.topped-requires
topped-requires c =
    let turn : held w16 (get_or c.picked-alphas.result c.loop-i.i (pos 0)) ≡ pos (alpha_byte c.args.d.now (c.loop-i.i % 4) (c.loop-i.i / 4)) = let p = c.picked-alphas in
    alpha_held c.args.d.now c.args.eight p.result c.loop-i.i c.requires.1 p.ensures (omega arith) in
    rw turn (refl, small_byte c.args.d.now (c.loop-i.i % 4) (c.loop-i.i / 4))

pub loop-i-preserved : goal.loop-i-preserved
loop-i-preserved c =
    let turn : held w16 (get_or c.picked-alphas.result c.loop-i.i (pos 0)) ≡ pos (alpha_byte c.args.d.now (c.loop-i.i % 4) (c.loop-i.i / 4)) = let p = c.picked-alphas in
    alpha_held c.args.d.now c.args.eight p.result c.loop-i.i c.requires.1 p.ensures (omega arith) in
    let l = c.loop-i in
    let px = c.args.px in
    stored_next _ 0 16 l.out l.i l.invariant _ (omega arith) (c.topped.ensures ∙ ap (λ (z : ℤ). with_alpha (get_or px l.i 0) (nat_abs z)) turn)

pub returns : goal.returns
returns c =
    let l = c.loop-i in
    filled_all _ 0 16 l.out l.i l.invariant (omega arith)
