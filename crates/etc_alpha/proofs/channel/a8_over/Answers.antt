-- Turn i stores element i with the alpha that it picks.
-- Assumes nothing.
use mathlib.Core.Path.{◌≡◌, ◌∙◌, refl, sym, ap, subst}
use Prim.Native.Nat.{ℕ, ◌+◌, ◌/◌, ◌%◌, ◌<◌}
use native.Mathlib.Omega.{arith}
use lib.IntN.{ℤ, pos, nat_abs}
use lib.ListN.{length, get_or, set}
use mir.Syntax.{w16}
use Rattle.rules.specs.Channels.{alpha_byte, with_alpha}
use Rattle.laws.proofs.Signed.{held}
use Rattle.pixel.proofs.fill.Part.{Begun, go_on}
use Rattle.etc_alpha.proofs.channel.Moves.{small_byte, alpha_held}
use Rattle.etc_alpha.proofs.channel.a8_over.Invariants.{rule}
use Rattle.etc_alpha.proofs.channel.a8_over.Goals as goal

pub topped-requires : goal.topped-requires
topped-requires c =
    let turn : held w16 (get_or c.picked-alphas.result c.loop-i.i (pos 0)) ≡ pos (alpha_byte c.args.d.now (c.loop-i.i % 4) (c.loop-i.i / 4)) = let e = c.eight_alphas in
    alpha_held c.args.d.now e.result c.picked-alphas.result c.loop-i.i e.ensures c.picked-alphas.ensures (omega arith) in
    rw turn (refl, small_byte c.args.d.now (c.loop-i.i % 4) (c.loop-i.i / 4))

pub loop-i-preserved : goal.loop-i-preserved
loop-i-preserved c =
    let room : c.loop-i.i < length c.loop-i.image = omega (arith, c.loop-i.invariant.1.1.same, c.requires.1) in
    let turn : held w16 (get_or c.picked-alphas.result c.loop-i.i (pos 0)) ≡ pos (alpha_byte c.args.d.now (c.loop-i.i % 4) (c.loop-i.i / 4)) = let e = c.eight_alphas in
    alpha_held c.args.d.now e.result c.picked-alphas.result c.loop-i.i e.ensures c.picked-alphas.ensures (omega arith) in
    let l = c.loop-i in
    let a = c.args in
    let d = a.d.now in
    let old = a.image.now in
    let i = l.i in
    let stood : get_or l.image i 0 ≡ get_or old i 0 = l.invariant.1.1.miss i (λ h. omega arith) in
    let e = c.topped.ensures ∙ ap (λ (z : ℤ). with_alpha (get_or l.image i 0) (nat_abs z)) turn
    ∙ ap (λ (p : ℕ). with_alpha p (alpha_byte d (i % 4) (i / 4))) stood in (
      omega arith,
      subst (λ (v : ℕ). Begun (rule d old) old (set l.image i v) (i + 1)) (sym e)
          (go_on (rule d old) old l.image i room l.invariant.1),
    )
