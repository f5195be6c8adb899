-- Turn i stores the row's step i; eight of them are the row.
-- Assumes nothing.
use mathlib.Core.Path.{◌≡◌, ◌∙◌, refl, sym, ap}
use mathlib.Core.List.{List, []}
use Prim.Native.Nat.{◌<◌}
use native.Mathlib.Omega.{arith}
use lib.IntN.{ℤ, pos}
use lib.ListN.{get_or}
use lib.Signed.{mag}
use mir.Syntax.{w8, w16}
use Rattle.rules.specs.Channels.{alpha_steps_lem}
use Rattle.laws.proofs.Filled.{is_build}
use Rattle.laws.proofs.Filling.{stored_next, filled_all}
use Rattle.laws.proofs.Signed.{held, held_twice}
use Rattle.etc_alpha.proofs.channel.Steps.{small_row, eight_in_row}
use Rattle.etc_alpha.proofs.channel.steps_in.Goals as goal

pub loop-i-preserved : goal.loop-i-preserved
loop-i-preserved c =
    let read : ℤ = get_or (get_or c.args.table.now c.args.row []) c.loop-i.i (pos 0) in
    let is-step : read ≡ get_or (get_or alpha_steps_lem c.args.row []) c.loop-i.i (pos 0) = ap (λ (a : List (List ℤ)). get_or (get_or a c.args.row []) c.loop-i.i (pos 0)) c.requires.1 in
    let is-small : mag read < 16 = rw is-step (small_row _ _ c.requires.0) in
    let l = c.loop-i in
    let s = is-small in
    stored_next _ (pos 0) 8 l.out l.i l.invariant _ (omega arith) (ap (held w16) c.from.ensures ∙ held_twice w8 w16 read (omega arith) (omega arith) ∙ is-step)

pub returns : goal.returns
returns c =
    let row = c.args.row in
    filled_all _ (pos 0) 8 c.loop-i.out c.loop-i.i c.loop-i.invariant (omega arith)
    ∙ sym (is_build _ (pos 0) 8 (get_or alpha_steps_lem row []) (eight_in_row row c.requires.0) (λ k h. refl))
