-- Turn i stores value i.
-- Assumes nothing.
use Rattle.std.proofs.Common.{◌≡◌, pos, ap, ◌∙◌, arith, w16}
use Rattle.rules.specs.Channels.{multiplier}
use Rattle.laws.proofs.Filling.{stored_next, filled_all}
use Rattle.laws.proofs.Signed.{held, held_small}
use Rattle.eac.specs.Eights.{whole_of}
use Rattle.eac.proofs.Bytes.{step_held, step_small, in_order, whole_at_lem}
use Rattle.eac.proofs.eight_wholes.Goals as goal

pub eac_whole-requires : goal.eac_whole-requires
eac_whole-requires c =
    let a = c.args in (
      rw (held_small w16 a.base (omega arith)) c.requires.base_value.1,
      omega arith,
      step_small a.d.now c.steps_in-steps.result c.row_of.result c.loop-i.i c.steps_in-steps.ensures c.row_of.ensures.0,
      in_order a.span.signed a.span.low a.span.high c.args.span.from c.args.span.to,
    )

pub loop-i-preserved : goal.loop-i-preserved
loop-i-preserved c =
    let value : held w16 c.eac_whole.result ≡ whole_of c.args.span.signed c.args.d.now c.loop-i.i = let a = c.args in
    let d = a.d.now in
    whole_at_lem a.span.signed d a.base a.span.low a.span.high c.eac_whole.result _
    c.times_of-m.result c.loop-i.i c.requires.base_value.0 c.requires.base_value.1 (c.times_of-m.ensures.0 ∙ ap multiplier c.multiplier_of.ensures.0)
    c.args.span.from c.args.span.to
    (step_held d c.steps_in-steps.result c.row_of.result c.loop-i.i c.steps_in-steps.ensures c.row_of.ensures.0)
    c.eac_whole.ensures in
    let l = c.loop-i in
    stored_next _ (pos 0) 8 l.eight l.i l.invariant _ (omega arith) value

pub returns : goal.returns
returns c = filled_all _ (pos 0) 8 c.loop-i.eight c.loop-i.i c.loop-i.invariant (omega arith)
