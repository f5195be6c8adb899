-- `sheet::records::next` meets its contract: what was passed is skipped, so that what is met behind it is what is met.
-- Assumes nothing.
use mathlib.Core.Path.{◌∙◌, ap}
use Prim.Native.Nat.{◌≤◌}
use native.Mathlib.Omega.{arith}
use Rattle.std.proofs.lemmas.Result.{err_from_is_err_and}
use Rattle.std.specs.Prelude.{Ok, Some, None}
use Rattle.rules.specs.Records.{kept}
use Rattle.sheet.specs.records.Turns.{all, Turn, Stands}
use Rattle.sheet.proofs.records.Turns.{skips, stays, begins_behind, sooner}
use Rattle.sheet.proofs.records.next.Goals as goal

pub returns-in_err-record : goal.returns-in_err-record
unfolding kept
returns-in_err-record c =
    let p = err_from_is_err_and c.from_residual.result c.from_residual.ensures.1 in
    rw (p.1, p.2) (c.in_err-record.ensures.0, c.loop-record.invariant.2 ∙ ap kept c.in_err-record.ensures.1)

pub returns-then-record-lt32768 : goal.returns-then-record-lt32768
returns-then-record-lt32768 c =
    let turn : Turn all c.args.d.now c.loop-record.at c.in-Some.record.kind c.in-Some.record.start c.in-Some.record.length = rw c.in-Some.is at c.in_ok-record.ensures in
    sooner c.args.d.now c.args.from c.loop-record.at (Ok (Some c.in-Some.record)) c.loop-record.invariant.1 c.loop-record.invariant.2 c.loop-record.invariant.3
    (stays c.args.d.now c.loop-record.at _ _ _ turn (omega (arith, c.if-record-lt32768.true)))

pub loop-record-preserved : goal.loop-record-preserved
loop-record-preserved c =
    let turn : Turn all c.args.d.now c.loop-record.at c.in-Some.record.kind c.in-Some.record.start c.in-Some.record.length = rw c.in-Some.is at c.in_ok-record.ensures in
    let late : 32768 ≤ c.in-Some.record.kind = omega (arith, c.if-record-lt32768.false) in (
      turn.within,
      omega (arith, turn.beyond, c.loop-record.invariant.1),
      c.loop-record.invariant.2 ∙ skips c.args.d.now c.loop-record.at _ _ _ turn late,
      c.loop-record.invariant.3 ∙ begins_behind all c.args.d.now c.loop-record.at _ _ _ turn late,
    )

pub returns : goal.returns
unfolding kept
returns c =
    let ended : Stands c.args.d.now c.loop-record.at (Ok None) = rw c.in_default.is at c.in_ok-record.ensures in
    c.loop-record.invariant.2 ∙ ap kept ended
