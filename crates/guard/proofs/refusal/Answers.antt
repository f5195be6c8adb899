-- `guard::refusal` meets its contract: a block goes by only where the viewer may show it, and the first that does not is refused.
-- Assumes nothing.
use mathlib.Core.Path.{◌∙◌, ap}
use Rattle.std.specs.Prelude.{Err}
use Rattle.rules.specs.Answers.{said}
use Rattle.laws.proofs.Results.{handed_on}
use Rattle.laws.proofs.Unique.{refusal}
use Rattle.guard.proofs.Scan.{stops, goes, ends}
use Rattle.guard.proofs.refusal.Goals as goal

pub returns-in_err-judged : goal.returns-in_err-judged
returns-in_err-judged c =
    let a = c.args in
    let r = c.in_err-judged.field-0.0 in
    ap said (handed_on c.from_residual.result r c.from_residual.ensures.1)
    ∙ stops a.viewer a.«data».now a.from a.n c.loop-b.b (Err r) c.loop-b.invariant c.loop-b-test.true c.in_err-judged.ensures (refusal r)

pub returns : goal.returns
returns c =
    let a = c.args in
    ends a.viewer a.«data».now a.from a.n c.loop-b.b c.loop-b.invariant c.loop-b-test.false
