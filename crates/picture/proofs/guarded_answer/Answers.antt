-- `picture::guarded_answer` meets its contract: the first check that fails is the answer, and where all pass the scan has it.
-- Assumes nothing.
use Rattle.std.proofs.Common.{◌∙◌, sym, ap, ℕ, Err, length}
use Rattle.rules.specs.Places.{blocks, bytes_of}
use Rattle.rules.specs.Answers.{said, guarded}
use Rattle.laws.proofs.Judged.{stops, goes_on}
use Rattle.laws.proofs.Results.{handed_on}
use Rattle.laws.proofs.Unique.{refusal}
use Rattle.guard.specs.Viewers.{guard_of}
use Rattle.guard.proofs.Scan.{eight, from_first}
use Rattle.picture.specs.Checked.{checks_for}
use Rattle.picture.proofs.Viewed.{in_order}
use Rattle.picture.proofs.guarded_answer.Goals as goal

pub returns-in_err-verify : goal.returns-in_err-verify
returns-in_err-verify c =
    let a = c.args in
    let r = c.in_err-verify.field-0.0 in
    ap said (handed_on c.from_residual.result r c.from_residual.ensures.1)
    ∙ stops (checks_for a.viewer a.pic (length a.d.now) a.elements) _ (Err r) c.in_err-verify.ensures (refusal r)

pub returns : goal.returns
returns c =
    let a = c.args in
    let g = guard_of a.viewer in
    let test = λ (size : ℕ) (i : ℕ). g.bad (bytes_of size a.d.now i) in
    c.refusal.ensures
    ∙ from_first g c.blocks_of.result a.d.now
    ∙ ap (guarded g.number (test 8)) c.blocks_of.ensures.0
    ∙ ap (λ (size : ℕ). guarded g.number (test size) (blocks a.pic)) (sym (eight a.viewer))
    ∙ sym
    (goes_on (checks_for a.viewer a.pic (length a.d.now) a.elements) _ (in_order a.viewer a.pic (length a.d.now) a.elements)
    c.in_ok-verify.ensures)
