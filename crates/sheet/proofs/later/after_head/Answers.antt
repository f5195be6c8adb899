-- `sheet::later::after_head` meets its contract.
-- Assumes nothing.
use native.Mathlib.Omega.{arith}
use Rattle.rules.specs.Records.{kept}
use Rattle.sheet.specs.records.Turns.{Turn}
use Rattle.sheet.proofs.later.Follow.{blocked}
use Rattle.sheet.proofs.later.after_head.Goals as goal

pub returns : goal.returns
returns c =
    let a = c.args in
    let turn : Turn kept a.d.now a.at c.in-Some.record.kind c.in-Some.record.start c.in-Some.record.length = rw c.in-Some.is at c.in_ok-record.ensures in
    blocked a.d.now a.at a.n _ _ _ turn c.if-record-ne2.false (omega (arith, c.if-record-n.false)) c.in_ok-after_blocks.ensures
