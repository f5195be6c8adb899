-- `sheet::first::first_record` meets its contract.
-- Assumes nothing.
use mathlib.Core.Path.{◌≡◌, ◌∙◌, sym}
use native.Mathlib.Omega.{arith}
use Rattle.rules.specs.Places.{sized}
use Rattle.rules.specs.Sheets.{format_of}
use Rattle.sheet.specs.records.Turns.{all, Turn}
use Rattle.sheet.proofs.first.Heads.{too_large, headed}
use Rattle.sheet.proofs.first.first_record.Goals as goal

pub returns-then-too_large : goal.returns-then-too_large
returns-then-too_large c =
    let turn : Turn all c.args.d.now 0 c.in-Some.record.kind c.in-Some.record.start c.in-Some.record.length = rw c.in-Some.is at c.in_ok-record.ensures in
    too_large _ _ _ _ turn c.if-record-ne1.false c.if-record-ne9.false _ c.from-number.ensures
    (omega (arith, c.if-number-gt7.false)) _ _ c.little4-width.ensures.0 c.little4-height.ensures.0 (rw c.sized-pic.ensures at (sym c.too_large.ensures ∙ c.if-too_large.true))

pub returns : goal.returns
returns c =
    let turn : Turn all c.args.d.now 0 c.in-Some.record.kind c.in-Some.record.start c.in-Some.record.length = rw c.in-Some.is at c.in_ok-record.ensures in
    let o : c.format_of-format.result ≡ format_of c.from-number.result = c.format_of-format.ensures in
    let p = sized c.little4-width.result c.little4-height.result in
    rw o
    (headed _ _ _ _ turn c.if-record-ne1.false c.if-record-ne9.false _ c.from-number.ensures (omega (arith, c.if-number-gt7.false)) _ _
    c.little4-width.ensures.0 c.little4-height.ensures.0 (rw c.sized-pic.ensures at (sym c.too_large.ensures ∙ c.if-too_large.false)) _
    (rw (c.sized-pic.ensures, o) at c.block_bytes.ensures.0))
