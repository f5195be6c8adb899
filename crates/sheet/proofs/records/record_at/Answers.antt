-- `sheet::records::record_at` meets its contract.
-- Assumes nothing.
use mathlib.Core.Path.{refl}
use native.Mathlib.Omega.{arith}
use Rattle.sheet.proofs.records.Turns.{is_end, is_short_lem, is_cut, is_whole}
use borrow.Author.Rules.{rules}
use Rattle.sheet.proofs.records.record_at.Goals as goal

pub returns-then-left-eq0 : goal.returns-then-left-eq0
returns-then-left-eq0 c = is_end c.args.d.now c.args.at (search rules) c.if-left-eq0.true

pub returns-then-left-lt6 : goal.returns-then-left-lt6
returns-then-left-lt6 c =
    let a = c.args in
    (refl, is_short_lem a.d.now a.at (search rules) (omega arith) (omega arith))

pub returns-then-left-length : goal.returns-then-left-length
returns-then-left-length c =
    let a = c.args in
    (refl, is_cut a.d.now a.at (search rules) _ c.little4-length.ensures.0 (search rules) (omega arith))

pub returns : goal.returns
returns c =
    let a = c.args in
    is_whole a.d.now a.at (search rules) _ c.little4-length.ensures.0 (search rules) _ c.little2.ensures.0 (search rules)
