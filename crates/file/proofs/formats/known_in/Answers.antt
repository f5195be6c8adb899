-- `file::formats::known_in` meets its contract: what is left of the table tells the same at each turn.
-- Assumes nothing.
use mathlib.Core.Path.{◌≡◌, ◌∙◌, sym, ap}
use Prim.Native.Nat.{ℕ, ◌+◌, ◌*◌}
use native.Mathlib.Omega.{arith}
use lib.ListN.{drop}
use Rattle.rules.specs.FileFormats.{known_flat}
use Rattle.file.proofs.Flat.{met, passed, over}
use Rattle.file.proofs.formats.known_in.Goals as goal

pub returns-then-table-at : goal.returns-then-table-at
returns-then-table-at c =
    sym (met c.args.table.now (c.loop-row.row * 3) c.args.number (omega arith) c.if-table-at.true) ∙ c.loop-row.invariant

pub loop-row-preserved : goal.loop-row-preserved
loop-row-preserved c =
    let next : (c.loop-row.row + 1) * 3 ≡ c.loop-row.row * 3 + 3 = omega arith in
    ap (λ (z : ℕ). known_flat (drop z c.args.table.now) c.args.number) next
    ∙ sym (passed c.args.table.now (c.loop-row.row * 3) c.args.number (omega arith) c.if-table-at.false)
    ∙ c.loop-row.invariant

pub returns : goal.returns
returns c = sym (over c.args.table.now (c.loop-row.row * 3) c.args.number (omega arith)) ∙ c.loop-row.invariant
