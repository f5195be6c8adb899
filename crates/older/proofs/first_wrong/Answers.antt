-- `older::first_wrong` meets its contract: no place before k is wrong.
use mathlib.Core.Path.{◌∙◌, sym}
use Rattle.guard.proofs.Scan.{found, ended}
use Rattle.older.proofs.first_wrong.Goals as goal

pub returns-then-is_wrong : goal.returns-then-is_wrong
returns-then-is_wrong c =
    let l = c.loop-k in
    found _ 16 l.k l.invariant (sym (rw c.is_shown.ensures at c.is_wrong.ensures) ∙ c.if-is_wrong.true)

pub returns : goal.returns
returns c = ended _ 16 c.loop-k.k c.loop-k.invariant c.loop-k-test.false
