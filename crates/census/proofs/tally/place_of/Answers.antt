-- `census::tally::place_of` meets its contract: each way out knows the two bits that led to it.
use mathlib.Core.Path.{ap}
use mathlib.Core.Bool.{true, false}
use Prim.Native.Nat.{ℕ, ◌+◌, ◌/◌, ◌%◌}
use native.Mathlib.Omega.{arith}
use lib.ListN.{get_or}
use borrow.Author.Tests.{eq-eqb, ne_eqb}
use Rattle.laws.proofs.Sorted.{sorts}
use Rattle.census.proofs.tally.place_of.Goals as goal

-- Assumes nothing.

pub returns-then-split : goal.returns-then-split
returns-then-split c =
    let a = c.args in
    let d = a.d.now in
    (sorts a.split d true _ (eq-eqb (get_or d 3 0 / 2 % 2) 1 c.if-d-eq1.true) (rw c.if-split.true c.among_four-four.ensures.0), omega arith)

pub returns-else-split : goal.returns-else-split
returns-else-split c =
    let a = c.args in
    let d = a.d.now in
    (sorts a.split d true _ (eq-eqb (get_or d 3 0 / 2 % 2) 1 c.if-d-eq1.true) (rw c.if-split.false (ap (λ (k : ℕ). k + 1) c.among_four-four.ensures.0)), omega arith)

pub returns-then-split-2 : goal.returns-then-split-2
returns-then-split-2 c =
    let a = c.args in
    let d = a.d.now in
    (sorts a.split d false _ (ne_eqb (get_or d 3 0 / 2 % 2) 1 c.if-d-eq1.false) (rw c.if-split-2.true (ap (λ (k : ℕ). k + 4) c.among_four-four.ensures.0)), omega arith)
