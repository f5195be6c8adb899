-- `file::keys::Pairs::rows_in` meets its contract: what is left to walk tells the same at each turn.
-- Assumes nothing.
use mathlib.Core.Path.{◌≡◌, ◌∙◌, sym}
use Prim.Native.Nat.{◌+◌, ◌*◌, ◌/◌}
use native.Mathlib.Omega.{arith}
use borrow.Author.Tests.{eq-eqb, ne_eqb, lt-ltb, le-ltb}
use lib.ListN.{length}
use Rattle.file.proofs.KeyTurns.{turn, over}
use Rattle.file.proofs.keys.Pairs.rows_in.Goals as goal

pub returns-then-at-stop : goal.returns-then-at-stop
returns-then-at-stop c = let l = c.loop in
    let a = c.args in
    sym (turn a.self.second a.self.order a.self.d.now a.stop (length a.self.d.now) l.counter l.at l.told (omega arith) ∙ simp (eq-eqb _ _ c.if-at-stop.true)) ∙ l.invariant.1

pub returns-then-stop-at : goal.returns-then-stop-at
returns-then-stop-at c = let l = c.loop in
    let a = c.args in
    sym
    (turn a.self.second a.self.order a.self.d.now a.stop (length a.self.d.now) l.counter l.at l.told (omega arith)
    ∙ simp (ne_eqb _ _ c.if-at-stop.false, lt-ltb _ _ c.if-stop-at.true))
    ∙ l.invariant.1

pub returns-then-stop-at-2 : goal.returns-then-stop-at-2
returns-then-stop-at-2 c = let l = c.loop in
    let a = c.args in
    let e = c.next_multiple_of-whole.ensures in
    let w : c.next_multiple_of-whole.result ≡ (c.word-size.result + 3) / 4 * 4 = omega (arith, e.lower_bound, e.upper_bound, e.multiple) in
    sym
    (turn a.self.second a.self.order a.self.d.now a.stop (length a.self.d.now) l.counter l.at l.told (omega arith)
    ∙ simp (ne_eqb _ _ c.if-at-stop.false, le-ltb _ _ c.if-stop-at.false, sym c.word-size.ensures.0, sym w, lt-ltb _ _ c.if-stop-at-2.true))
    ∙ l.invariant.1

pub loop-preserved : goal.loop-preserved
loop-preserved c = let l = c.loop in
    let a = c.args in
    let e = c.next_multiple_of-whole.ensures in
    let w : c.next_multiple_of-whole.result ≡ (c.word-size.result + 3) / 4 * 4 = omega (arith, e.lower_bound, e.upper_bound, e.multiple) in (
      omega arith,
      sym
          (turn a.self.second a.self.order a.self.d.now a.stop (length a.self.d.now) l.counter l.at l.told (omega arith)
          ∙ simp (
            ne_eqb _ _ c.if-at-stop.false,
            le-ltb _ _ c.if-stop-at.false,
            sym c.word-size.ensures.0,
            sym w,
            le-ltb _ _ c.if-stop-at-2.false,
            sym c.entry_told-told.ensures,
          ))
          ∙ l.invariant.1,
    )

pub returns : goal.returns
returns c = let l = c.loop in
    let a = c.args in
    sym (over a.self.second a.self.order a.self.d.now a.stop (length a.self.d.now) l.counter l.at l.told (omega arith)) ∙ l.invariant.1
