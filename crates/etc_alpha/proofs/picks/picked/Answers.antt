-- Turn i stores at the place of pixel 15 - i what the word's low three bits pick, and the word loses them.
-- Assumes nothing.
use mathlib.Core.Path.{◌≡◌, ◌∙◌, sym, ap}
use mathlib.Core.List.{List}
use Prim.Native.Nat.{ℕ, ◌-◌, ◌*◌, ◌/◌, ◌%◌, ◌^◌}
use native.Mathlib.Omega.{arith}
use lib.IntN.{pos}
use lib.ListN.{get_or}
use mir.Syntax.{w16}
use Rattle.tables.specs.consts.Tables.{write_order_lem}
use Rattle.laws.proofs.Filled.{get_or_build}
use Rattle.laws.proofs.Filling.{stored, filled}
use Rattle.laws.proofs.Order.{shifted, place, place_only}
use Rattle.laws.proofs.Signed.{held_small}
use Rattle.etc_alpha.specs.picks.Picks.{pick_at}
use Rattle.etc_alpha.proofs.picks.Indices.{reads}
use Rattle.etc_alpha.proofs.picks.picked.Invariants.{backwards}
use Rattle.etc_alpha.proofs.picks.picked.Goals as goal

pub offset_bounds-out-order : goal.offset_bounds-out-order
unfolding write_order_lem
offset_bounds-out-order c =
    let at : get_or c.write_order-order.result (15 - c.loop-i.i) 0 ≡ place (15 - c.loop-i.i) = let j = 15 - c.loop-i.i in
    ap (λ (a : List ℕ). get_or a j 0) c.write_order-order.ensures ∙ get_or_build place 0 16 j (omega arith) in
    omega (arith, at)

pub bounds-out-order : goal.bounds-out-order
unfolding write_order_lem
bounds-out-order c =
    let at : get_or c.write_order-order.result (15 - c.loop-i.i) 0 ≡ place (15 - c.loop-i.i) = let j = 15 - c.loop-i.i in
    ap (λ (a : List ℕ). get_or a j 0) c.write_order-order.ensures ∙ get_or_build place 0 16 j (omega arith) in
    omega (arith, at)

pub loop-i-preserved : goal.loop-i-preserved
unfolding write_order_lem
loop-i-preserved c =
    let at : get_or c.write_order-order.result (15 - c.loop-i.i) 0 ≡ place (15 - c.loop-i.i) = let j = 15 - c.loop-i.i in
    ap (λ (a : List ℕ). get_or a j 0) c.write_order-order.ensures ∙ get_or_build place 0 16 j (omega arith) in
    let l = c.loop-i in
    let w = c.index_word-l in
    let o = at in (
      ap (λ (n : ℕ). n / 8) l.invariant.0 ∙ shifted w.result 3 l.i,
      stored backwards _ (pos 0) 16 l.out l.i _ _ l.invariant.1 (omega arith) (omega arith) (λ k h e. place_only (15 - l.i) k h (omega arith) ∙ sym o)
          (held_small w16 _ (omega (arith, c.requires.1 (l.l % 8) (omega arith)))
          ∙ reads c.args.d.now c.args.eight l.i l.l (omega arith) (l.invariant.0 ∙ ap (λ (n : ℕ). n / 2 ^ (3 * l.i)) w.ensures)
          ∙ ap (pick_at _ _) (sym o)),
    )

pub returns : goal.returns
returns c = filled backwards _ (pos 0) 16 c.loop-i.out c.loop-i.i c.loop-i.invariant.1 (λ k h. omega arith)
