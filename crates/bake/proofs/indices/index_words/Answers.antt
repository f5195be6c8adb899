-- The bits of the pixels passed, from the last one down.
-- Assumes nothing.
use mathlib.Core.List.{List, []}
use Prim.Native.Nat.{ℕ, ◌<◌}
use native.Mathlib.Omega.{arith}
use lib.ListN.{get_or}
use Rattle.bake.specs.indices.Index.{index_by}
use Rattle.rules.specs.Baking.{of_half_lem, half_of}
use Rattle.bake.proofs.nearest.Search.{one_of_four}
use Rattle.bake.proofs.indices.Spelling.{Spelt, begun, turned, small, ended}
use Rattle.bake.proofs.indices.index_words.Goals as goal

-- sixteen bits of the indices are below 2^16
bound : (halves : List (List ℕ)) (flip : ℕ) (t : List ℕ) (i h l : ℕ) → Spelt (index_by (get_or halves 0 []) (get_or halves 1 []) flip t) i h l
    → (h < 65536) × (l < 65536)
bound halves flip t =
    small (index_by (get_or halves 0 []) (get_or halves 1 []) flip t)
    (λ k. one_of_four (of_half_lem (get_or halves 0 []) (get_or halves 1 []) (half_of flip k)) (get_or t k 0))

pub loop-i-init : goal.loop-i-init
loop-i-init c =
    let a = c.args in
    begun (index_by (get_or a.halves 0 []) (get_or a.halves 1 []) a.tile.flip a.tile.pixels.now)

pub overflow_mul-high : goal.overflow_mul-high
overflow_mul-high c =
    let t = c.args.tile in
    let l = c.loop-i in
    omega (arith, bound c.args.halves t.flip t.pixels.now l.i l.high l.low l.invariant)

pub overflow_add-high : goal.overflow_add-high
overflow_add-high c =
    let t = c.args.tile in
    let l = c.loop-i in
    omega (arith, bound c.args.halves t.flip t.pixels.now l.i l.high l.low l.invariant)

pub overflow_mul-low : goal.overflow_mul-low
overflow_mul-low c =
    let t = c.args.tile in
    let l = c.loop-i in
    omega (arith, bound c.args.halves t.flip t.pixels.now l.i l.high l.low l.invariant)

pub overflow_add-low : goal.overflow_add-low
overflow_add-low c =
    let t = c.args.tile in
    let l = c.loop-i in
    omega (arith, bound c.args.halves t.flip t.pixels.now l.i l.high l.low l.invariant)

pub loop-i-preserved : goal.loop-i-preserved
loop-i-preserved c =
    let a = c.args in
    let l = c.loop-i in
    turned (index_by (get_or a.halves 0 []) (get_or a.halves 1 []) a.tile.flip a.tile.pixels.now) l.i l.high l.low _
    l.invariant c.loop-i-test.true c.index_at-index.ensures.0

pub returns : goal.returns
returns c =
    let a = c.args in
    let l = c.loop-i in
    let within = bound a.halves a.tile.flip a.tile.pixels.now l.i l.high l.low l.invariant in
    let e = ended (index_by (get_or a.halves 0 []) (get_or a.halves 1 []) a.tile.flip a.tile.pixels.now) l.i l.high l.low l.invariant (omega arith) in
    (e.0, e.1, within.0, within.1)
