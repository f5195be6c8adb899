-- The sum of the pixels passed.
-- Assumes nothing.
use mathlib.Core.Path.{◌≡◌, ◌∙◌, refl, ap}
use Prim.Native.Nat.{ℕ}
use native.Mathlib.Omega.{arith}
use lib.ListN.{get_or}
use Rattle.rules.specs.Counting.{sum_of}
use Rattle.bake.specs.nearest.Search.{away, nearest_of, part_of, cost_of}
use Rattle.bake.proofs.nearest.Search.{adds}
use Rattle.bake.proofs.nearest.half_cost.Goals as goal

pub loop-j-init : goal.loop-j-init
unfolding sum_of
loop-j-init c = (refl, omega arith)

pub loop-j-preserved : goal.loop-j-preserved
loop-j-preserved c =
    let a = c.args in
    let t = a.tile.pixels.now in
    let v = c.nearest-near.ensures.2 ∙ ap (λ (k : ℕ). away a.colours (get_or t k 0) (nearest_of a.colours (get_or t k 0))) c.own.ensures.0 in
    (adds (part_of a.colours a.tile.flip t a.h) c.loop-j.sum _ c.loop-j.j c.loop-j.invariant.0 v, omega (arith, c.nearest-near.ensures.3))

pub returns : goal.returns
unfolding cost_of
returns c =
    let a = c.args in
    let e : c.loop-j.j ≡ 8 = omega arith in
    c.loop-j.invariant.0 ∙ ap (sum_of (part_of a.colours a.tile.flip a.tile.pixels.now a.h)) e
