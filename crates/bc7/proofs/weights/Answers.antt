-- `bc7::weights` meets its contract: the indices, and then their weights.
-- Assumes nothing.
use mathlib.Core.Path.{◌∙◌, ap, sym, subst}
use mathlib.Core.List.{List}
use Prim.Native.Nat.{ℕ, ◌/◌, ◌%◌, ◌^◌, ◌<◌}
use native.Mathlib.Nat.{mod-lt, lt_of_lt_of_le}
use native.Mathlib.Omega.{arith}
use lib.Dec.{lit<}
use lib.ListN.{get_or}
use lib.Pow.{pow_pos, pow_mono}
use Rattle.rules.specs.Bptc.{weights_of}
use Rattle.laws.proofs.Filled.{get_or_build, build_same}
use Rattle.bc7.specs.rest.Whole.{passed_by, width_by}
use Rattle.bc7.proofs.Steps.{each}
use Rattle.bc7.proofs.weights.Goals as goal

pub weigh-requires-clause-by_index : goal.weigh-requires-clause-by_index
weigh-requires-clause-by_index c =
    let a = c.args in
    λ k. subst (λ (l : List ℕ). get_or l k 0 < 16) (sym c.indices.ensures)
    (each (λ x. x < 16) (λ i. a.v / 2 ^ passed_by a.b a.mask i % 2 ^ width_by a.b a.mask i) 16
    (λ i h. lt_of_lt_of_le (mod-lt (a.v / 2 ^ passed_by a.b a.mask i) (pow_pos (width_by a.b a.mask i))) (pow_mono {j = 4} (omega arith))) (lit< tt) k)

pub returns : goal.returns
returns c =
    let a = c.args in
    c.weigh.ensures
    ∙ build_same 0 (λ i. get_or (weights_of a.b) (get_or c.indices.result i 0) 0)
    (λ i. get_or (weights_of a.b) (a.v / 2 ^ passed_by a.b a.mask i % 2 ^ width_by a.b a.mask i) 0) 16
    (λ i h. ap (λ (x : ℕ). get_or (weights_of a.b) x 0) (ap (λ (l : List ℕ). get_or l i 0) c.indices.ensures
    ∙ get_or_build (λ i. a.v / 2 ^ passed_by a.b a.mask i % 2 ^ width_by a.b a.mask i) 0 16 i h))
