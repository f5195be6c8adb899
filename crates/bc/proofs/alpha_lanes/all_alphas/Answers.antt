-- Either order, by the formula of all lanes.
-- Assumes nothing.
use mathlib.Core.Path.{◌≡◌, ◌∙◌, ap}
use mathlib.Core.List.{List}
use Prim.Native.Nat.{ℕ}
use native.Mathlib.Omega.{arith}
use lib.Dec.{ltb}
use lib.ListN.{get_or}
use Rattle.rules.specs.Notation.{build}
use Rattle.bc.proofs.alpha_lanes.Orders.{lanes, in_order}
use Rattle.bc.proofs.alpha_lanes.all_alphas.Goals as goal

pub returns : goal.returns
returns c =
    let a = c.args in
    let e : c.lanes.result ≡ build 16 (lanes (ltb a.b a.a) a.a a.b) =
    c.lanes.ensures
    ∙ rw (
      c.select_unpredictable-4.ensures,
      c.select_unpredictable-3.ensures,
      c.select_unpredictable-2.ensures,
      c.select_unpredictable.ensures,
      c.from-q.ensures,
      c.from-p.ensures,
    ) in
    λ k h. ap (λ (l : List ℕ). get_or l k 0) e ∙ in_order (ltb a.b a.a) a.a a.b (omega arith) (omega arith) k h
