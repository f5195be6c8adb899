-- Sixteen pixels by their rule.
-- Assumes nothing.
use mathlib.Core.Path.{◌≡◌, ◌∙◌, ap}
use mathlib.Core.List.{List}
use Prim.Native.Nat.{ℕ}
use lib.Dec.{ltb, ltb→lt}
use lib.ListN.{get_or}
use Rattle.rules.specs.Notation.{build}
use Rattle.rules.specs.Places.{painted}
use Rattle.laws.proofs.Filled.{get_or_build}
use Rattle.laws.proofs.Paint.{painted_same}

-- sixteen pixels, written one by one, are those of their rule
pub sixteen : (rule : ℕ → ℕ) (t old : List ℕ) → t ≡ build 16 rule → painted (λ k. ltb k 16) (λ k. get_or t k 0) old ≡ painted (λ k. ltb k 16) rule old
sixteen rule t old e =
    painted_same (λ k. ltb k 16) (λ k. get_or t k 0) rule old
    (λ k h. ap (λ (l : List ℕ). get_or l k 0) e ∙ get_or_build rule 0 16 k (ltb→lt k 16 h))
