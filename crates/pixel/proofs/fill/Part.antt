-- The first elements of a part of an image, one after another, and the first sixteen of an image.
-- Assumes nothing.
use mathlib.Core.Path.{◌≡◌, refl, ap}
use mathlib.Core.List.{List, ◌++◌}
use mathlib.Core.Logic.{inl, inr, ⊎_elim}
use Prim.Native.Nat.{ℕ, ◌+◌, ◌<◌, ◌≤◌}
use native.Mathlib.Omega.{arith}
use native.Mathlib.Nat.{eq-or-lt_of_le}
use lib.Dec.{T, ltb, ltb→lt, lt→ltb}
use lib.ListN.{length, get_or, set, take, drop, length-take}
use Rattle.rules.specs.Places.{painted}
use Rattle.laws.specs.Painted.{PaintedOver, Painted}
use Rattle.laws.proofs.Paint.{said, one, lent, is_painted}

-- the first i of the elements of a list, painted over old
abbrev pub BegunOver : {A : Type 0} → A → (ℕ → A) → List A → List A → ℕ → Type 0
BegunOver z v old new i = (i ≤ length old) × PaintedOver z (λ k. k < i) v old new

abbrev pub Begun : (ℕ → ℕ) → List ℕ → List ℕ → ℕ → Type 0
Begun v old new i = BegunOver 0 v old new i

module _ {A : Type 0} {z : A} (v : ℕ → A) where
  pub put : (old new : List A) (i : ℕ) (a : A) → i < length new → a ≡ v i → BegunOver z v old new i → BegunOver z v old (set new i a) (i + 1)
  put old new i a h e b = (
    omega (arith, b.1.same),
    one (λ k. k < i) (λ k. k < i + 1) v old new i a b.1 h (omega arith) e
        (λ k m. omega arith)
        (λ k m. ⊎_elim (λ e. inr e) (λ l. inl (l, λ e. omega arith)) (eq-or-lt_of_le {n = k} {m = i} (omega arith))),
  )

  pub go_on : (old new : List A) (i : ℕ) → i < length new → BegunOver z v old new i → BegunOver z v old (set new i (v i)) (i + 1)
  go_on old new i h b = put old new i (v i) h refl b

  pub ended : (old new : List A) (i : ℕ) → length new ≤ i → BegunOver z v old new i → PaintedOver z (λ k. k < length old) v old new
  ended old new i h a =
      said _ _ _ _ old new a.1 (λ k m. omega (arith, a.1.same)) (λ k m. omega (arith, a.0)) (λ k m. refl)

-- sixteen pixels, written through the first sixteen elements
pub sixteen : (t old part : List ℕ) → 16 ≤ length old
    → Painted (λ k. k < length (take 16 old)) (λ k. get_or t (0 + k) 0) (take 16 old) part
    → part ++ drop 16 old ≡ painted (λ k. ltb k 16) (λ k. get_or t k 0) old
sixteen t old part h p =
    let s : length (take 16 old) ≡ 16 = simp length-take (omega arith) in
    is_painted _ (λ k. ltb k 16) (λ k. get_or t k 0) old (part ++ drop 16 old) (λ k z. z) (λ k z. z)
    (said _ (λ k. T (ltb k 16)) _ _ old _ (lent _ _ 0 16 old part h p)
    (λ k z. let l = ltb→lt k 16 z in (omega arith, omega arith, omega arith))
    (λ k z. lt→ltb k 16 (omega (arith, z.1)))
    (λ k z. ap (λ (m : ℕ). get_or t m 0) (omega arith)))
