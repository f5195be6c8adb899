-- A table as a flat list of numbers, three a row, row by row.
-- Assumes nothing.
use mathlib.Core.Path.{◌≡◌, ◌∙◌, refl, ap}
use mathlib.Core.Bool.{Bool, cond}
use mathlib.Core.List.{List, [], ◌∷◌}
use Prim.Native.Nat.{ℕ, suc, ◌+◌, ◌≤◌, ◌<◌}
use native.Mathlib.Omega.{arith}
use borrow.Author.Tests.{eq-eqb, ne_eqb}
use lib.Dec.{eqb}
use lib.ListN.{length, get_or, drop, length-drop}
use lib.Seq.{drop-cons}
use Rattle.std.specs.Prelude.{Option, Some, None}
use Rattle.rules.specs.FileFormats.{known_flat}

module _ (l : List ℕ) (i x : ℕ) where
  row_of : ℕ → ℕ → ℕ → Option (ℕ × ℕ)
  row_of f srgb rest = cond (eqb x (get_or l i 0)) (Some (get_or l f 0, get_or l srgb 0)) (known_flat (drop rest l) x)

  turn : i + 2 < length l → known_flat (drop i l) x ≡ row_of (i + 1) (i + 2) (i + 3)
  unfolding known_flat row_of
  turn h =
      let a : drop i l ≡ get_or l i 0 ∷ drop (suc i) l = drop-cons l i 0 (omega arith) in
      let b : drop (suc i) l ≡ get_or l (suc i) 0 ∷ drop (suc (suc i)) l = drop-cons l (suc i) 0 (omega arith) in
      let c : drop (suc (suc i)) l ≡ get_or l (suc (suc i)) 0 ∷ drop (suc (suc (suc i))) l = drop-cons l (suc (suc i)) 0 (omega arith) in
      let p : suc i ≡ i + 1 = omega arith in
      let q : suc (suc i) ≡ i + 2 = omega arith in
      let r : suc (suc (suc i)) ≡ i + 3 = omega arith in
      ap (λ (z : List ℕ). known_flat z x) (a ∙ ap (λ (z : List ℕ). get_or l i 0 ∷ z) (b ∙ ap (λ (z : List ℕ). get_or l (suc i) 0 ∷ z) c))
      ∙ ap (λ (z : ℕ). row_of z (suc (suc i)) (suc (suc (suc i)))) p
      ∙ ap (λ (z : ℕ). row_of (i + 1) z (suc (suc (suc i)))) q
      ∙ ap (λ (z : ℕ). row_of (i + 1) (i + 2) z) r

  pub met : i + 2 < length l → get_or l i 0 ≡ x → known_flat (drop i l) x ≡ Some (get_or l (i + 1) 0, get_or l (i + 2) 0)
  unfolding row_of
  met h e =
      turn h
      ∙ ap (λ (b : Bool). cond b (Some (get_or l (i + 1) 0, get_or l (i + 2) 0)) (known_flat (drop (i + 3) l) x)) (eq-eqb x (get_or l i 0) (let z = e in cc))

  pub passed : i + 2 < length l → (get_or l i 0 ≡ x → ⊥) → known_flat (drop i l) x ≡ known_flat (drop (i + 3) l) x
  unfolding row_of
  passed h e =
      turn h
      ∙ ap (λ (b : Bool). cond b (Some (get_or l (i + 1) 0, get_or l (i + 2) 0)) (known_flat (drop (i + 3) l) x)) (ne_eqb x (get_or l i 0) (λ z. e (let w = z in cc)))

-- fewer than three numbers are no row
short : (l : List ℕ) (x : ℕ) → length l ≤ 2 → known_flat l x ≡ None
unfolding known_flat
short [] x h = refl
short (a ∷ []) x h = refl
short (a ∷ b ∷ []) x h = refl
short (a ∷ b ∷ c ∷ l) x h = absurd (omega arith)

pub over : (l : List ℕ) (i x : ℕ) → length l ≤ i + 2 → known_flat (drop i l) x ≡ None
over l i x h = short (drop i l) x (omega (arith, length-drop i l))
