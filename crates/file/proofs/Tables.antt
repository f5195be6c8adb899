-- A table of formats, row by row.
-- Assumes nothing.
use mathlib.Core.Path.{◌≡◌, ◌∙◌, refl, ap}
use mathlib.Core.Bool.{Bool, false, cond}
use mathlib.Core.List.{List, [], ◌∷◌}
use Prim.Native.Nat.{ℕ, suc, ◌+◌, ◌≤◌, ◌<◌}
use native.Mathlib.Omega.{arith}
use borrow.Author.Tests.{eq-eqb, ne_eqb}
use lib.Dec.{eqb}
use lib.ListN.{length, get_or, drop, length-drop}
use lib.Seq.{drop-cons}
use Rattle.std.specs.Prelude.{Some, None}
use Rattle.rules.specs.FileFormats.{Row, known}
use Rattle.rules.specs.declared.Format.TheVariants.{Etc1}

module _ (l : List Row) (i x : ℕ) where
  abbrev row : Row
  row = get_or l i (0, Etc1, false)

  turn : i < length l → known (drop i l) x ≡ cond (eqb x row.0) (Some (row.1, row.2)) (known (drop (i + 1) l) x)
  unfolding known
  turn h =
      let one : suc i ≡ i + 1 = omega arith in
      ap (λ (z : List Row). known z x) (drop-cons l i (0, Etc1, false) h)
      ∙ ap (λ (z : ℕ). cond (eqb x row.0) (Some (row.1, row.2)) (known (drop z l) x)) one

  pub met : i < length l → row.0 ≡ x → known (drop i l) x ≡ Some (row.1, row.2)
  met h e =
      turn h ∙ ap (λ (b : Bool). cond b (Some (row.1, row.2)) (known (drop (i + 1) l) x)) (eq-eqb x row.0 (let z = e in cc))

  pub passed : i < length l → (row.0 ≡ x → ⊥) → known (drop i l) x ≡ known (drop (i + 1) l) x
  passed h e =
      turn h ∙ ap (λ (b : Bool). cond b (Some (row.1, row.2)) (known (drop (i + 1) l) x)) (ne_eqb x row.0 (λ z. e (let w = z in cc)))

-- no row is left
none : (l : List Row) (x : ℕ) → length l ≡ 0 → known l x ≡ None
unfolding known
none [] x h = refl
none (r ∷ l) x h = absurd (omega arith)

pub over : (l : List Row) (i x : ℕ) → length l ≤ i → known (drop i l) x ≡ None
over l i x h = none (drop i l) x (omega (arith, length-drop i l))
