-- A loop that fills an array, one store a turn, in order or through a permutation: what it ends with is `build n f`.
-- Assumes nothing.
use mathlib.Core.Path.{◌≡◌, ◌∙◌, refl, sym, ap}
use mathlib.Core.List.{List}
use Prim.Native.Nat.{ℕ, zero, suc, ◌+◌, ◌<◌}
use native.Mathlib.Nat.{add-zero, zero-add, add-suc, suc-add, le_of_suc-le-suc, eq-or-lt_of_le}
use native.Mathlib.Decide.{ℕ_discrete}
use mathlib.Core.Logic.{⊎_elim}
use native.Mathlib.Omega.{arith}
use lib.ListN.{length, get_or, set}
use lib.Seq.{get_or-set_same, get_or-set_other, ext_get_or}
use Rattle.rules.specs.Notation.{from, build}

module _ {A : Type 0} (f : ℕ → A) (d : A) where
  length_from : (i n : ℕ) → length (from f i n) ≡ n
  length_from i zero = refl
  length_from i (suc n) = ap suc (length_from (suc i) n)

  get_or_from : (i n k : ℕ) → k < n → get_or (from f i n) k d ≡ f (i + k)
  get_or_from i zero k h = absurd (omega arith)
  get_or_from i (suc n) zero h = ap f (sym (add-zero i))
  get_or_from i (suc n) (suc k) h = get_or_from (suc i) n k (le_of_suc-le-suc h) ∙ ap f (suc-add i k ∙ sym (add-suc i k))

  pub length_build : (n : ℕ) → length (build n f) ≡ n
  length_build n = length_from 0 n

  pub get_or_build : (n k : ℕ) → k < n → get_or (build n f) k d ≡ f k
  get_or_build n k h = get_or_from 0 n k h ∙ ap f (zero-add k)

  -- a list that agrees at each place
  pub is_build : (n : ℕ) (l : List A) → length l ≡ n → ((k : ℕ) → k < n → get_or l k d ≡ f k) → l ≡ build n f
  is_build n l e p =
      ext_get_or d l (build n f) (e ∙ sym (length_build n)) (λ k h. let h' : k < n = omega arith in p k h' ∙ sym (get_or_build n k h'))

  -- one more store, at the place o whose number p is i: what holds of each place whose number is passed
  pub fills_by : (p : ℕ → ℕ) (n : ℕ) (l : List A) (i o : ℕ) (v : A) → o < length l → ((k : ℕ) → k < n → p k ≡ i → k ≡ o)
      → ((k : ℕ) → k < n → p k < i → get_or l k d ≡ f k) → v ≡ f o → (k : ℕ) → k < n → p k < i + 1 → get_or (set l o v) k d ≡ f k
  fills_by p n l i o v h u q e k b m =
      elim (ℕ_discrete k o) [
        | yes s ↦ ap (λ (j : ℕ). get_or (set l o v) j d) s ∙ get_or-set_same l o v d h ∙ e ∙ ap f (sym s)
        | no s ↦ get_or-set_other l o k v d s ∙ q k b (⊎_elim (λ t. absurd (s (u k b t))) (λ t. t) (eq-or-lt_of_le {n = p k} {m = i} (omega arith)))
      ]

  -- the same in order
  pub fills : (l : List A) (i : ℕ) (v : A) → i < length l → ((k : ℕ) → k < i → get_or l k d ≡ f k) → v ≡ f i
      → (k : ℕ) → k < i + 1 → get_or (set l i v) k d ≡ f k
  fills l i v h p e k m = fills_by (λ j. j) (i + 1) l i i v h (λ j b t. t) (λ j b t. p j t) e k m m

-- two rules that agree make the same list
pub build_same : {A : Type 0} (z : A) (g f : ℕ → A) (n : ℕ) → ((k : ℕ) → k < n → g k ≡ f k) → build n g ≡ build n f
build_same z g f n e = is_build f z n (build n g) (length_build g z n) (λ k h. get_or_build g z n k h ∙ e k h)
