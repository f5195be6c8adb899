-- The sum of a block's differences, half by half and pixel by pixel, by its codes and indices.
-- Assumes nothing.
use mathlib.Core.Path.{◌≡◌, ◌∙◌, ap}
use mathlib.Core.Bool.{Bool, true, false, cond}
use mathlib.Core.List.{List}
use Prim.Native.Nat.{ℕ, ◌+◌, ◌*◌, ◌/◌, ◌%◌, ◌<◌}
use native.Mathlib.Omega.{arith}
use lib.Dec.{eqb}
use lib.ListN.{get_or}
use Rattle.rules.specs.Counting.{sum_of}
use Rattle.rules.specs.Checking.{differ, pixel, cost}
use Rattle.rules.specs.Baking.{bases_of_lem, half_of, own, shown}
use Rattle.bake.proofs.baking.Sums.{sum_same}
use Rattle.bake.proofs.baking.Block.{Reads, shows}

-- the places of the two halves, one after the other, are the sixteen
split : (flip : Bool) (f : ℕ → ℕ) → sum_of f 16 ≡ sum_of (λ h. sum_of (λ j. f (cond flip (8 * h + j) (4 * (j / 2) + 2 * h + j % 2))) 8) 2
unfolding sum_of
split true f = omega arith
split false f = omega arith

within : (flip : Bool) (h j : ℕ) → h < 2 → j < 8 → cond flip (8 * h + j) (4 * (j / 2) + 2 * h + j % 2) < 16
within true h j p q = omega arith
within false h j p q = omega arith

back : (flip : Bool) (h j : ℕ) → h < 2 → j < 8 → let o = cond flip (8 * h + j) (4 * (j / 2) + 2 * h + j % 2) in cond flip (o / 4 / 2) (o % 4 / 2) ≡ h
back true h j p q = omega arith
back false h j p q = omega arith

-- the number of a place in its half
abbrev pub turn : ℕ → ℕ → ℕ
turn flip k = cond (eqb flip 1) (k % 8) (2 * (k / 4) + k % 2)

found : (flip : Bool) (k : ℕ) → k < 16
    → let h = cond flip (k / 4 / 2) (k % 4 / 2) in let j = cond flip (k % 8) (2 * (k / 4) + k % 2) in (j < 8) × (cond flip (8 * h + j) (4 * (j / 2) + 2 * h + j % 2) ≡ k)
found true k h = (omega arith, omega arith)
found false k h = (omega arith, omega arith)

module _ (flip : ℕ) where
  pub own_below : (h j : ℕ) → h < 2 → j < 8 → own flip h j < 16
  own_below h j p q = within (eqb flip 1) h j p q

  pub own_half : (h j : ℕ) → h < 2 → j < 8 → half_of flip (own flip h j) ≡ h
  own_half h j p q = back (eqb flip 1) h j p q

  pub own_turn : (k : ℕ) → k < 16 → (turn flip k < 8) × (own flip (half_of flip k) (turn flip k) ≡ k)
  own_turn k h = found (eqb flip 1) k h

-- what index i adds at pixel j of half h, with code c
abbrev pub adds : (ℕ → List ℕ) → ℕ → List ℕ → ℕ → ℕ → ℕ → ℕ → ℕ
adds base flip t h c j i = differ (shown (base h) c i) (get_or t (own flip h j) 0)

-- the sum of half h, of codes and indices
abbrev pub half_sum : (ℕ → List ℕ) → ℕ → List ℕ → (ℕ → ℕ) → (ℕ → ℕ) → ℕ → ℕ
half_sum base flip t codes indices h = sum_of (λ j. adds base flip t h (codes h) j (indices (own flip h j))) 8

pub by_halves : {first second : List ℕ} {flip : ℕ} {codes indices : ℕ → ℕ} {d : List ℕ} (t : List ℕ) → Reads first second flip codes indices d
    → cost d t ≡ sum_of (half_sum (bases_of_lem first second) flip t codes indices) 2
by_halves {first} {second} {flip} {codes} {indices} {d} t p =
    split (eqb flip 1) (λ k. differ (pixel d k) (get_or t k 0))
    ∙ sum_same (λ h. sum_of (λ j. differ (pixel d (own flip h j)) (get_or t (own flip h j) 0)) 8) (half_sum (bases_of_lem first second) flip t codes indices) 2
    (λ h m.
    sum_same (λ j. differ (pixel d (own flip h j)) (get_or t (own flip h j) 0)) (λ j. adds (bases_of_lem first second) flip t h (codes h) j (indices (own flip h j))) 8
    (λ j n.
    let o = own flip h j in
    ap (λ (v : ℕ). differ v (get_or t o 0)) (shows p o (own_below flip h j m n))
    ∙ ap (λ (x : ℕ). differ (shown (bases_of_lem first second x) (codes x) (indices o)) (get_or t o 0)) (own_half flip h j m n)))
