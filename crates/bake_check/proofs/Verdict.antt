-- The checker's verdict, by the checks that led to it.
-- Assumes nothing.
use mathlib.Core.Path.{◌≡◌, ◌∙◌, ap}
use mathlib.Core.Bool.{Bool, true, false, cond}
use mathlib.Core.List.{List, [], ◌∷◌}
use Prim.Native.Nat.{ℕ, ◌/◌, ◌%◌, ◌<◌, ◌≤◌}
use borrow.Author.Tests.{lt-ltb, le-ltb}
use lib.ListN.{length, get_or}
use Rattle.rules.specs.Places.{tile}
use Rattle.rules.specs.Colour.{out_of_range_lem}
use Rattle.rules.specs.Modes.{etc1_pixel}
use Rattle.rules.specs.Counting.{each}
use Rattle.rules.specs.Checking.{near, pixel, like, check_verdict}
use Rattle.laws.proofs.Filled.{get_or_build}
use Rattle.bake.proofs.baking.Each.{each_same}

-- the test of sixteen pixels that are a block's is the test of the block
pub of_block : (t : ℕ) (d pixels l : List ℕ) → pixels ≡ tile etc1_pixel d → each (λ k. near t (get_or pixels k 0) (get_or l k 0)) 16 ≡ like t d l
of_block t d pixels l e =
    each_same (λ k. near t (get_or pixels k 0) (get_or l k 0)) (λ k. near t (pixel d k) (get_or l k 0)) 16
    (λ k h. ap (λ (v : ℕ). near t v (get_or l k 0)) (ap (λ (p : List ℕ). get_or p k 0) e ∙ get_or_build (λ k. etc1_pixel d (k % 4) (k / 4)) 0 16 k h))

module _ (t : ℕ) (d l : List ℕ) where
  pub short_block : length d < 8 → 2 ∷ [] ≡ check_verdict t d l
  unfolding check_verdict
  short_block h = rw (lt-ltb (length d) 8 h)

  pub short_tile : 8 ≤ length d → length l < 16 → 3 ∷ [] ≡ check_verdict t d l
  unfolding check_verdict
  short_tile h i = rw (le-ltb (length d) 8 h, lt-ltb (length l) 16 i)

  module _ (h : 8 ≤ length d) (i : 16 ≤ length l) where
    pub out_of_range : out_of_range_lem d ≡ true → 18 ∷ [] ≡ check_verdict t d l
    unfolding check_verdict
    out_of_range e = rw (le-ltb (length d) 8 h, le-ltb (length l) 16 i, e)

    pub in_range_lem : out_of_range_lem d ≡ false → (b : Bool) → like t d l ≡ b → cond b (0 ∷ []) (18 ∷ []) ≡ check_verdict t d l
    unfolding check_verdict
    in_range_lem e b f = rw (le-ltb (length d) 8 h, le-ltb (length l) 16 i, e, f)
