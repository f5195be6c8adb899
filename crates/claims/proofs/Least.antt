-- "it chooses codes and indices with the least summed absolute red, green and blue difference that those bases and that flip
-- allow; ties go to the lower code, then the lower index number": of all individual blocks with these bases and this flip.
-- Assumes nothing.
use mathlib.Core.Path.{◌≡◌, ◌∙◌, refl, ap}
use mathlib.Core.Bool.{false}
use mathlib.Core.List.{List}
use Prim.Native.Nat.{ℕ, zero, suc, ◌<◌, ◌≤◌}
use native.Mathlib.Omega.{arith}
use lib.ListN.{get_or}
use Rattle.rules.specs.Colour.{out_of_range_lem}
use Rattle.rules.specs.Counting.{least_of_lem, sum_of}
use Rattle.rules.specs.Checking.{cost}
use Rattle.rules.specs.Baking.{of_half_lem, seventeen, bases_of_lem, half_of, own, index_for, cost_for, code_for, index_with, baked_block}
use Rattle.bake.specs.baking.Four.{Four}
use Rattle.bake.proofs.baking.Least.{least}
use Rattle.bake.proofs.baking.Sums.{sum_same, sum-le, sum_tie, least_sum_lem, least_first}
use Rattle.bake.proofs.baking.Block.{Legal, Reads, reads_back, in_range_lem, small_half}
use Rattle.claims.proofs.Halves.{turn, own_below, own_half, own_turn, adds, half_sum, by_halves}

-- the chosen code of each half, and the chosen index of each pixel
abbrev pub codes_of : List ℕ → List ℕ → ℕ → List ℕ → ℕ → ℕ
codes_of first second flip t = of_half_lem (code_for (seventeen first) flip t 0) (code_for (seventeen second) flip t 1)

abbrev pub indices_of : List ℕ → List ℕ → ℕ → List ℕ → ℕ → ℕ
indices_of first second flip t = index_with (bases_of_lem first second) (codes_of first second flip t) flip t

module _ (first second : List ℕ) (flip : ℕ) (t : List ℕ) where
  abbrev base : ℕ → List ℕ
  base = bases_of_lem first second

  abbrev codes : ℕ → ℕ
  codes = codes_of first second flip t

  abbrev indices : ℕ → ℕ
  indices = indices_of first second flip t

  -- the least of each half
  code_at : (h : ℕ) → h < 2 → codes h ≡ least_of_lem (cost_for (base h) flip t h) 8
  unfolding code_for
  code_at zero m = refl
  code_at (suc zero) m = refl
  code_at (suc (suc h)) m = absurd (omega arith)

  -- codes of three bits and indices of two
  chosen_legal : Legal codes indices
  unfolding index_for
  chosen_legal =
      record {
        coded = λ h m. rw (code_at h m) (least (cost_for (base h) flip t h) 7).within;
        indexed = λ k m. (least _ 3).within;
      }

  module _ (a : Four first) (b : Four second) (f : flip < 2) where
    -- the bytes read back: an individual block of these bases and this flip, and the chosen codes and indices
    pub baked_reads : Reads first second flip codes indices (baked_block first second flip t)
    baked_reads = reads_back first second flip codes indices a b f chosen_legal

    pub baked_in_range : out_of_range_lem (baked_block first second flip t) ≡ false
    baked_in_range = in_range_lem baked_reads

    -- its sum is the sum of the least that each half allows
    leasts : ℕ → ℕ
    leasts h = cost_for (base h) flip t h (least_of_lem (cost_for (base h) flip t h) 8)

    sum_of_baked : cost (baked_block first second flip t) t ≡ sum_of leasts 2
    unfolding cost_for leasts
    sum_of_baked =
        by_halves t baked_reads
        ∙ sum_same (half_sum base flip t codes indices) leasts 2
        (λ h m.
        sum_same (λ j. adds base flip t h (codes h) j (indices (own flip h j))) (λ j. adds base flip t h (codes h) j (index_for (base h) (codes h) (get_or t (own flip h j) 0))) 8
        (λ j n.
        ap (λ (x : ℕ). adds base flip t h (codes h) j (index_for (base x) (codes x) (get_or t (own flip h j) 0))) (own_half flip h j m n))
        ∙ ap (cost_for (base h) flip t h) (code_at h m))

    -- any other choice, and a block that has it
    module _ (codes' indices' : ℕ → ℕ) (l : Legal codes' indices') (d : List ℕ) (r : Reads first second flip codes' indices' d) where
      -- the least that each half allows with its code
      inner : (h : ℕ) → h < 2 → cost_for (base h) flip t h (codes' h) ≤ half_sum base flip t codes' indices' h
      unfolding cost_for index_for
      inner h m = least_sum_lem (adds base flip t h (codes' h)) 3 8 (λ j. indices' (own flip h j)) (λ j n. l.indexed (own flip h j) (own_below flip h j m n))

      inner_sum : sum_of (λ h. cost_for (base h) flip t h (codes' h)) 2 ≤ cost d t
      inner_sum = omega (arith, by_halves t r, sum-le (λ h. cost_for (base h) flip t h (codes' h)) (half_sum base flip t codes' indices') 2 inner)

      outer : sum_of leasts 2 ≤ sum_of (λ h. cost_for (base h) flip t h (codes' h)) 2
      unfolding leasts
      outer = least_sum_lem (λ h c. cost_for (base h) flip t h c) 7 2 codes' l.coded

      pub least_of_all : cost (baked_block first second flip t) t ≤ cost d t
      least_of_all = omega (arith, sum_of_baked, outer, inner_sum)

      -- where the sums are equal
      module _ (tie : cost d t ≤ cost (baked_block first second flip t) t) where
        -- the code of each half is the lower one
        pub lower_code : (h : ℕ) → h < 2 → codes h ≤ codes' h
        unfolding leasts
        lower_code h m =
            rw (code_at h m)
            (least_first (λ h c. cost_for (base h) flip t h c) 7 2 codes' l.coded (omega (arith, sum_of_baked, tie, inner_sum)) h m)

        -- each half has no more than the least with its code
        half_tie : (h : ℕ) → h < 2 → half_sum base flip t codes' indices' h ≤ cost_for (base h) flip t h (codes' h)
        half_tie h m =
            sum_tie (λ h. cost_for (base h) flip t h (codes' h)) (half_sum base flip t codes' indices') 2 inner
            (omega (arith, sum_of_baked, by_halves t r, tie, outer))
            h m

        first_index : (h j : ℕ) → h < 2 → j < 8 → index_for (base h) (codes' h) (get_or t (own flip h j) 0) ≤ indices' (own flip h j)
        unfolding cost_for index_for
        first_index h j m n =
            least_first (adds base flip t h (codes' h)) 3 8 (λ j. indices' (own flip h j)) (λ j n. l.indexed (own flip h j) (own_below flip h j m n)) (half_tie h m) j n

        -- and where a half has the same code, the index of each pixel is the lower one
        pub lower_index : (k : ℕ) → k < 16 → codes' (half_of flip k) ≡ codes (half_of flip k) → indices k ≤ indices' k
        lower_index k m e =
            let h = half_of flip k in
            let o = own_turn flip k m in
            let p = first_index h (turn flip k) (small_half flip k m) o.0 in
            rw (o.1, e) at p
