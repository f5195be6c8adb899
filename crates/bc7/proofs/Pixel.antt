-- A pixel out of all the stages is the definition's.
-- Assumes nothing.
use mathlib.Core.Path.{◌≡◌, ◌∙◌, refl, ap}
use mathlib.Core.Bool.{Bool, true, false, cond}
use mathlib.Core.List.{List}
use Prim.Native.Nat.{ℕ, zero, suc, ◌+◌, ◌-◌, ◌*◌, ◌/◌, ◌%◌, ◌^◌, ◌<◌, ◌≤◌}
use native.Mathlib.Nat.{mod-lt, lt_of_lt_of_le}
use native.Mathlib.Omega.{arith}
use lib.Dec.{eqb, lit≤}
use lib.ListN.{get_or}
use lib.Pow.{shr-shr, pow_pos, pow_mono}
use Rattle.rules.specs.Bits.{field}
use Rattle.rules.specs.Bptc.{weights_of, subset}
use Rattle.rules.specs.Notation.{build}
use Rattle.rules.specs.Bc7.{index_bits, bits_before, partition_of, index_place, second_place, weight_at, first_weight, second_weight}
use Rattle.rules.specs.Bc7.{selected, subset_of, colour_end, alpha_end, blend, rotated, alpha_at, colour_at, pixel_in}
use Rattle.rules.specs.declared.Mode.{Mode}
use Rattle.laws.proofs.Filled.{get_or_build, build_same}
use Rattle.laws.proofs.Tables.{subset_exists}
use Rattle.bc7.specs.rest.Whole.{passed_by, width_by}
use Rattle.bc7.specs.bptc.Layout.{layout_of}
use Rattle.bc7.proofs.bptc.Layouts.{subset_said}
use Rattle.bc7.specs.declared.endpoints.Front.{Front}
use Rattle.bc7.specs.declared.endpoints.Ends.{Ends}
use Rattle.bc7.specs.row.Bounds.{Sane}
use Rattle.bc7.specs.endpoints.Stages.{Fronted, Ended}
use Rattle.bc7.specs.Shaded.{between, shaded}
use Rattle.bc7.proofs.Steps.{same_rotated, each}
use Rattle.laws.proofs.Shades.{weight_most}
use Rattle.bc7.proofs.Weigh.{index_said}

-- the laws of a layout at any number of subsets from 1 to 3
index_of : (n p d place v b i : ℕ) → 1 ≤ n → n ≤ 3 → p < 64 → b ≤ 4 → i < 16 → v ≡ d / 2 ^ place % 2 ^ 64
    → v / 2 ^ passed_by b (layout_of n p / 4294967296) i % 2 ^ width_by b (layout_of n p / 4294967296) i ≡ field d (place + bits_before b n p i) (index_bits b n p i)
index_of zero p d place v b i s t l k j e = absurd (omega arith)
index_of (suc n) p d place v b i s t l k j e = index_said n p (omega arith) l d place v b i k j e

subset_of_lem : (n p i : ℕ) → 1 ≤ n → n ≤ 3 → p < 64 → i < 16 → layout_of n p / 2 ^ (2 * i) % 4 ≡ subset n p i
subset_of_lem zero p i s t l j = absurd (omega arith)
subset_of_lem (suc n) p i s t l j = subset_said n p i (omega arith) l j

exists_of : (n p i : ℕ) → 1 ≤ n → n ≤ 3 → p < 64 → i < 16 → subset n p i < n
exists_of zero p i s t l j = absurd (omega arith)
exists_of (suc n) p i s t l j = subset_exists n p i (omega arith) l j

-- one of two lists, at a place
pick_at : (t : Bool) (a b : List ℕ) (i : ℕ) → get_or (cond t a b) i 0 ≡ cond t (get_or a i 0) (get_or b i 0)
pick_at true a b i = refl
pick_at false a b i = refl

-- sixteen weights, from an index word v and a mask
abbrev pub weights_by : ℕ → ℕ → ℕ → List ℕ
weights_by v b mask = build 16 (λ i. get_or (weights_of b) (v / 2 ^ passed_by b mask i % 2 ^ width_by b mask i) 0)

pub weights_most : (v b mask i : ℕ) → get_or (weights_by v b mask) i 0 ≤ 64
weights_most v b mask i = each (λ x. x ≤ 64) (λ i. get_or (weights_of b) (v / 2 ^ passed_by b mask i % 2 ^ width_by b mask i) 0) 16 (λ k h. weight_most b _) (lit≤ tt) i

pub one_most : (t : Bool) (a b : List ℕ) → ((i : ℕ) → get_or a i 0 ≤ 64) → ((i : ℕ) → get_or b i 0 ≤ 64) → (i : ℕ) → get_or (cond t a b) i 0 ≤ 64
one_most true a b p q i = p i
one_most false a b p q i = q i

module _ (d m : ℕ) (k : Mode) (s : Sane k) where
  pub partition_below : partition_of d m k < 64
  partition_below = lt_of_lt_of_le (mod-lt (d / 2 ^ (m + 1)) (pow_pos k.partition)) (pow_mono {j = 6} s.partition)

  abbrev mask_of : ℕ
  mask_of = layout_of k.subsets (partition_of d m k) / 4294967296

  weight_said : (place v b i : ℕ) → b ≤ 4 → i < 16 → v ≡ d / 2 ^ place % 2 ^ 64 → get_or (weights_by v b mask_of) i 0 ≡ weight_at d m k place b i
  weight_said place v b i l j e =
      get_or_build (λ i. get_or (weights_of b) (v / 2 ^ passed_by b mask_of i % 2 ^ width_by b mask_of i) 0) 0 16 i j
      ∙ ap (λ (x : ℕ). get_or (weights_of b) x 0) (index_of k.subsets (partition_of d m k) d place v b i s.some s.subsets partition_below l j e)

  -- the two lists of weights
  module _ (w v : ℕ) (e : w ≡ d / 2 ^ index_place m k) (f : v ≡ w % 2 ^ 64) where
    abbrev pub firsts : List ℕ
    firsts = weights_by v k.index mask_of

    abbrev pub seconds : List ℕ
    seconds = cond (eqb k.second 0) firsts (weights_by (w / 2 ^ (16 * k.index - k.subsets) % 2 ^ 64) k.second mask_of)

    first_said : (i : ℕ) → i < 16 → get_or firsts i 0 ≡ first_weight d m k i
    first_said i j = weight_said (index_place m k) v k.index i s.index_most j (f ∙ ap (λ (x : ℕ). x % 2 ^ 64) e)

    second_said : (i : ℕ) → i < 16 → get_or seconds i 0 ≡ second_weight d m k i
    second_said i j =
        pick_at (eqb k.second 0) firsts (weights_by (w / 2 ^ (16 * k.index - k.subsets) % 2 ^ 64) k.second mask_of) i
        ∙ ap (λ (x : ℕ). cond (eqb k.second 0) x (get_or (weights_by (w / 2 ^ (16 * k.index - k.subsets) % 2 ^ 64) k.second mask_of) i 0)) (first_said i j)
        ∙ ap (λ (x : ℕ). cond (eqb k.second 0) (first_weight d m k i) x)
        (weight_said (second_place m k) (w / 2 ^ (16 * k.index - k.subsets) % 2 ^ 64) k.second i s.second j
        (ap (λ (x : ℕ). x % 2 ^ 64) (ap (λ (x : ℕ). x / 2 ^ (16 * k.index - k.subsets)) e ∙ shr-shr d (index_place m k) (16 * k.index - k.subsets))))

    -- the chosen ones, for colour and for alpha
    chosen_said : (t : ℕ) → t ≡ selected d m k → (a b : List ℕ) (x y : ℕ) (i : ℕ) → get_or a i 0 ≡ x → get_or b i 0 ≡ y → get_or (cond (eqb t 0) a b) i 0 ≡ cond (eqb (selected d m k) 0) x y
    chosen_said t q a b x y i g h =
        pick_at (eqb t 0) a b i
        ∙ ap (λ (z : ℕ). cond (eqb t 0) z (get_or b i 0)) g
        ∙ ap (λ (z : ℕ). cond (eqb t 0) x z) h
        ∙ ap (λ (z : ℕ). cond (eqb z 0) x y) q

    module _ (h : Front) (hd : Fronted d m k h) (r : Ends) (en : Ended d m k r) where
      -- a channel, once its endpoints are known
      channel_said : (l : List ℕ) (g : ℕ → ℕ) (u w' x i : ℕ) → ((e : ℕ) → e < 2 * k.subsets → get_or l e 0 ≡ g e) → u ≡ subset_of d m k i → i < 16 → w' ≡ x
          → between l u w' ≡ blend (g (2 * subset_of d m k i)) (g (2 * subset_of d m k i + 1)) x
      channel_said l g u w' x i p q j z =
          let b : subset_of d m k i < k.subsets = exists_of k.subsets (partition_of d m k) i s.some s.subsets partition_below j in
          ap (λ (y : ℕ). between l y w') q
          ∙ ap (λ (y : ℕ). blend y (get_or l (2 * subset_of d m k i + 1) 0) w') (p (2 * subset_of d m k i) (omega arith))
          ∙ ap (λ (y : ℕ). blend (g (2 * subset_of d m k i)) y w') (p (2 * subset_of d m k i + 1) (omega arith))
          ∙ ap (λ (y : ℕ). blend (g (2 * subset_of d m k i)) (g (2 * subset_of d m k i + 1)) y) z

      pub pixel_said : (i : ℕ) → i < 16 → shaded h.rotation r (layout_of k.subsets (partition_of d m k) / 2 ^ (2 * i) % 4) (get_or (cond (eqb h.selection 0) firsts seconds) i 0)
          (get_or (cond (eqb h.selection 0) seconds firsts) i 0) ≡ pixel_in d m k i
      unfolding pixel_in
      pixel_said i j =
          let u : layout_of k.subsets (partition_of d m k) / 2 ^ (2 * i) % 4 ≡ subset_of d m k i = subset_of_lem k.subsets (partition_of d m k) i s.some s.subsets partition_below j in
          let cw = chosen_said h.selection hd.selection firsts seconds (first_weight d m k i) (second_weight d m k i) i (first_said i j) (second_said i j) in
          let aw = chosen_said h.selection hd.selection seconds firsts (second_weight d m k i) (first_weight d m k i) i (second_said i j) (first_said i j) in
          same_rotated h.rotation
          (channel_said r.alpha (alpha_end d m k) _ _ _ i en.alpha u j aw)
          (channel_said r.red (colour_end d m k 0) _ _ _ i en.red u j cw)
          (channel_said r.green (colour_end d m k 1) _ _ _ i en.green u j cw)
          (channel_said r.blue (colour_end d m k 2) _ _ _ i en.blue u j cw)
          ∙ ap (λ (t : ℕ). rotated t (alpha_at d m k i) (colour_at d m k 0 i) (colour_at d m k 1 i) (colour_at d m k 2 i)) hd.rotation

      -- sixteen of them, out of the code's own lists
      pub pixels_said : (layout : ℕ) (first second colour alpha : List ℕ)
          → layout ≡ layout_of k.subsets (partition_of d m k)
          → first ≡ weights_by v k.index (layout / 4294967296)
          → second ≡ cond (eqb k.second 0) first (weights_by (w / 2 ^ (16 * k.index - k.subsets) % 2 ^ 64) k.second (layout / 4294967296))
          → colour ≡ cond (eqb h.selection 0) first second
          → alpha ≡ cond (eqb h.selection 0) second first
          → build 16 (λ i. shaded h.rotation r (layout / 2 ^ (2 * i) % 4) (get_or colour i 0) (get_or alpha i 0)) ≡ build 16 (pixel_in d m k)
      pixels_said layout first second colour alpha l p q x y =
          let p' : first ≡ firsts = p ∙ ap (λ (z : ℕ). weights_by v k.index (z / 4294967296)) l in
          let q' : second ≡ seconds =
          q
          ∙ ap (λ (z : List ℕ). cond (eqb k.second 0) z (weights_by (w / 2 ^ (16 * k.index - k.subsets) % 2 ^ 64) k.second (layout / 4294967296))) p'
          ∙ ap (λ (z : ℕ). cond (eqb k.second 0) firsts (weights_by (w / 2 ^ (16 * k.index - k.subsets) % 2 ^ 64) k.second (z / 4294967296))) l in
          let x' : colour ≡ cond (eqb h.selection 0) firsts seconds = x ∙ ap (λ (z : List ℕ). cond (eqb h.selection 0) z second) p'
          ∙ ap (λ (z : List ℕ). cond (eqb h.selection 0) firsts z) q' in
          let y' : alpha ≡ cond (eqb h.selection 0) seconds firsts = y ∙ ap (λ (z : List ℕ). cond (eqb h.selection 0) z first) q'
          ∙ ap (λ (z : List ℕ). cond (eqb h.selection 0) seconds z) p' in
          build_same 0 (λ i. shaded h.rotation r (layout / 2 ^ (2 * i) % 4) (get_or colour i 0) (get_or alpha i 0)) (pixel_in d m k) 16
          (λ i j.
          ap (λ (z : ℕ). shaded h.rotation r (z / 2 ^ (2 * i) % 4) (get_or colour i 0) (get_or alpha i 0)) l
          ∙ ap (λ (z : List ℕ). shaded h.rotation r (layout_of k.subsets (partition_of d m k) / 2 ^ (2 * i) % 4) (get_or z i 0) (get_or alpha i 0)) x'
          ∙ ap (λ (z : List ℕ). shaded h.rotation r (layout_of k.subsets (partition_of d m k) / 2 ^ (2 * i) % 4) (get_or (cond (eqb h.selection 0) firsts seconds) i 0) (get_or z i 0)) y'
          ∙ pixel_said i j)
