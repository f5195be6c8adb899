-- What the code puts together is the block that the rules say.
-- Assumes nothing.
use mathlib.Core.Path.{◌≡◌, ◌∙◌, ap}
use mathlib.Core.List.{List, [], ◌∷◌}
use Prim.Native.Nat.{ℕ, zero, suc, ◌+◌, ◌*◌, ◌/◌, ◌%◌}
use lib.ListN.{get_or}
use Rattle.rules.specs.Colour.{steps_of, half_colours}
use Rattle.rules.specs.Baking.{of_half_lem, seventeen, bases_of_lem, half_of, shown, index_for, code_for, high_of, low_of, block_with, index_with, baked_block}
use Rattle.bake.proofs.baking.Bits.{bits_same}
use Rattle.bake.specs.nearest.Search.{nearest_of}
use Rattle.bake.specs.indices.Index.{index_by}

eight : {a b c d e f g h a' b' c' d' e' f' g' h' : ℕ} → a ≡ a' → b ≡ b' → c ≡ c' → d ≡ d' → e ≡ e' → f ≡ f' → g ≡ g' → h ≡ h'
    → ◌≡◌ {A = List ℕ} (a ∷ b ∷ c ∷ d ∷ e ∷ f ∷ g ∷ h ∷ []) (a' ∷ b' ∷ c' ∷ d' ∷ e' ∷ f' ∷ g' ∷ h' ∷ [])
eight p q r s t u v w = cc

-- a colour's index, by what the colours are
same_index : (p base : List ℕ) (v c : ℕ) → p ≡ half_colours base (steps_of c) → nearest_of p v ≡ index_for base c v
unfolding nearest_of index_for shown
same_index p base v c e = ap (λ (l : List ℕ). nearest_of l v) e

module _ (first second : List ℕ) (flip : ℕ) (t : List ℕ) where
  -- the code that is chosen for each half, and the colours with it
  abbrev codes : ℕ → ℕ
  codes = of_half_lem (code_for (seventeen first) flip t 0) (code_for (seventeen second) flip t 1)

  abbrev chosen : ℕ → List ℕ
  chosen h = half_colours (bases_of_lem first second h) (steps_of (codes h))

  module _ (p q : List ℕ) (e : p ≡ chosen 0) (g : q ≡ chosen 1) where
    by_half : (h v : ℕ) → nearest_of (of_half_lem p q h) v ≡ index_for (bases_of_lem first second h) (codes h) v
    by_half zero v = same_index p (bases_of_lem first second 0) v (codes 0) e
    by_half (suc h) v = same_index q (bases_of_lem first second 1) v (codes 1) g

    at : (k : ℕ) → index_by p q flip t k ≡ index_with (bases_of_lem first second) codes flip t k
    at k = by_half (half_of flip k) (get_or t k 0)

    same_high : high_of (index_by p q flip t) ≡ high_of (index_with (bases_of_lem first second) codes flip t)
    same_high = bits_same _ _ 0 16 (λ i h. ap (λ (n : ℕ). n / 2) (at (4 * (i % 4) + i / 4)))

    same_low : low_of (index_by p q flip t) ≡ low_of (index_with (bases_of_lem first second) codes flip t)
    same_low = bits_same _ _ 0 16 (λ i h. ap (λ (n : ℕ). n % 2) (at (4 * (i % 4) + i / 4)))

  pub assembled : (a b p q : List ℕ) (c d w l x y z v : ℕ) → a ≡ seventeen first → b ≡ seventeen second
      → c ≡ code_for a flip t 0 → d ≡ code_for b flip t 1 → p ≡ half_colours a (steps_of c) → q ≡ half_colours b (steps_of d)
      → w ≡ high_of (index_by p q flip t) → l ≡ low_of (index_by p q flip t)
      → x ≡ 16 * get_or first 0 0 + get_or second 0 0 → y ≡ 16 * get_or first 1 0 + get_or second 1 0 → z ≡ 16 * get_or first 2 0 + get_or second 2 0 → v ≡ 32 * c + 4 * d + flip
      → x ∷ y ∷ z ∷ v ∷ w / 256 ∷ w % 256 ∷ l / 256 ∷ l % 256 ∷ [] ≡ baked_block first second flip t
  unfolding block_with
  assembled a b p q c d w l x y z v ea eb ec ed ep eq ew el ex ey ez ev =
      let f = ec ∙ ap (λ (n : List ℕ). code_for n flip t 0) ea in
      let s = ed ∙ ap (λ (n : List ℕ). code_for n flip t 1) eb in
      let m = ep ∙ ap (λ (n : List ℕ). half_colours n (steps_of c)) ea ∙ ap (λ (n : ℕ). half_colours (seventeen first) (steps_of n)) f in
      let n = eq ∙ ap (λ (n : List ℕ). half_colours n (steps_of d)) eb ∙ ap (λ (n : ℕ). half_colours (seventeen second) (steps_of n)) s in
      let high = ew ∙ same_high p q m n in
      let low = el ∙ same_low p q m n in
      let k = ev ∙ ap (λ (n : ℕ). 32 * n + 4 * d + flip) f ∙ ap (λ (n : ℕ). 32 * codes 0 + 4 * n + flip) s in
      eight ex ey ez k (ap (λ (n : ℕ). n / 256) high) (ap (λ (n : ℕ). n % 256) high) (ap (λ (n : ℕ). n / 256) low) (ap (λ (n : ℕ). n % 256) low)
