-- What BC7 makes of its fields stays a byte: an endpoint with its p-bit, widened; a weight; what lies between two endpoints.
-- Assumes nothing.
use mathlib.Core.Path.{◌≡◌, ◌∙◌, sym, ap, subst}
use mathlib.Core.Bool.{Bool, true, false, cond}
use mathlib.Core.List.{List, [], ◌∷◌}
use Prim.Native.Nat.{ℕ, zero, suc, ◌+◌, ◌-◌, ◌*◌, ◌/◌, ◌%◌, ◌^◌, ◌<◌, ◌≤◌}
use native.Mathlib.Nat.{mul-le-mul_right, lt_of_lt_of_le, mod-lt}
use native.Mathlib.Omega.{arith}
use lib.Arith.{digits_lt}
use lib.Dec.{T, eqb, leb, leb→le, lit≤, lit<}
use lib.ListN.{get_or}
use lib.Pow.{pow_pos, pow-add, pow_mono, shl_lt, shl_exact, shr_lt}
use Rattle.rules.specs.Bits.{field}
use Rattle.rules.specs.Pixel.{word}
use Rattle.rules.specs.Bptc.{weight_rows, weights_of}
use Rattle.rules.specs.Bc7.{mode_table, mode_at, rotation_place, p_bits, blend, rotated, colour_end, alpha_end}
use Rattle.rules.specs.Bc7.{colour_at, alpha_at, first_weight, second_weight, colour_weight, alpha_weight, selected, pixel_in}
use Rattle.rules.specs.declared.Mode.{Mode}
use Rattle.laws.proofs.Every.{both, both_left, both_right, below}

pub blend_most : (a b w : ℕ) → a < 256 → b < 256 → w ≤ 64 → a * (64 - w) + b * w ≤ 16320
blend_most a b w h i j =
    let e : a ≤ 255 = omega arith in
    let f : b ≤ 255 = omega arith in
    omega (arith, mul-le-mul_right (64 - w) e, mul-le-mul_right w f)

module _ (w v : ℕ) (h : w ≤ 8) (l : v < 2 ^ w) where
  eights : w + (8 - w) ≡ 8
  eights = omega arith

  scaled : v * 2 ^ (8 - w) < 2 ^ 8
  scaled = subst (λ (m : ℕ). v * 2 ^ (8 - w) < 2 ^ m) eights (shl_lt w (8 - w) l)

  pub shifted : v * 2 ^ (8 - w) % 2 ^ 32 ≡ v * 2 ^ (8 - w)
  shifted = shl_exact w (8 - w) 32 l (omega (arith, eights))

  pub expand_byte : v * 2 ^ (8 - w) + v * 2 ^ (8 - w) / 2 ^ w < 2 ^ 8
  expand_byte =
      let e : 8 ≡ (8 - w) + w = omega arith in
      subst (λ (m : ℕ). v * 2 ^ (8 - w) + v * 2 ^ (8 - w) / 2 ^ w < m) (sym (pow-add 2 w (8 - w)) ∙ ap (λ (m : ℕ). 2 ^ m) eights)
      (digits_lt l (shr_lt (8 - w) w (subst (λ (m : ℕ). v * 2 ^ (8 - w) < 2 ^ m) e scaled)))

-- v with p under it
module _ (v p w b : ℕ) (h : w + b ≤ 8) (l : v < 2 ^ w) (m : p < 2 ^ b) where
  pub put_up : v * 2 ^ b % 2 ^ 8 ≡ v * 2 ^ b
  put_up = shl_exact w b 8 l h

  pub with_p : v * 2 ^ b + p < 2 ^ (w + b)
  with_p = subst (λ (x : ℕ). v * 2 ^ b + p < x) (sym (pow-add 2 w b)) (digits_lt l m)

  pub with_p_byte : v * 2 ^ b + p < 2 ^ 8
  with_p_byte = lt_of_lt_of_le with_p (pow_mono h)

-- a weight is 64 at most
most : List ℕ → Bool
most [] = true
most (x ∷ l) = both (leb x 64) (most l)

of_list : (l : List ℕ) → T (most l) → (i : ℕ) → get_or l i 0 ≤ 64
unfolding most
of_list [] t i = lit≤ tt
of_list (x ∷ l) t zero = leb→le _ _ (both_left (leb x 64) (most l) t)
of_list (x ∷ l) t (suc i) = of_list l (both_right (leb x 64) (most l) t) i

rows_most : List (List ℕ) → Bool
rows_most [] = true
rows_most (l ∷ ls) = both (most l) (rows_most ls)

of_rows : (ls : List (List ℕ)) → T (rows_most ls) → (n i : ℕ) → get_or (get_or ls n []) i 0 ≤ 64
unfolding rows_most
of_rows [] t n i = lit≤ tt
of_rows (l ∷ ls) t zero i = of_list l (both_left (most l) (rows_most ls) t) i
of_rows (l ∷ ls) t (suc n) i = of_rows ls (both_right (most l) (rows_most ls) t) n i

pub weight_most : (b i : ℕ) → get_or (weights_of b) i 0 ≤ 64
unfolding most rows_most
weight_most b i = of_rows weight_rows tt (b - 2) i

-- the rows of the table leave room for the p-bit
fits_test : ℕ → Bool
fits_test m = both (leb ((mode_at m).colour + p_bits m (mode_at m)) 8) (leb ((mode_at m).alpha + p_bits m (mode_at m)) 8)

colour_fits : (m : ℕ) → m < 8 → (mode_at m).colour + p_bits m (mode_at m) ≤ 8
unfolding mode_table fits_test
colour_fits m h =
    leb→le _ _ (both_left (leb ((mode_at m).colour + p_bits m (mode_at m)) 8) (leb ((mode_at m).alpha + p_bits m (mode_at m)) 8) (below fits_test 8 tt m h))

alpha_fits : (m : ℕ) → m < 8 → (mode_at m).alpha + p_bits m (mode_at m) ≤ 8
unfolding mode_table fits_test
alpha_fits m h =
    leb→le _ _ (both_right (leb ((mode_at m).colour + p_bits m (mode_at m)) 8) (leb ((mode_at m).alpha + p_bits m (mode_at m)) 8) (below fits_test 8 tt m h))

-- what lies between two bytes
between : (a b w : ℕ) → a < 256 → b < 256 → w ≤ 64 → blend a b w ≤ 255
between a b w h i j = omega (arith, blend_most a b w h i j)

one_of : (t : Bool) (a b n : ℕ) → a ≤ n → b ≤ n → cond t a b ≤ n
one_of true a b n p q = p
one_of false a b n p q = q

below_of : (t : Bool) (a b n : ℕ) → a < n → b < n → cond t a b < n
below_of true a b n p q = p
below_of false a b n p q = q

turned : (t a r g b : ℕ) → a ≤ 255 → r ≤ 255 → g ≤ 255 → b ≤ 255 → rotated t a r g b < 2 ^ 32
turned t a r g b h i j k =
    below_of (eqb t 1) (word r a g b) _ (2 ^ 32) (omega arith)
    (below_of (eqb t 2) (word g r a b) _ (2 ^ 32) (omega arith) (below_of (eqb t 3) (word b r g a) (word a r g b) (2 ^ 32) (omega arith) (omega arith)))

-- a pixel of a mode that there is
module _ (d m : ℕ) (h : m < 8) where
  abbrev k : Mode
  k = mode_at m

  colour_byte : (c e : ℕ) → colour_end d m k c e < 256
  colour_byte c e =
      expand_byte (k.colour + p_bits m k) _ (colour_fits m h)
      (with_p _ _ k.colour (p_bits m k) (colour_fits m h) (mod-lt _ (pow_pos k.colour)) (mod-lt _ (pow_pos (p_bits m k))))

  alpha_byte_lem : (e : ℕ) → alpha_end d m k e < 256
  alpha_byte_lem e =
      below_of (eqb k.alpha 0) _ _ 256 (lit< tt)
      (expand_byte (k.alpha + p_bits m k) _ (alpha_fits m h)
      (with_p _ _ k.alpha (p_bits m k) (alpha_fits m h) (mod-lt _ (pow_pos k.alpha)) (mod-lt _ (pow_pos (p_bits m k)))))

  first_most : (i : ℕ) → first_weight d m k i ≤ 64
  first_most i = weight_most k.index _

  second_most : (i : ℕ) → second_weight d m k i ≤ 64
  second_most i = one_of (eqb k.second 0) _ _ 64 (first_most i) (weight_most k.second _)

  colour_most : (c i : ℕ) → colour_at d m k c i ≤ 255
  colour_most c i =
      between _ _ (colour_weight d m k i) (colour_byte c _) (colour_byte c _) (one_of (eqb (selected d m k) 0) _ _ 64 (first_most i) (second_most i))

  alpha_most : (i : ℕ) → alpha_at d m k i ≤ 255
  alpha_most i =
      between _ _ (alpha_weight d m k i) (alpha_byte_lem _) (alpha_byte_lem _) (one_of (eqb (selected d m k) 0) _ _ 64 (second_most i) (first_most i))

  pub pixel_word : (i : ℕ) → pixel_in d m k i < 2 ^ 32
  unfolding pixel_in
  pixel_word i = turned (field d (rotation_place m k) k.rotation) _ _ _ _ (alpha_most i) (colour_most 0 i) (colour_most 1 i) (colour_most 2 i)
