-- The four colours of T and of H: their steps are small, their fields and distances are the block's.
-- Assumes nothing.
use Rattle.std.proofs.Common.{◌≡◌, ℕ, zero, suc, ◌+◌, ◌*◌, ◌/◌, ◌%◌, ◌<◌, Bool, true, false, cond, List, [], ◌∷◌, get_or, ℤ, pos, sym, refl, ap, ◌∙◌, div-one, arith}
use lib.Signed.{mag}
use Rattle.rules.specs.Notation.{byte, bit, minus, build}
use Rattle.rules.specs.Modes.{t_bases, t_distance, t_colours_lem, h_bases, h_distance, h_colours_lem, not_less_lem}
use Rattle.laws.proofs.Signed.{mag-neg}
use Rattle.etc_colour.specs.shade.Tone.{toned, punched, third_where, Steps}
use Rattle.etc_colour.proofs.shade.Tone.{steps_opaque, steps_clear}
use Rattle.etc_colour.specs.fields.Fields.{t_fields_lem, h_fields_lem, distance_at}

small_four : (a b c d : ℤ) → mag a < 1024 → mag b < 1024 → mag c < 1024 → mag d < 1024 → (k : ℕ) → mag (get_or (a ∷ b ∷ c ∷ d ∷ []) k (pos 0)) < 1024
small_four a b c d h i j l zero = h
small_four a b c d h i j l (suc zero) = i
small_four a b c d h i j l (suc (suc zero)) = j
small_four a b c d h i j l (suc (suc (suc zero))) = l
small_four a b c d h i j l (suc (suc (suc (suc n)))) = omega arith

module _ (m : ℕ) (h : m < 65) where
  up : mag (pos m) < 1024
  up = omega arith

  down : mag (minus m) < 1024
  down = omega (arith, mag-neg m)

  pub steps_t : (opaque : Bool) → Steps opaque (pos 0 ∷ pos m ∷ third_where opaque (pos 0) ∷ minus m ∷ [])
  steps_t true = steps_opaque (pos 0 ∷ pos m ∷ pos 0 ∷ minus m ∷ []) (small_four (pos 0) (pos m) (pos 0) (minus m) (omega arith) up (omega arith) down)
  steps_t false = steps_clear (pos 0 ∷ pos m ∷ minus 512 ∷ minus m ∷ []) (small_four (pos 0) (pos m) (minus 512) (minus m) (omega arith) up (omega arith) down) refl

  pub steps_h : (opaque : Bool) → Steps opaque (pos m ∷ minus m ∷ third_where opaque (pos m) ∷ minus m ∷ [])
  steps_h true = steps_opaque (pos m ∷ minus m ∷ pos m ∷ minus m ∷ []) (small_four (pos m) (minus m) (pos m) (minus m) up down up down)
  steps_h false = steps_clear (pos m ∷ minus m ∷ minus 512 ∷ minus m ∷ []) (small_four (pos m) (minus m) (minus 512) (minus m) up down (omega arith) down) refl

-- four bases with their steps
abbrev pub four : Bool → List (List ℕ) → List ℤ → List ℕ
four opaque bases steps = build 4 (λ k. toned opaque k (get_or bases k []) (get_or steps k (pos 0)))

-- they are T's colours, and H's
t_toned : (opaque : Bool) (c : List (List ℕ)) (m : ℕ)
    → four opaque (get_or c 0 [] ∷ get_or c 1 [] ∷ get_or c 1 [] ∷ get_or c 1 [] ∷ []) (pos 0 ∷ pos m ∷ third_where opaque (pos 0) ∷ minus m ∷ []) ≡ punched opaque (t_colours_lem c m)
t_toned true c m = refl
t_toned false c m = refl

h_toned : (opaque : Bool) (c : List (List ℕ)) (m : ℕ)
    → four opaque (get_or c 0 [] ∷ get_or c 0 [] ∷ get_or c 1 [] ∷ get_or c 1 [] ∷ []) (pos m ∷ minus m ∷ third_where opaque (pos m) ∷ minus m ∷ []) ≡ punched opaque (h_colours_lem c m)
h_toned true c m = refl
h_toned false c m = refl

module _ (opaque : Bool) (d : List ℕ) (c : List (List ℕ)) (steps : List ℤ) (m : ℕ) where
  pub t_four : c ≡ t_fields_lem (byte d 0) (byte d 1) (byte d 2) (byte d 3) → m ≡ distance_at (2 * (byte d 3 / 4 % 4) + byte d 3 % 2)
      → steps ≡ pos 0 ∷ pos m ∷ third_where opaque (pos 0) ∷ minus m ∷ []
      → four opaque (get_or c 0 [] ∷ get_or c 1 [] ∷ get_or c 1 [] ∷ get_or c 1 [] ∷ []) steps ≡ punched opaque (t_colours_lem (t_bases d) (t_distance d))
  unfolding t_bases t_distance
  t_four p q e =
      ap (four opaque (get_or c 0 [] ∷ get_or c 1 [] ∷ get_or c 1 [] ∷ get_or c 1 [] ∷ [])) e
      ∙ t_toned opaque c m
      ∙ ap (λ (c : List (List ℕ)). punched opaque (t_colours_lem c m)) p
      ∙ ap (λ (m : ℕ). punched opaque (t_colours_lem (t_bases d) m)) (q ∙ ap (λ (n : ℕ). distance_at (2 * (byte d 3 / 4 % 4) + n % 2)) (sym (div-one (byte d 3))))

  pub h_four : c ≡ h_fields_lem (byte d 0) (byte d 1) (byte d 2) (byte d 3)
      → m ≡ distance_at (4 * bit 2 (byte d 3) + 2 * bit 0 (byte d 3) + cond (not_less_lem (get_or c 0 []) (get_or c 1 [])) 1 0)
      → steps ≡ pos m ∷ minus m ∷ third_where opaque (pos m) ∷ minus m ∷ []
      → four opaque (get_or c 0 [] ∷ get_or c 0 [] ∷ get_or c 1 [] ∷ get_or c 1 [] ∷ []) steps ≡ punched opaque (h_colours_lem (h_bases d) (h_distance d))
  unfolding h_bases h_distance
  h_four p q e =
      ap (four opaque (get_or c 0 [] ∷ get_or c 0 [] ∷ get_or c 1 [] ∷ get_or c 1 [] ∷ [])) e
      ∙ h_toned opaque c m
      ∙ ap (λ (c : List (List ℕ)). punched opaque (h_colours_lem c m)) p
      ∙ ap (λ (m : ℕ). punched opaque (h_colours_lem (h_bases d) m))
      (q ∙ ap (λ (c : List (List ℕ)). distance_at (4 * bit 2 (byte d 3) + 2 * bit 0 (byte d 3) + cond (not_less_lem (get_or c 0 []) (get_or c 1 [])) 1 0)) p)
