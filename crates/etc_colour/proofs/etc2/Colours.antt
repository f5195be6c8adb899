-- From eight colours to the pixels of ETC1, RGB and RGBA1.
-- Assumes nothing.
use Rattle.std.proofs.Common.{◌≡◌, ℕ, zero, suc, ◌/◌, ◌%◌, ◌<◌, Bool, true, false, cond, T as Is, eqb, List, [], get_or, refl, ap, ◌∙◌, subst, arith}
use Rattle.rules.specs.Notation.{build}
use Rattle.rules.specs.Places.{tile}
use Rattle.rules.specs.Colour.{individual, wrapping, differential, code, half, index, differs, kind_by_sums_lem, kind_of, half_colours, steps_of}
use Rattle.rules.specs.Modes.{planar_bases_lem, planar_pixel_lem, is_planar, indexed, colours_of_lem, clear_steps, etc1_pixel, rgb_pixel, rgba1_pixel}
use Rattle.rules.specs.declared.Kind.{Kind}
use Rattle.rules.specs.declared.Kind.TheVariants.{Individual, Differential, T, H, Planar}
use Rattle.laws.proofs.Filled.{build_same}
use Rattle.laws.proofs.Range.{fair, fair_by_sums}
use Rattle.etc_colour.specs.shade.Pick.{eight, taken}
use Rattle.etc_colour.proofs.shade.Pick.{picks}
use Rattle.etc_colour.specs.shade.Tone.{punched}
use Rattle.etc_colour.specs.etc2.Colours.{steps_where, halves_colours, made_colours, made_pixel, etc1_kind_lem, kind_in_lem, opaque_in_lem, colour_pixel}

-- a kind that is not planar
pub not_planar : (k : Kind) → (k ≡ Planar → ⊥) → is_planar k ≡ false
not_planar Individual n = refl
not_planar Differential n = refl
not_planar T n = refl
not_planar H n = refl
not_planar Planar n = absurd (n refl)

-- the colours that the code makes are the block's
made : (steps : ℕ → List ℕ) (k : Kind) (d : List ℕ) (h : ℕ) → (k ≡ Differential → wrapping d ≡ differential d) → made_colours steps k d h ≡ colours_of_lem steps k d h
unfolding made_colours
made steps Individual d h fair = refl
made steps Differential d h fair = ap (λ (c : List (List ℕ)). half_colours (get_or c h []) (steps (code d h))) (fair refl)
made steps T d h fair = refl
made steps H d h fair = refl
made steps Planar d h fair = refl

-- one of four, where index 2 is transparent
clear : (l : List ℕ) (i : ℕ) → i < 4 → get_or (punched false l) i 0 ≡ cond (eqb i 2) 0 (get_or l i 0)
clear l zero h = refl
clear l (suc zero) h = refl
clear l (suc (suc zero)) h = refl
clear l (suc (suc (suc zero))) h = refl
clear l (suc (suc (suc (suc n)))) h = absurd (omega arith)

-- a pixel that is made, of RGB and of RGBA1: the sums of a differential block are in range
module _ (k : Kind) (d : List ℕ) (fair : k ≡ Differential → wrapping d ≡ differential d) (x y : ℕ) where
  pub opaque_pixel : made_pixel k true d x y ≡ cond (is_planar k) (planar_pixel_lem (planar_bases_lem d) x y) (indexed steps_of k d x y)
  unfolding made_pixel indexed
  opaque_pixel = ap (λ (l : List ℕ). cond (is_planar k) (planar_pixel_lem (planar_bases_lem d) x y) (get_or l (index d x y) 0)) (made steps_of k d (half d x y) fair)

  pub clear_pixel : made_pixel k false d x y ≡ cond (is_planar k) (planar_pixel_lem (planar_bases_lem d) x y) (cond (eqb (index d x y) 2) 0 (indexed clear_steps k d x y))
  unfolding made_pixel indexed
  clear_pixel =
      ap (λ (n : ℕ). cond (is_planar k) (planar_pixel_lem (planar_bases_lem d) x y) n)
      (ap (λ (l : List ℕ). get_or (punched false l) (index d x y) 0) (made clear_steps k d (half d x y) fair) ∙ clear (colours_of_lem clear_steps k d (half d x y)) (index d x y) (omega arith))

-- and of ETC1, whose sums wrap
module _ (d : List ℕ) (x y : ℕ) where
  by_bit : (t : Bool) → made_pixel (cond t Differential Individual) true d x y
      ≡ get_or (half_colours (get_or (cond t (wrapping d) (individual d)) (half d x y) []) (steps_of (code d (half d x y)))) (index d x y) 0
  unfolding made_pixel made_colours
  by_bit true = refl
  by_bit false = refl

  etc1_pixel_lem : made_pixel (etc1_kind_lem d) true d x y ≡ etc1_pixel d x y
  unfolding etc1_pixel
  etc1_pixel_lem = by_bit (differs d)

  rgb_pixel_lem : made_pixel (kind_of d) true d x y ≡ rgb_pixel d x y
  unfolding rgb_pixel
  rgb_pixel_lem = opaque_pixel (kind_of d) d (fair d) x y

  rgba1_made : (t : Bool) → made_pixel (kind_by_sums_lem d) t d x y
      ≡ cond (is_planar (kind_by_sums_lem d)) (planar_pixel_lem (planar_bases_lem d) x y)
      (cond t (indexed steps_of (kind_by_sums_lem d) d x y) (cond (eqb (index d x y) 2) 0 (indexed clear_steps (kind_by_sums_lem d) d x y)))
  rgba1_made true = opaque_pixel (kind_by_sums_lem d) d (fair_by_sums d) x y
  rgba1_made false = clear_pixel (kind_by_sums_lem d) d (fair_by_sums d) x y

  rgba1_pixel_lem : made_pixel (kind_by_sums_lem d) (differs d) d x y ≡ rgba1_pixel d x y
  unfolding rgba1_pixel
  rgba1_pixel_lem = rgba1_made (differs d)

  pub pixel : (plain punch : Bool) → made_pixel (kind_in_lem plain punch d) (opaque_in_lem punch d) d x y ≡ colour_pixel plain punch d x y
  pixel true true = rgba1_pixel_lem
  pixel true false = etc1_pixel_lem
  pixel false true = rgba1_pixel_lem
  pixel false false = rgb_pixel_lem

-- the pick of eight colours is the tile
pub picked : (k : Kind) (opaque : Bool) (d p : List ℕ) → is_planar k ≡ false → p ≡ eight (λ h. punched opaque (made_colours (steps_where opaque) k d h))
    → build 16 (taken d p) ≡ tile (made_pixel k opaque) d
unfolding made_pixel
picked k opaque d p n e =
    picks d (λ h. punched opaque (made_colours (steps_where opaque) k d h)) p e
    ∙ build_same 0 (λ j. get_or (punched opaque (made_colours (steps_where opaque) k d (half d (j % 4) (j / 4)))) (index d (j % 4) (j / 4)) 0)
    (λ j. made_pixel k opaque d (j % 4) (j / 4)) 16 (λ j h. rw n refl)

-- the colours of two halves, where the kind is neither T nor H
pub of_halves : (k : Kind) (opaque : Bool) (d : List ℕ) → (k ≡ T → ⊥) → (k ≡ H → ⊥) → is_planar k ≡ false
    → eight (halves_colours opaque k d) ≡ eight (λ h. punched opaque (made_colours (steps_where opaque) k d h))
unfolding made_colours
of_halves Individual opaque d s t n = refl
of_halves Differential opaque d s t n = refl
of_halves T opaque d s t n = absurd (s refl)
of_halves H opaque d s t n = absurd (t refl)
of_halves Planar opaque d s t n = absurd (subst Is n tt)
