-- A block of colours, without an alpha half and with one.
-- Assumes nothing.
use mathlib.Core.Path.{◌≡◌, ◌∙◌, ap, subst, sym}
use mathlib.Core.Bool.{Bool, true, false}
use mathlib.Core.List.{List}
use Prim.Native.Nat.{ℕ, ◌-◌, ◌/◌, ◌%◌}
use lib.Dec.{T}
use lib.ListN.{length, get_or, take, drop}
use Rattle.rules.specs.Notation.{build}
use Rattle.rules.specs.Places.{tile}
use Rattle.rules.specs.Channels.{with_alpha, alpha_byte}
use Rattle.rules.specs.declared.Picture.{Picture}
use Rattle.laws.specs.Painted.{Painted}
use Rattle.laws.proofs.Parts.{rest}
use Rattle.pixel.specs.place.Tile.{InTile, number_in}
use Rattle.etc_colour.specs.etc2.Colours.{colour_pixel}
use Rattle.blocks.specs.Colour.{colours_from_lem, colour_shows}

module _ (plain punch : Bool) (d px : List ℕ) (at : ℕ) (p : px ≡ tile (colour_pixel plain punch) (take (length d - at) (drop at d))) where
  -- the pixels are those of the bytes from there on
  from_there : (n : ℕ) → at ≡ n → px ≡ tile (colour_pixel plain punch) (drop n d)
  from_there n e = p ∙ ap (tile (colour_pixel plain punch)) (rest at d ∙ ap (λ (n : ℕ). drop n d) e)

  pub without : (alpha : Bool) → alpha ≡ false → at ≡ colours_from_lem alpha → px ≡ tile (colour_shows plain punch alpha) d
  without false e q = from_there 0 q
  without true e q = absurd (subst T e tt)

  pub with_alpha_lem : (alpha : Bool) → alpha ≡ true → at ≡ colours_from_lem alpha → (t : List ℕ)
      → t ≡ build 16 (λ k. with_alpha (get_or px k 0) (alpha_byte d (k % 4) (k / 4)))
      → t ≡ tile (colour_shows plain punch alpha) d
  with_alpha_lem true e q t r = r ∙ ap (λ (l : List ℕ). build 16 (λ k. with_alpha (get_or l k 0) (alpha_byte d (k % 4) (k / 4)))) (from_there 8 q)
  with_alpha_lem false e q t r = absurd (subst T (sym e) tt)

-- a tile that is another, painted
pub as_tile : (pic : Picture) (bx by : ℕ) (t u old new : List ℕ) → t ≡ u
    → Painted (InTile pic bx by) (λ (k : ℕ). get_or t (number_in pic k) 0) old new
    → Painted (InTile pic bx by) (λ (k : ℕ). get_or u (number_in pic k) 0) old new
as_tile pic bx by t u old new e p = subst (λ (t : List ℕ). Painted (InTile pic bx by) (λ (k : ℕ). get_or t (number_in pic k) 0) old new) e p
