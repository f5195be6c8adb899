-- The colours of a block as the code makes them, and a pixel of ETC1, RGB or RGBA1.
-- Assumes nothing.
use Rattle.std.specs.Prelude.{ℕ, Bool, true, cond, List, [], slice_index, slice_index_or}
use Rattle.rules.specs.Pixel.{Shows}
use Rattle.rules.specs.Colour.{individual, wrapping, code, half, index, differs, kind_by_sums_lem, kind_of, half_colours, steps_of}
use Rattle.rules.specs.Modes.{t_bases, t_distance, t_colours_lem, h_bases, h_distance, h_colours_lem}
use Rattle.rules.specs.Modes.{planar_bases_lem, planar_pixel_lem, is_planar, clear_steps, etc1_pixel, rgb_pixel, rgba1_pixel}
use Rattle.rules.specs.declared.Kind.{Kind}
use Rattle.rules.specs.declared.Kind.TheVariants.{Individual, Differential, T, H, Planar}
use Rattle.etc_colour.specs.shade.Tone.{punched}

-- what a code stands for, in a block that is opaque and in one that is not
abbrev pub steps_where : Bool → ℕ → List ℕ
steps_where opaque code = cond opaque (steps_of code) (clear_steps code)

-- the base colours of a block of two halves; a differential one's second base wraps
abbrev pub half_bases : Kind → List ℕ → List (List ℕ)
half_bases Individual d = individual d
half_bases Differential d = wrapping d
half_bases T d = wrapping d
half_bases H d = wrapping d
half_bases Planar d = wrapping d

-- the four colours of half h of such a block
abbrev pub halves_colours : Bool → Kind → List ℕ → ℕ → List ℕ
halves_colours opaque kind d h = punched opaque (half_colours (slice_index_or (half_bases kind d) h []) (steps_where opaque (code d h)))

-- `colours_of_lem` of the rules, but for a differential block's second base, which wraps
unfoldable pub made_colours : (ℕ → List ℕ) → Kind → List ℕ → ℕ → List ℕ
made_colours steps Individual d h = half_colours (slice_index_or (individual d) h []) (steps (code d h))
made_colours steps Differential d h = half_colours (slice_index_or (wrapping d) h []) (steps (code d h))
made_colours steps T d h = t_colours_lem (t_bases d) (t_distance d)
made_colours steps H d h = h_colours_lem (h_bases d) (h_distance d)
made_colours steps Planar d h = []

-- a pixel of a block of a kind that is opaque or not, as it is made
unfoldable pub made_pixel : Kind → Bool → Shows
made_pixel kind opaque d x y =
    cond (is_planar kind) (planar_pixel_lem (planar_bases_lem d) x y)
    (slice_index (punched opaque (made_colours (steps_where opaque) kind d (half d x y))) (index d x y))

-- "ETC1: the sum wraps": no other kind than these two
abbrev pub etc1_kind_lem : List ℕ → Kind
etc1_kind_lem d = cond (differs d) Differential Individual

-- how the kind is told, in ETC1, in RGBA1 and in RGB
abbrev pub kind_in_lem : Bool → Bool → List ℕ → Kind
kind_in_lem plain punch d = cond punch (kind_by_sums_lem d) (cond plain (etc1_kind_lem d) (kind_of d))

-- "b3 bit 1 is the difference bit (in RGBA1: the opaque bit ..)"
abbrev pub opaque_in_lem : Bool → List ℕ → Bool
opaque_in_lem punch d = cond punch (differs d) true

-- a pixel of one of the three
abbrev pub colour_pixel : Bool → Bool → Shows
colour_pixel plain punch = cond punch rgba1_pixel (cond plain etc1_pixel rgb_pixel)
