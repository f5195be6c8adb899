-- A block of colours, with an alpha half before them or without: ETC1, RGB, RGBA1 and RGBA8 are of this form.
-- Assumes nothing.
use Rattle.std.specs.Prelude.{Bool, cond, ℕ, drop}
use Rattle.rules.specs.Pixel.{Shows}
use Rattle.rules.specs.Channels.{with_alpha, alpha_byte}
use Rattle.etc_colour.specs.etc2.Colours.{colour_pixel}

-- how many bytes it has, and where its colours begin
abbrev pub colour_size_lem : Bool → ℕ
colour_size_lem alpha = cond alpha 16 8

abbrev pub colours_from_lem : Bool → ℕ
colours_from_lem alpha = cond alpha 8 0

-- what it shows
abbrev pub colour_shows : Bool → Bool → Bool → Shows
colour_shows plain punch alpha =
    cond alpha (λ d x y. with_alpha (colour_pixel plain punch (drop 8 d) x y) (alpha_byte d x y)) (colour_pixel plain punch)
