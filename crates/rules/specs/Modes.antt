-- T, H and planar, and the pixels of ETC1, ETC2 RGB and RGBA1. Beside each field stand the bits of the Khronos layout,
-- in which b0 is bits 63..56 and b7 bits 7..0 of the block.
-- Assumes nothing.
use Rattle.std.specs.Prelude.{Bool, true, false, cond, List, [], ◌∷◌, ℕ, ◌+◌, ◌*◌, ◌/◌, eqb, leb, ltb, pos, ◌+ℤ◌, ◌-ℤ◌, ◌*ℤ◌, get_or}
use Rattle.rules.specs.Notation.{byte, bit, bits, minus, clamp, quarter}
use Rattle.rules.specs.Pixel.{word}
use Rattle.rules.specs.Colour.{index, half, code, differs, unused, individual, differential, wrapping}
use Rattle.rules.specs.Colour.{kind_by_sums_lem, kind_of, steps_of, shaded, half_colours}
use Rattle.rules.specs.declared.Kind.{Kind}
use Rattle.rules.specs.declared.Kind.TheVariants.{Individual, Differential, T, H, Planar}

-- `ETC2_DISTANCE_TABLE`
abbrev pub distances : List ℕ
distances = 3 ∷ 6 ∷ 11 ∷ 16 ∷ 23 ∷ 32 ∷ 41 ∷ 64 ∷ []

-- "three base colours of three bytes each hold all of them": T and H use two of them, planar three.
-- T: c0 is bits 60..59 with 57..56, 55..52, 51..48; c1 is bits 47..44, 43..40, 39..36; each four bits times 17
unfoldable pub t_bases : List ℕ → List (List ℕ)
t_bases d =
    ((4 * bits 4 3 (byte d 0) + bits 1 0 (byte d 0)) * 17 ∷ bits 7 4 (byte d 1) * 17 ∷ bits 3 0 (byte d 1) * 17 ∷ [])
    ∷ (bits 7 4 (byte d 2) * 17 ∷ bits 3 0 (byte d 2) * 17 ∷ bits 7 4 (byte d 3) * 17 ∷ [])
    ∷ unused
    ∷ []

-- its distance number is bits 35..34 with 32
unfoldable pub t_distance : List ℕ → ℕ
t_distance d = get_or distances (2 * bits 3 2 (byte d 3) + bit 0 (byte d 3)) 0

-- "T paints c0, c1 + d, c1, c1 - d"
abbrev pub t_colours_lem : List (List ℕ) → ℕ → List ℕ
t_colours_lem c m =
    shaded (get_or c 0 []) (pos 0)
    ∷ shaded (get_or c 1 []) (pos m)
    ∷ shaded (get_or c 1 []) (pos 0)
    ∷ shaded (get_or c 1 []) (minus m)
    ∷ []

-- H: c0 is bits 62..59, 58..56 with 52, 51 with 49..47; c1 is bits 46..43, 42..39, 38..35; each four bits times 17
unfoldable pub h_bases : List ℕ → List (List ℕ)
h_bases d =
    (bits 6 3 (byte d 0) * 17
    ∷ (2 * bits 2 0 (byte d 0) + bit 4 (byte d 1)) * 17
    ∷ (8 * bit 3 (byte d 1) + 2 * bits 1 0 (byte d 1) + bit 7 (byte d 2)) * 17
    ∷ [])
    ∷ (bits 6 3 (byte d 2) * 17 ∷ (2 * bits 2 0 (byte d 2) + bit 7 (byte d 3)) * 17 ∷ bits 6 3 (byte d 3) * 17 ∷ [])
    ∷ unused
    ∷ []

-- a >= b, "compared red, then green, then blue; equal counts"
abbrev pub not_less_lem : List ℕ → List ℕ → Bool
not_less_lem a b =
    cond (eqb (get_or a 0 0) (get_or b 0 0))
    (cond (eqb (get_or a 1 0) (get_or b 1 0))
    (leb (get_or b 2 0) (get_or a 2 0))
    (ltb (get_or b 1 0) (get_or a 1 0)))
    (ltb (get_or b 0 0) (get_or a 0 0))

-- its distance number is bit 34 with 32, which "gains 1 when c0 >= c1"
unfoldable pub h_distance : List ℕ → ℕ
h_distance d =
    get_or distances (4 * bit 2 (byte d 3) + 2 * bit 0 (byte d 3) + cond
    (not_less_lem (get_or (h_bases d) 0 []) (get_or (h_bases d) 1 [])) 1 0) 0

-- "H paints c0 + d, c0 - d, c1 + d, c1 - d"
abbrev pub h_colours_lem : List (List ℕ) → ℕ → List ℕ
h_colours_lem c m =
    shaded (get_or c 0 []) (pos m)
    ∷ shaded (get_or c 0 []) (minus m)
    ∷ shaded (get_or c 1 []) (pos m)
    ∷ shaded (get_or c 1 []) (minus m)
    ∷ []

-- six and seven bits to eight
abbrev pub six : ℕ → ℕ
six v = 4 * v + v / 16

abbrev pub seven : ℕ → ℕ
seven v = 2 * v + v / 64

-- planar: O is bits 62..57, 56 with 54..49, 48 with 44..43 and 41..39; H is bits 38..34 with 32, 31..25, 24..19; V is bits
-- 18..13, 12..6, 5..0; red and blue have six bits, green seven
unfoldable pub planar_bases_lem : List ℕ → List (List ℕ)
planar_bases_lem d =
    (six (bits 6 1 (byte d 0))
    ∷ seven (64 * bit 0 (byte d 0) + bits 6 1 (byte d 1))
    ∷ six (32 * bit 0 (byte d 1) + 8 * bits 4 3 (byte d 2) + 2 * bits 1 0 (byte d 2) + bit 7 (byte d 3))
    ∷ [])
    ∷ (six (2 * bits 6 2 (byte d 3) + bit 0 (byte d 3))
    ∷ seven (bits 7 1 (byte d 4))
    ∷ six (32 * bit 0 (byte d 4) + bits 7 3 (byte d 5))
    ∷ [])
    ∷ (six (8 * bits 2 0 (byte d 5) + bits 7 5 (byte d 6))
    ∷ seven (4 * bits 4 0 (byte d 6) + bits 7 6 (byte d 7))
    ∷ six (bits 5 0 (byte d 7))
    ∷ [])
    ∷ []

-- "floor((x(H - O) + y(V - O) + 4O + 2) / 4), clamped"
unfoldable pub planar_channel : ℕ → ℕ → ℕ → ℕ → ℕ → ℕ
planar_channel o h v x y =
    clamp 255 (quarter (pos x *ℤ (pos h -ℤ pos o) +ℤ pos y *ℤ (pos v -ℤ pos o) +ℤ pos (4 * o) +ℤ pos 2))

abbrev pub planar_of : List (List ℕ) → ℕ → ℕ → ℕ → ℕ
planar_of c i x y = planar_channel (get_or (get_or c 0 []) i 0) (get_or (get_or c 1 []) i 0) (get_or (get_or c 2 []) i 0) x y

-- ".. always opaque"
abbrev pub planar_pixel_lem : List (List ℕ) → ℕ → ℕ → ℕ
planar_pixel_lem c x y = word 255 (planar_of c 0 x y) (planar_of c 1 x y) (planar_of c 2 x y)

-- the four colours of half h, by index; `steps` is what a code stands for, and planar has none
abbrev pub colours_of_lem : (ℕ → List ℕ) → Kind → List ℕ → ℕ → List ℕ
colours_of_lem steps Individual d h = half_colours (get_or (individual d) h []) (steps (code d h))
colours_of_lem steps Differential d h = half_colours (get_or (differential d) h []) (steps (code d h))
colours_of_lem steps T d h = t_colours_lem (t_bases d) (t_distance d)
colours_of_lem steps H d h = h_colours_lem (h_bases d) (h_distance d)
colours_of_lem steps Planar d h = []

abbrev pub is_planar : Kind → Bool
is_planar Individual = false
is_planar Differential = false
is_planar T = false
is_planar H = false
is_planar Planar = true

-- a pixel by its half and its index
unfoldable pub indexed : (ℕ → List ℕ) → Kind → List ℕ → ℕ → ℕ → ℕ
indexed steps k d x y = get_or (colours_of_lem steps k d (half d x y)) (index d x y) 0

-- ETC2 RGB, by the kind of the block
unfoldable pub rgb_pixel : List ℕ → ℕ → ℕ → ℕ
rgb_pixel d x y = cond (is_planar (kind_of d)) (planar_pixel_lem (planar_bases_lem d) x y) (indexed steps_of (kind_of d) d x y)

-- "RGBA1 with opaque bit clear: differential uses steps 0 and the larger one;
abbrev pub clear_steps : ℕ → List ℕ
clear_steps code = 0 ∷ get_or (steps_of code) 1 0 ∷ []

-- high bit 1 with low bit 0 is transparent in differential, T and H, and then the whole pixel is 0."
unfoldable pub rgba1_pixel : List ℕ → ℕ → ℕ → ℕ
rgba1_pixel d x y =
    cond (is_planar (kind_by_sums_lem d)) (planar_pixel_lem (planar_bases_lem d) x y)
    (cond (differs d) (indexed steps_of (kind_by_sums_lem d) d x y)
    (cond (eqb (index d x y) 2) 0 (indexed clear_steps (kind_by_sums_lem d) d x y)))

-- ETC1: individual, or differential with sums that wrap
abbrev pub etc1_bases : List ℕ → List (List ℕ)
etc1_bases d = cond (differs d) (wrapping d) (individual d)

unfoldable pub etc1_pixel : List ℕ → ℕ → ℕ → ℕ
etc1_pixel d x y = get_or (half_colours (get_or (etc1_bases d) (half d x y) []) (steps_of (code d (half d x y)))) (index d x y) 0
