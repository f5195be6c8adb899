-- What is claimed of BC2, BC4 and BC5 beside what holds of every format: placement, refusals and the own tile are those of Pictures.antt and
-- Blocks.antt, and that a value between two is the whole part of its fraction is that of Desktop.antt.
-- Assumes nothing.
use mathlib.Core.Path.{◌≡◌, refl}
use mathlib.Core.Bool.{true, false}
use mathlib.Core.List.{List, [], ◌∷◌}
use Prim.Native.Nat.{ℕ, ◌+◌, ◌*◌, ◌<◌}
use lib.Dec.{T, eqb, eqb→eq}
use lib.IntN.{pos, ◌+ℤ◌}
use lib.ListN.{get_or, drop}
use Rattle.rules.specs.Notation.{bits, clamp}
use Rattle.rules.specs.Channels.{signed_base, alpha_step, eac_value, eac_byte}
use Rattle.rules.specs.Desktop.{half_word_lem, rgb565, palette, colour_index, bc1_pixel, bc3_alpha, bc2_alpha, bc2_pixel, replaced}
use Rattle.rules.specs.Rgtc.{endpoint, half_byte}
use Rattle.laws.proofs.Every.{every, below}

-- BC2 has four colours, whatever their order, as BC3 has
pub bc2_has_four_colours_always : (d : List ℕ) (x y : ℕ)
    → bc2_pixel d x y
    ≡ replaced 3
    (get_or (palette true false (rgb565 (bits 15 0 (half_word_lem (drop 8 d)))) (rgb565 (bits 31 16 (half_word_lem (drop 8 d))))) (colour_index (half_word_lem (drop 8 d)) (4 * y + x)) 0)
    (bc2_alpha d x y)
unfolding bc2_pixel bc1_pixel
bc2_has_four_colours_always d x y = refl

-- an unsigned half of BC4 or BC5 is the alpha half of BC3
pub an_unsigned_half_is_the_alpha_half_of_bc3 : (d : List ℕ) (x y : ℕ) → half_byte false d x y ≡ bc3_alpha d x y
unfolding half_byte bc3_alpha
an_unsigned_half_is_the_alpha_half_of_bc3 d x y = refl

-- a signed byte is never cut off: the byte that stands for it is its value plus 127
back : T (every (λ b. eqb (endpoint true b) (clamp 65535 (signed_base b +ℤ pos 127))) 256)
back = tt

pub a_signed_value_is_127_below_its_byte : (b : ℕ) → b < 256 → endpoint true b ≡ clamp 65535 (signed_base b +ℤ pos 127)
a_signed_value_is_127_below_its_byte b h =
    eqb→eq (endpoint true b) (clamp 65535 (signed_base b +ℤ pos 127)) (below (λ b. eqb (endpoint true b) (clamp 65535 (signed_base b +ℤ pos 127))) 256 back b h)

-- and 0 stands where the signed readers of EAC have it, at 127
pub zero_stands_where_eac_has_it : endpoint true 0 ≡ eac_byte true (0 ∷ 0 ∷ 0 ∷ 0 ∷ 0 ∷ 0 ∷ 0 ∷ 0 ∷ []) 0 0
unfolding eac_byte eac_value alpha_step
zero_stands_where_eac_has_it = refl

-- "-128 reads as -127"
pub the_lowest_is_read_as_the_next : endpoint true 128 ≡ endpoint true 129
the_lowest_is_read_as_the_next = refl
