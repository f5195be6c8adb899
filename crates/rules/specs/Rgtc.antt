-- BC4 and BC5, which Khronos calls RGTC: one half as BC3's alphas have it, for red, or two, for red and green; unsigned and signed.
-- The Khronos text of RGTC is not at hand; what is known of it stands in docs/DECISIONS.md, with what it leaves open and is chosen here.
-- Assumes nothing.
use Rattle.std.specs.Prelude.{Bool, true, false, cond, List, ℕ, ◌+◌, ◌*◌, ltb, pos, ◌+ℤ◌, get_or, drop}
use Rattle.rules.specs.Notation.{bits, clamp}
use Rattle.rules.specs.Pixel.{word}
use Rattle.rules.specs.Channels.{signed_base}
use Rattle.rules.specs.Desktop.{half_word_lem, eight_up_to, alpha_index_in}

-- A signed value v is the byte v + 127, so that 0 stands at 127, as in the signed readers of EAC; the least, -127, is 0, and the greatest,
-- 127, is 254.
abbrev pub greatest : Bool → ℕ
greatest signed = cond signed 254 255

-- the first and the second value of a half: a byte, or a signed one, of which -128 is read as -127, as the base of signed EAC is
abbrev pub endpoint : Bool → ℕ → ℕ
endpoint false b = b
endpoint true b = clamp 254 (signed_base b +ℤ pos 127)

-- The eight values of a half, as BC3's alphas. What lies between two rounds down, and that is the same of the values and of the bytes,
-- each 127 above its value.
abbrev pub values_in_lem : Bool → ℕ → List ℕ
values_in_lem signed w =
    eight_up_to (greatest signed) (ltb (endpoint signed (bits 15 8 w)) (endpoint signed (bits 7 0 w))) (endpoint signed (bits 7 0 w))
    (endpoint signed (bits 15 8 w))

unfoldable pub half_byte : Bool → List ℕ → ℕ → ℕ → ℕ
half_byte signed d x y = get_or (values_in_lem signed (half_word_lem d)) (alpha_index_in (half_word_lem d) (4 * y + x)) 0

-- BC4 has red, with green and blue 0 and alpha 255, as EAC R has them
unfoldable pub bc4_pixel : Bool → List ℕ → ℕ → ℕ → ℕ
bc4_pixel signed d x y = word 255 (half_byte signed d x y) 0 0

-- and BC5 red from the first 8 bytes, green from the next 8
unfoldable pub bc5_pixel : Bool → List ℕ → ℕ → ℕ → ℕ
bc5_pixel signed d x y = word 255 (half_byte signed d x y) (half_byte signed (drop 8 d) x y) 0
