-- BC1 and BC3 (M-106 of document 02): two colours and what lies between them, two alphas and what lies between them; and BC2, whose
-- alphas stand there as they are. 02's own sentences stand in quotes above the definitions that they become; the bits are those of the
-- files that it names, src/bcn and `rgb565_le`.
-- Assumes nothing.
use Rattle.std.specs.Prelude.{Bool, true, false, cond, ◌||◌, List, [], ◌∷◌, ℕ, suc, ◌+◌, ◌*◌, ◌/◌, ◌%◌, ◌^◌, ltb, get_or, drop}
use Rattle.numbers.specs.Numbers.{little}
use Rattle.rules.specs.Notation.{bits}
use Rattle.rules.specs.Pixel.{word}
use Rattle.rules.specs.Colour.{five}
use Rattle.rules.specs.Modes.{six}

-- the eight bytes of a half as one number, the first byte lowest
abbrev pub half_word_lem : List ℕ → ℕ
half_word_lem d = little 8 0 d

-- `rgb565_le`: from the highest bit on five bits of red, six of green and five of blue, each widened to eight
abbrev pub rgb565 : ℕ → List ℕ
rgb565 q = five (bits 15 11 q) ∷ six (bits 10 5 q) ∷ five (bits 4 0 q) ∷ []

-- m parts of a to n parts of b: "Divisions by 2, 3, 5 and 7 round down"
abbrev pub mix : ℕ → ℕ → ℕ → ℕ → ℕ
mix m n a b = (m * a + n * b) / (m + n)

abbrev pub opaque : List ℕ → ℕ
opaque a = word 255 (get_or a 0 0) (get_or a 1 0) (get_or a 2 0)

abbrev pub mixture : ℕ → ℕ → List ℕ → List ℕ → ℕ
mixture m n a b =
    word 255 (mix m n (get_or a 0 0) (get_or b 0 0)) (mix m n (get_or a 1 0) (get_or b 1 0)) (mix m n (get_or a 2 0) (get_or b 2 0))

-- "BC1 (opaque and one-bit alpha)": four colours, the two and the thirds between them; or three, the two and their half, and then black,
-- which is transparent where alpha is read
abbrev pub palette : Bool → Bool → List ℕ → List ℕ → List ℕ
palette true alpha a b = opaque a ∷ opaque b ∷ mixture 2 1 a b ∷ mixture 1 2 a b ∷ []
palette false alpha a b = opaque a ∷ opaque b ∷ mixture 1 1 a b ∷ word (cond alpha 0 255) 0 0 0 ∷ []

-- "the order of the colours" picks the rule: four where the first, as a number, is above the second; "the public rule, always four
-- colours, decides" in BC3
abbrev pub has_four : Bool → ℕ → ℕ → Bool
has_four always p q = always || ltb q p

-- the colours of a half: two numbers of 16 bits
abbrev pub palette_in_lem : Bool → Bool → ℕ → List ℕ
palette_in_lem always alpha w =
    palette (has_four always (bits 15 0 w) (bits 31 16 w)) alpha (rgb565 (bits 15 0 w)) (rgb565 (bits 31 16 w))

-- and two bits for pixel i, row by row from bit 32 on
abbrev pub colour_index : ℕ → ℕ → ℕ
colour_index w i = w / 2 ^ (32 + 2 * i) % 4

unfoldable pub bc1_pixel : Bool → Bool → List ℕ → ℕ → ℕ → ℕ
bc1_pixel always alpha d x y = get_or (palette_in_lem always alpha (half_word_lem d)) (colour_index (half_word_lem d) (4 * y + x)) 0

-- eight values: the two and the sevenths between them, where the first is above the second; or the fifths, and then 0 and the greatest
abbrev pub eight_up_to : ℕ → Bool → ℕ → ℕ → List ℕ
eight_up_to top true a b = a ∷ b ∷ mix 6 1 a b ∷ mix 5 2 a b ∷ mix 4 3 a b ∷ mix 3 4 a b ∷ mix 2 5 a b ∷ mix 1 6 a b ∷ []
eight_up_to top false a b = a ∷ b ∷ mix 4 1 a b ∷ mix 3 2 a b ∷ mix 2 3 a b ∷ mix 1 4 a b ∷ 0 ∷ top ∷ []

-- eight alphas are such values up to 255
abbrev pub alphas : Bool → ℕ → ℕ → List ℕ
alphas f a b = eight_up_to 255 f a b

abbrev pub alphas_in_lem : ℕ → List ℕ
alphas_in_lem w = alphas (ltb (bits 15 8 w) (bits 7 0 w)) (bits 7 0 w) (bits 15 8 w)

-- and three bits for pixel i, row by row from bit 16 on
abbrev pub alpha_index_in : ℕ → ℕ → ℕ
alpha_index_in w i = w / 2 ^ (16 + 3 * i) % 8

unfoldable pub bc3_alpha : List ℕ → ℕ → ℕ → ℕ
bc3_alpha d x y = get_or (alphas_in_lem (half_word_lem d)) (alpha_index_in (half_word_lem d) (4 * y + x)) 0

-- `decode_bc3_alpha` puts a byte in place of a channel's, 0 blue, 1 green, 2 red or 3 alpha, and keeps the others
abbrev pub replaced : ℕ → ℕ → ℕ → ℕ
replaced channel p b = p / 256 ^ suc channel * 256 ^ suc channel + b * 256 ^ channel + p % 256 ^ channel

-- "In BC3 .. always four colours": the alpha half is bytes 0 to 7, and the colour half begins at byte 8
unfoldable pub bc3_pixel : List ℕ → ℕ → ℕ → ℕ
bc3_pixel d x y = replaced 3 (bc1_pixel true false (drop 8 d) x y) (bc3_alpha d x y)

-- `decode_bc2_alpha` reads four bits for pixel i, row by row from bit 0 on, and widens them: "(av << 4) | av" is 17 times the four bits
unfoldable pub bc2_alpha : List ℕ → ℕ → ℕ → ℕ
bc2_alpha d x y = half_word_lem d / 2 ^ (4 * (4 * y + x)) % 16 * 17

-- BC2 is BC3 with these alphas: the alpha half is bytes 0 to 7, and the colours, "always four", begin at byte 8
unfoldable pub bc2_pixel : List ℕ → ℕ → ℕ → ℕ
bc2_pixel d x y = replaced 3 (bc1_pixel true false (drop 8 d) x y) (bc2_alpha d x y)
