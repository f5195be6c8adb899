-- Alpha and single channels: one byte, or eleven bits, from eight bytes of their own.
-- Assumes nothing.
use Rattle.std.specs.Prelude.{
  Bool,
  true,
  false,
  cond,
  List,
  [],
  ◌∷◌,
  ℕ,
  ◌+◌,
  ◌-◌,
  ◌*◌,
  ◌/◌,
  ◌%◌,
  ◌^◌,
  eqb,
  ℤ,
  pos,
  ◌+ℤ◌,
  ◌*ℤ◌,
  get_or,
  drop,
}
use Rattle.std.specs.Int.Bits.{bit_or}
use Rattle.rules.specs.Notation.{byte, bits, twos, minus, clamp}
use Rattle.rules.specs.Pixel.{word}
use Rattle.rules.specs.Modes.{rgb_pixel}

-- four steps down and four up
abbrev pub down_up : ℕ → ℕ → ℕ → ℕ → ℕ → ℕ → ℕ → ℕ → List ℤ
down_up a b c d e f g h = minus a ∷ minus b ∷ minus c ∷ minus d ∷ pos e ∷ pos f ∷ pos g ∷ pos h ∷ []

-- "the sixteen rows of eight alpha steps in `ETC2_ALPHA_MOD_TABLE`"
abbrev pub alpha_steps_lem : List (List ℤ)
alpha_steps_lem =
    down_up 3 6 9 15 2 5 8 14
    ∷ down_up 3 7 10 13 2 6 9 12
    ∷ down_up 2 5 8 13 1 4 7 12
    ∷ down_up 2 4 6 13 1 3 5 12
    ∷ down_up 3 6 8 12 2 5 7 11
    ∷ down_up 3 7 9 11 2 6 8 10
    ∷ down_up 4 7 8 11 3 6 7 10
    ∷ down_up 3 5 8 11 2 4 7 10
    ∷ down_up 2 6 8 10 1 5 7 9
    ∷ down_up 2 5 8 10 1 4 7 9
    ∷ down_up 2 4 8 10 1 3 7 9
    ∷ down_up 2 5 7 10 1 4 6 9
    ∷ down_up 3 4 7 10 2 3 6 9
    ∷ down_up 1 2 3 10 0 1 2 9
    ∷ down_up 4 6 8 9 3 5 7 8
    ∷ down_up 3 5 7 9 2 4 6 8
    ∷ []

-- "Pixel i's three-bit index lies at bits 45 - 3i to 47 - 3i of b2..b7 read big-endian."
abbrev pub index_word_lem : List ℕ → ℕ
index_word_lem d =
    byte d 2 * 2 ^ 40 + byte d 3 * 2 ^ 32 + byte d 4 * 2 ^ 24 + byte d 5 * 2 ^ 16 + byte d 6 * 2 ^ 8 + byte d 7

abbrev pub alpha_index : List ℕ → ℕ → ℕ
alpha_index d i = index_word_lem d / 2 ^ (45 - 3 * i) % 8

-- "b0 is the base, b1's high nibble the multiplier m, its low nibble picks one of the sixteen rows": the step of pixel (x, y)
unfoldable pub alpha_step : List ℕ → ℕ → ℕ → ℤ
alpha_step d x y = get_or (get_or alpha_steps_lem (bits 3 0 (byte d 1)) []) (alpha_index d (4 * x + y)) (pos 0)

-- "A8: clamp(b0 + m * step). With m = 0 this is b0."
unfoldable pub alpha_byte : List ℕ → ℕ → ℕ → ℕ
alpha_byte d x y = clamp 255 (pos (byte d 0) +ℤ pos (bits 7 4 (byte d 1)) *ℤ alpha_step d x y)

-- "The alpha half replaces the top byte of each and keeps the rest."
abbrev pub with_alpha : ℕ → ℕ → ℕ
with_alpha p a = a * 2 ^ 24 + p % 2 ^ 24

-- "In RGBA8 the alpha half is bytes 0 to 7; the colour half begins at byte 8 of the same lent bytes."
unfoldable pub rgba8_pixel : List ℕ → ℕ → ℕ → ℕ
rgba8_pixel d x y = with_alpha (rgb_pixel (drop 8 d) x y) (alpha_byte d x y)

-- "b0 as two's complement", and 02's "The Khronos text has a reader treat -128 as -127.": the signed base, -127 to 127
abbrev pub signed_base : ℕ → ℤ
signed_base b = cond (eqb b 128) (minus 127) (twos 8 b)

-- "EAC unsigned: v = 8 * b0 + 4 + .."; "EAC signed: the same with" the signed base, "and 1023 in place of 4."
abbrev pub centre : Bool → ℕ → ℤ
centre false b = pos 8 *ℤ pos b +ℤ pos 4
centre true b = pos 8 *ℤ signed_base b +ℤ pos 1023

-- ".. + M * step, with M = 8m, or 1 where m = 0"
abbrev pub multiplier : ℕ → ℕ
multiplier m = cond (eqb m 0) 1 (8 * m)

-- "clamped to 0..2047": the whole eleven bits
unfoldable pub eac_value : Bool → List ℕ → ℕ → ℕ → ℕ
eac_value signed d x y = clamp 2047 (centre signed (byte d 0) +ℤ pos (multiplier (bits 7 4 (byte d 1))) *ℤ alpha_step d x y)

-- "the byte is v / 8 rounded down": the last step
unfoldable pub eac_byte : Bool → List ℕ → ℕ → ℕ → ℕ
eac_byte signed d x y = eac_value signed d x y / 8

-- "R writes red, with green and blue 0 and alpha 255;
unfoldable pub red_pixel : Bool → List ℕ → ℕ → ℕ → ℕ
red_pixel signed d x y = word 255 (eac_byte signed d x y) 0 0

-- RG writes red from the first 8 bytes, green from the next 8."
unfoldable pub red_green_pixel : Bool → List ℕ → ℕ → ℕ → ℕ
red_green_pixel signed d x y = word 255 (eac_byte signed d x y) (eac_byte signed (drop 8 d) x y) 0

-- "`decode_eac_block` and its signed twin OR one byte into channel 0 blue, 1 green, 2 red or 3 alpha of what stood there."
abbrev pub or_channel : ℕ → ℕ → ℕ → ℕ
or_channel channel p b = bit_or p (b * 256 ^ channel)
