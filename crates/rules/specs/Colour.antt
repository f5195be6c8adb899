-- The colour block: its bits, its halves, and the five-bit sums that tell its kind.
-- Assumes nothing.
use Rattle.std.specs.Prelude.{
  Bool,
  true,
  cond,
  ◌&&◌,
  ◌||◌,
  List,
  [],
  ◌∷◌,
  ℕ,
  zero,
  suc,
  ◌+◌,
  ◌*◌,
  ◌/◌,
  eqb,
  ltb,
  ℤ,
  pos,
  negsuc,
  nat_abs,
  ◌+ℤ◌,
  ◌*ℤ◌,
  get_or,
}
use Rattle.rules.specs.Notation.{byte, bit, bits, twos, minus, clamp, modulo}
use Rattle.rules.specs.Pixel.{word}
use Rattle.rules.specs.declared.Kind.{Kind}
use Rattle.rules.specs.declared.Kind.TheVariants.{Individual, Differential, T, H, Planar}

-- "Pixel i = 4x + y (down the columns) has its low index bit at bit i of 256*b6 + b7 and its high bit at bit i of 256*b4 + b5."
abbrev pub low_bit : List ℕ → ℕ → ℕ
low_bit d i = bit i (256 * byte d 6 + byte d 7)

abbrev pub high_bit : List ℕ → ℕ → ℕ
high_bit d i = bit i (256 * byte d 4 + byte d 5)

-- "index (twice the high bit plus the low)"
abbrev pub index : List ℕ → ℕ → ℕ → ℕ
index d x y = 2 * high_bit d (4 * x + y) + low_bit d (4 * x + y)

-- "b3 bit 1 is the difference bit (in RGBA1: the opaque bit ..)"
abbrev pub differs : List ℕ → Bool
differs d = eqb (bit 1 (byte d 3)) 1

-- "b3 bit 0 is flip: 0 puts columns 0, 1 in the first half, 1 puts rows 0, 1 there."
abbrev pub flipped : List ℕ → Bool
flipped d = eqb (bit 0 (byte d 3)) 1

abbrev pub half : List ℕ → ℕ → ℕ → ℕ
half d x y = cond (flipped d) (y / 2) (x / 2)

-- "The codes are b3 bits 7..5 and 4..2."
abbrev pub code : List ℕ → ℕ → ℕ
code d zero = bits 7 5 (byte d 3)
code d (suc h) = bits 4 2 (byte d 3)

-- a rule for a byte, at red, green and blue; and a base colour that is not used
abbrev pub rgb : (ℕ → ℕ) → List ℕ → List ℕ
rgb f d = f (byte d 0) ∷ f (byte d 1) ∷ f (byte d 2) ∷ []

abbrev pub unused : List ℕ
unused = 0 ∷ 0 ∷ 0 ∷ []

-- "Individual: high nibbles of b0, b1, b2 for the first half, low for the second, each times 17."
abbrev pub individual : List ℕ → List (List ℕ)
individual d = rgb (λ b. bits 7 4 b * 17) d ∷ rgb (λ b. bits 3 0 b * 17) d ∷ unused ∷ []

-- "five-bit base B = b/8, step s = the low three bits as two's complement, -4 to 3"
abbrev pub base : ℕ → ℕ
base b = bits 7 3 b

abbrev pub step : ℕ → ℤ
step b = twos 3 (bits 2 0 b)

abbrev pub sum : ℕ → ℤ
sum b = pos (base b) +ℤ step b

-- "If all three sums B + s lie in 0..31"
abbrev pub beyond : ℤ → Bool
beyond (pos n) = ltb 31 n
beyond (negsuc n) = true

-- "a five-bit value v becomes 8v + v/4, rounded down"
abbrev pub five : ℕ → ℕ
five v = 8 * v + v / 4

-- the bases of a differential block, whose sums are in range and so not negative
unfoldable pub differential : List ℕ → List (List ℕ)
differential d = rgb (λ b. five (base b)) d ∷ rgb (λ b. five (nat_abs (sum b))) d ∷ unused ∷ []

-- "ETC1: the sum wraps modulo 256 on the eightfold values (8B + 8s); an eighth of it is a five-bit v, widened as above."
unfoldable pub wrapped : ℕ → ℕ
wrapped b = modulo (pos 8 *ℤ pos (base b) +ℤ pos 8 *ℤ step b) 256 / 8

abbrev pub wrapping : List ℕ → List (List ℕ)
wrapping d = rgb (λ b. five (base b)) d ∷ rgb (λ b. five (wrapped b)) d ∷ unused ∷ []

-- "ETC2, sums out of range: red gives T; else green gives H; else blue gives planar."
abbrev pub by_beyond : Bool → Bool → Bool → Kind
by_beyond red green blue = cond red T (cond green H (cond blue Planar Differential))

unfoldable pub kind_by_sums_lem : List ℕ → Kind
kind_by_sums_lem d = by_beyond (beyond (sum (byte d 0))) (beyond (sum (byte d 1))) (beyond (sum (byte d 2)))

-- the kind of an ETC1 or RGB block; "RGBA1 is always read as if the difference bit were set", so there it is the one above
abbrev pub kind_of : List ℕ → Kind
kind_of d = cond (differs d) (kind_by_sums_lem d) Individual

-- "difference bit set and a red, green or blue five-bit base plus signed step outside 0 to 31" (demand 3)
unfoldable pub out_of_range_lem : List ℕ → Bool
out_of_range_lem d =
    differs d && (beyond (sum (byte d 0)) || (beyond (sum (byte d 1)) || beyond (sum (byte d 2))))

-- `ETC1_MODIFIER_TABLE`
abbrev pub modifiers : List (List ℕ)
modifiers =
    (2 ∷ 8 ∷ [])
    ∷ (5 ∷ 17 ∷ [])
    ∷ (9 ∷ 29 ∷ [])
    ∷ (13 ∷ 42 ∷ [])
    ∷ (18 ∷ 60 ∷ [])
    ∷ (24 ∷ 80 ∷ [])
    ∷ (33 ∷ 106 ∷ [])
    ∷ (47 ∷ 183 ∷ [])
    ∷ []

abbrev pub steps_of : ℕ → List ℕ
steps_of code = get_or modifiers code []

-- a base colour with a step added to each channel, "clamped to 0..255, alpha 255"
abbrev pub shaded : List ℕ → ℤ → ℕ
shaded c s = word 255 (clamp 255 (pos (get_or c 0 0) +ℤ s)) (clamp 255 (pos (get_or c 1 0) +ℤ s)) (clamp 255 (pos (get_or c 2 0) +ℤ s))

-- "A differential or individual pixel adds its step (low bit picks the column, high bit negates)": the four colours of a
-- half, by index
abbrev pub half_colours : List ℕ → List ℕ → List ℕ
half_colours c steps =
    shaded c (pos (get_or steps 0 0))
    ∷ shaded c (pos (get_or steps 1 0))
    ∷ shaded c (minus (get_or steps 0 0))
    ∷ shaded c (minus (get_or steps 1 0))
    ∷ []
