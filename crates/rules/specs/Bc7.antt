-- A BC7 block (M-108 of document 02): one record for each of the eight modes, where its fields lie, and what the sixteen pixels are.
-- Assumes nothing.
use Rattle.std.specs.Prelude.{cond, List, [], ◌∷◌, ℕ, zero, suc, ◌+◌, ◌-◌, ◌*◌, ◌/◌, ◌%◌, ◌^◌, ltb, eqb, get_or}
use Rattle.numbers.specs.Numbers.{little}
use Rattle.rules.specs.Pixel.{word}
use Rattle.rules.specs.Bits.{field}
use Rattle.rules.specs.Bptc.{weights_of, subset, anchor}
use Rattle.rules.specs.declared.Mode.{Mode}

-- the table of modes: subsets, bits of partition, rotation, index selection, colour and alpha, p-bits of each endpoint and
-- of both of a subset, bits of an index and of a second one
unfoldable pub mode_table : List (List ℕ)
mode_table =
    (3 ∷ 4 ∷ 0 ∷ 0 ∷ 4 ∷ 0 ∷ 1 ∷ 0 ∷ 3 ∷ 0 ∷ []) ∷
    (2 ∷ 6 ∷ 0 ∷ 0 ∷ 6 ∷ 0 ∷ 0 ∷ 1 ∷ 3 ∷ 0 ∷ []) ∷
    (3 ∷ 6 ∷ 0 ∷ 0 ∷ 5 ∷ 0 ∷ 0 ∷ 0 ∷ 2 ∷ 0 ∷ []) ∷
    (2 ∷ 6 ∷ 0 ∷ 0 ∷ 7 ∷ 0 ∷ 1 ∷ 0 ∷ 2 ∷ 0 ∷ []) ∷
    (1 ∷ 0 ∷ 2 ∷ 1 ∷ 5 ∷ 6 ∷ 0 ∷ 0 ∷ 2 ∷ 3 ∷ []) ∷
    (1 ∷ 0 ∷ 2 ∷ 0 ∷ 7 ∷ 8 ∷ 0 ∷ 0 ∷ 2 ∷ 2 ∷ []) ∷
    (1 ∷ 0 ∷ 0 ∷ 0 ∷ 7 ∷ 7 ∷ 1 ∷ 0 ∷ 4 ∷ 0 ∷ []) ∷
    (2 ∷ 6 ∷ 0 ∷ 0 ∷ 5 ∷ 5 ∷ 1 ∷ 0 ∷ 2 ∷ 0 ∷ []) ∷ []

abbrev pub row_of : List ℕ → Mode
row_of r =
    record {
      subsets = get_or r 0 0;
      partition = get_or r 1 0;
      rotation = get_or r 2 0;
      selection = get_or r 3 0;
      colour = get_or r 4 0;
      alpha = get_or r 5 0;
      own = get_or r 6 0;
      shared = get_or r 7 0;
      index = get_or r 8 0;
      second = get_or r 9 0;
    }

abbrev pub mode_at : ℕ → Mode
mode_at m = row_of (get_or mode_table m [])

-- how many bits 0 stand below the lowest bit 1 of a byte; 8 where there is none
unfoldable pub lowest : ℕ → ℕ → ℕ → ℕ
lowest zero b p = p
lowest (suc n) b p = cond (eqb (b / 2 ^ p % 2) 1) p (lowest n b (suc p))

-- the mode of a block, of which the first byte tells it: the block is a number here, and its first byte is lowest
abbrev pub mode_of : ℕ → ℕ
mode_of w = lowest 8 (w % 256) 0

-- where the fields of a row begin, after the m + 1 bits of the mode m
module _ (m : ℕ) (k : Mode) where
  abbrev pub rotation_place : ℕ
  rotation_place = m + 1 + k.partition

  abbrev pub selection_place : ℕ
  selection_place = rotation_place + k.rotation

  abbrev pub colour_place : ℕ
  colour_place = selection_place + k.selection

  abbrev pub alpha_place : ℕ
  alpha_place = colour_place + 6 * k.subsets * k.colour

  abbrev pub p_place : ℕ
  p_place = alpha_place + 2 * k.subsets * k.alpha

  -- one p-bit, or none, under each endpoint: one for each, or one for both of a subset
  abbrev pub p_bits : ℕ
  p_bits = k.own + k.shared

  abbrev pub p_count_lem : ℕ
  p_count_lem = cond (eqb k.shared 0) (2 * k.subsets) k.subsets

  abbrev pub index_place : ℕ
  index_place = p_place + p_count_lem * p_bits

  abbrev pub second_place : ℕ
  second_place = index_place + (16 * k.index - k.subsets)

  abbrev pub end_place : ℕ
  end_place = second_place + cond (eqb k.second 0) 0 (16 * k.second - k.subsets)

-- 1 where pixel i is the anchor of its subset, else 0
abbrev pub is_anchor : ℕ → ℕ → ℕ → ℕ
is_anchor n p i = cond (eqb (anchor n p (subset n p i)) i) 1 0

-- an index of b bits has one less at an anchor, and the indices follow one another
abbrev pub index_bits : ℕ → ℕ → ℕ → ℕ → ℕ
index_bits b n p i = b - is_anchor n p i

unfoldable pub bits_before : ℕ → ℕ → ℕ → ℕ → ℕ
bits_before b n p zero = 0
bits_before b n p (suc i) = bits_before b n p i + index_bits b n p i

-- w bits made eight, by repeating the highest
abbrev pub expand : ℕ → ℕ → ℕ
expand w v = v * 2 ^ (8 - w) + v * 2 ^ (8 - w) / 2 ^ w

-- between a and b, by a weight of 64
abbrev pub blend : ℕ → ℕ → ℕ → ℕ
blend a b w = (a * (64 - w) + b * w + 32) / 64

-- the rotation changes alpha about with red, green or blue
abbrev pub rotated : ℕ → ℕ → ℕ → ℕ → ℕ → ℕ
rotated t a r g b =
    cond (eqb t 1) (word r a g b) (cond (eqb t 2) (word g r a b) (cond (eqb t 3) (word b r g a) (word a r g b)))

-- the pixels of a block, the number d, of mode m with the row k
module _ (d m : ℕ) (k : Mode) where
  abbrev pub partition_of : ℕ
  partition_of = field d (m + 1) k.partition

  abbrev pub p_of : ℕ → ℕ
  p_of e = field d (p_place m k + cond (eqb k.shared 0) e (e / 2) * p_bits m k) (p_bits m k)

  -- endpoint e of channel c, red, green or blue, and of alpha
  abbrev pub colour_end : ℕ → ℕ → ℕ
  colour_end c e =
      expand (k.colour + p_bits m k)
      (field d (colour_place m k + (c * (2 * k.subsets) + e) * k.colour) k.colour * 2 ^ p_bits m k + p_of e)

  abbrev pub alpha_end : ℕ → ℕ
  alpha_end e =
      cond (eqb k.alpha 0) 255
      (expand (k.alpha + p_bits m k) (field d (alpha_place m k + e * k.alpha) k.alpha * 2 ^ p_bits m k + p_of e))

  abbrev pub subset_of : ℕ → ℕ
  subset_of i = subset k.subsets partition_of i

  -- the weight of pixel i by an index of b bits, the first of which stands at a place
  abbrev pub weight_at : ℕ → ℕ → ℕ → ℕ
  weight_at place b i =
      get_or (weights_of b) (field d (place + bits_before b k.subsets partition_of i) (index_bits b k.subsets partition_of i)) 0

  abbrev pub first_weight : ℕ → ℕ
  first_weight i = weight_at (index_place m k) k.index i

  abbrev pub second_weight : ℕ → ℕ
  second_weight i = cond (eqb k.second 0) (first_weight i) (weight_at (second_place m k) k.second i)

  -- the index selection changes the two about
  abbrev pub selected : ℕ
  selected = field d (selection_place m k) k.selection

  abbrev pub colour_weight : ℕ → ℕ
  colour_weight i = cond (eqb selected 0) (first_weight i) (second_weight i)

  abbrev pub alpha_weight : ℕ → ℕ
  alpha_weight i = cond (eqb selected 0) (second_weight i) (first_weight i)

  abbrev pub colour_at : ℕ → ℕ → ℕ
  colour_at c i = blend (colour_end c (2 * subset_of i)) (colour_end c (2 * subset_of i + 1)) (colour_weight i)

  abbrev pub alpha_at : ℕ → ℕ
  alpha_at i = blend (alpha_end (2 * subset_of i)) (alpha_end (2 * subset_of i + 1)) (alpha_weight i)

  unfoldable pub pixel_in : ℕ → ℕ
  pixel_in i =
      rotated (field d (rotation_place m k) k.rotation) (alpha_at i) (colour_at 0 i) (colour_at 1 i) (colour_at 2 i)

-- pixel i, row by row: "A block whose first byte is 0 has no mode and gives sixteen pixels of 0."
abbrev pub pixel_of : ℕ → ℕ → ℕ
pixel_of w i = cond (ltb 7 (mode_of w)) 0 (pixel_in w (mode_of w) (mode_at (mode_of w)) i)

-- the sixteen bytes of a block as one number
abbrev pub block_word : List ℕ → ℕ
block_word d = little 16 0 d

unfoldable pub bc7_pixel : List ℕ → ℕ → ℕ → ℕ
bc7_pixel d x y = pixel_of (block_word d) (4 * y + x)
