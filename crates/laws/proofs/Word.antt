-- Every pixel is a word below 2^32, whatever the bytes; and the four bytes of a word are read back from it.
-- Assumes nothing.
use mathlib.Core.Path.{◌≡◌, refl}
use mathlib.Core.Bool.{Bool, true, false, cond}
use mathlib.Core.List.{List, [], ◌∷◌}
use Prim.Native.Nat.{ℕ, zero, suc, ◌+◌, ◌*◌, ◌/◌, ◌%◌, ◌^◌, ◌≤◌, ◌<◌}
use native.Mathlib.Omega.{arith}
use lib.Dec.{lit<, eqb, ltb}
use borrow.Author.Tests.{ltb-false}
use lib.IntN.{ℤ, pos, ◌+ℤ◌, ◌-ℤ◌, ◌*ℤ◌}
use lib.ListN.{get_or, drop}
use Rattle.rules.specs.Notation.{byte, bits, minus, quarter}
use Rattle.rules.specs.Pixel.{word, alpha_of, red_of, green_of, blue_of}
use Rattle.rules.specs.Colour.{individual, differential, shaded, half_colours, differs, index, half, kind_by_sums_lem, kind_of, steps_of, code}
use Rattle.rules.specs.Modes.{t_bases, t_distance, t_colours_lem, h_bases, h_distance, h_colours_lem, planar_channel, planar_pixel_lem, planar_bases_lem, planar_of}
use Rattle.rules.specs.Modes.{is_planar, indexed, clear_steps, etc1_bases, etc1_pixel, rgb_pixel, rgba1_pixel}
use Rattle.rules.specs.Channels.{alpha_byte, alpha_step, rgba8_pixel, centre, multiplier, eac_value, eac_byte, red_pixel, red_green_pixel}
use Rattle.rules.specs.Desktop.{half_word_lem, rgb565, mix, mixture, palette, palette_in_lem, has_four, colour_index, alpha_index_in, bc1_pixel, bc3_alpha, bc3_pixel, bc2_alpha, bc2_pixel, replaced}
use Rattle.rules.specs.Rgtc.{half_byte, bc4_pixel, bc5_pixel}
use Rattle.rules.specs.Bc7.{mode_of, mode_at, block_word, pixel_in, bc7_pixel}
use Rattle.rules.specs.Formats.{shows_of}
use Rattle.rules.specs.declared.Kind.{Kind}
use Rattle.rules.specs.declared.Kind.TheVariants.{Individual, Differential, T, H, Planar}
use Rattle.rules.specs.declared.Format.{Format}
use Rattle.rules.specs.declared.Format.TheVariants.{Etc1, Etc2Rgb, Etc2Rgba1, Etc2Rgba8, EacR, EacRSigned, EacRg, EacRgSigned, Bc1, Bc1Alpha, Bc3, Bc7, Bc2, Bc4, Bc4Signed, Bc5, Bc5Signed}
use Rattle.laws.proofs.Signed.{clamp_le}
use Rattle.laws.proofs.Between.{alphas_small, values_small}
use Rattle.laws.proofs.Shades.{pixel_word}

abbrev pub Word : ℕ → Type 0
Word n = n < 2 ^ 32

-- four bytes make a word
of_bytes : (a r g b : ℕ) → a ≤ 255 → r ≤ 255 → g ≤ 255 → b ≤ 255 → Word (word a r g b)
of_bytes a r g b i j k l = omega arith

-- and the word gives them back
pub read_back : (a r g b : ℕ) → a ≤ 255 → r ≤ 255 → g ≤ 255 → b ≤ 255
    → (alpha_of (word a r g b) ≡ a) × (red_of (word a r g b) ≡ r) × (green_of (word a r g b) ≡ g) × (blue_of (word a r g b) ≡ b)
read_back a r g b i j k l = (omega arith, omega arith, omega arith, omega arith)

-- a base colour with a step
shade : (c : List ℕ) (s : ℤ) → Word (shaded c s)
shade c s = of_bytes 255 _ _ _ (omega arith) (clamp_le 255 (pos (get_or c 0 0) +ℤ s)) (clamp_le 255 (pos (get_or c 1 0) +ℤ s)) (clamp_le 255 (pos (get_or c 2 0) +ℤ s))

-- one of four such colours, or 0
one_of : (a b c d : List ℕ) (s t u v : ℤ) (i : ℕ) → Word (get_or (shaded a s ∷ shaded b t ∷ shaded c u ∷ shaded d v ∷ []) i 0)
one_of a b c d s t u v zero = shade a s
one_of a b c d s t u v (suc zero) = shade b t
one_of a b c d s t u v (suc (suc zero)) = shade c u
one_of a b c d s t u v (suc (suc (suc zero))) = shade d v
one_of a b c d s t u v (suc (suc (suc (suc n)))) = lit< tt

of_half_said : (c steps : List ℕ) (i : ℕ) → Word (get_or (half_colours c steps) i 0)
of_half_said c steps i = one_of c c c c (pos (get_or steps 0 0)) (pos (get_or steps 1 0)) (minus (get_or steps 0 0)) (minus (get_or steps 1 0)) i

of_t : (c : List (List ℕ)) (m i : ℕ) → Word (get_or (t_colours_lem c m) i 0)
of_t c m i = one_of (get_or c 0 []) (get_or c 1 []) (get_or c 1 []) (get_or c 1 []) (pos 0) (pos m) (pos 0) (minus m) i

of_h : (c : List (List ℕ)) (m i : ℕ) → Word (get_or (h_colours_lem c m) i 0)
of_h c m i = one_of (get_or c 0 []) (get_or c 0 []) (get_or c 1 []) (get_or c 1 []) (pos m) (minus m) (pos m) (minus m) i

choice : (t : Bool) (a b : ℕ) → Word a → Word b → Word (cond t a b)
choice true a b h i = h
choice false a b h i = i

channel : (o h v x y : ℕ) → planar_channel o h v x y ≤ 255
unfolding planar_channel
channel o h v x y =
    clamp_le 255 (quarter (pos x *ℤ (pos h -ℤ pos o) +ℤ pos y *ℤ (pos v -ℤ pos o) +ℤ pos (4 * o) +ℤ pos 2))

planar : (c : List (List ℕ)) (x y : ℕ) → Word (planar_pixel_lem c x y)
planar c x y =
    of_bytes 255 (planar_of c 0 x y) (planar_of c 1 x y) (planar_of c 2 x y) (omega arith) (channel _ _ _ x y) (channel _ _ _ x y) (channel _ _ _ x y)

by_index : (steps : ℕ → List ℕ) (k : Kind) (d : List ℕ) (x y : ℕ) → Word (indexed steps k d x y)
unfolding indexed
by_index steps Individual d x y = of_half_said (get_or (individual d) (half d x y) []) (steps (code d (half d x y))) (index d x y)
by_index steps Differential d x y = of_half_said (get_or (differential d) (half d x y) []) (steps (code d (half d x y))) (index d x y)
by_index steps T d x y = of_t (t_bases d) (t_distance d) (index d x y)
by_index steps H d x y = of_h (h_bases d) (h_distance d) (index d x y)
by_index steps Planar d x y = lit< tt

etc1 : (d : List ℕ) (x y : ℕ) → Word (etc1_pixel d x y)
unfolding etc1_pixel
etc1 d x y = of_half_said (get_or (etc1_bases d) (half d x y) []) (steps_of (code d (half d x y))) (index d x y)

rgb : (d : List ℕ) (x y : ℕ) → Word (rgb_pixel d x y)
unfolding rgb_pixel
rgb d x y = choice (is_planar (kind_of d)) _ _ (planar (planar_bases_lem d) x y) (by_index steps_of (kind_of d) d x y)

rgba1 : (d : List ℕ) (x y : ℕ) → Word (rgba1_pixel d x y)
unfolding rgba1_pixel
rgba1 d x y =
    choice (is_planar (kind_by_sums_lem d)) _ _ (planar (planar_bases_lem d) x y)
    (choice (differs d) _ _ (by_index steps_of (kind_by_sums_lem d) d x y)
    (choice (eqb (index d x y) 2) 0 _ (lit< tt) (by_index clear_steps (kind_by_sums_lem d) d x y)))

rgba8 : (d : List ℕ) (x y : ℕ) → Word (rgba8_pixel d x y)
unfolding rgba8_pixel alpha_byte
rgba8 d x y = omega (arith, clamp_le 255 (pos (byte d 0) +ℤ pos (bits 7 4 (byte d 1)) *ℤ alpha_step d x y))

-- the byte of an eleven-bit value
pub eac_byte_lem : (s : Bool) (d : List ℕ) (x y : ℕ) → eac_byte s d x y ≤ 255
unfolding eac_byte eac_value
eac_byte_lem s d x y = omega (arith, clamp_le 2047 (centre s (byte d 0) +ℤ pos (multiplier (bits 7 4 (byte d 1))) *ℤ alpha_step d x y))

red : (s : Bool) (d : List ℕ) (x y : ℕ) → Word (red_pixel s d x y)
unfolding red_pixel
red s d x y = of_bytes 255 (eac_byte s d x y) 0 0 (omega arith) (eac_byte_lem s d x y) (omega arith) (omega arith)

red_green_lem : (s : Bool) (d : List ℕ) (x y : ℕ) → Word (red_green_pixel s d x y)
unfolding red_green_pixel
red_green_lem s d x y =
    of_bytes 255 (eac_byte s d x y) (eac_byte s (drop 8 d) x y) 0 (omega arith) (eac_byte_lem s d x y) (eac_byte_lem s (drop 8 d) x y) (omega arith)

-- one of four words
one_word : (a b c d : ℕ) → Word a → Word b → Word c → Word d → (i : ℕ) → Word (get_or (a ∷ b ∷ c ∷ d ∷ []) i 0)
one_word a b c d p q r s zero = p
one_word a b c d p q r s (suc zero) = q
one_word a b c d p q r s (suc (suc zero)) = r
one_word a b c d p q r s (suc (suc (suc zero))) = s
one_word a b c d p q r s (suc (suc (suc (suc n)))) = lit< tt

-- a colour of 16 bits, and what lies between two of them
rgb_le : (q k : ℕ) → get_or (rgb565 q) k 0 ≤ 255
rgb_le q zero = omega arith
rgb_le q (suc zero) = omega arith
rgb_le q (suc (suc zero)) = omega arith
rgb_le q (suc (suc (suc n))) = omega arith

plain : (q : ℕ) → Word (word 255 (get_or (rgb565 q) 0 0) (get_or (rgb565 q) 1 0) (get_or (rgb565 q) 2 0))
plain q = of_bytes 255 (get_or (rgb565 q) 0 0) (get_or (rgb565 q) 1 0) (get_or (rgb565 q) 2 0) (omega arith) (rgb_le q 0) (rgb_le q 1) (rgb_le q 2)

between : (m n p q : ℕ) → ((a b : ℕ) → a ≤ 255 → b ≤ 255 → mix m n a b ≤ 255) → Word (mixture m n (rgb565 p) (rgb565 q))
between m n p q h =
    let at : (k : ℕ) → mix m n (get_or (rgb565 p) k 0) (get_or (rgb565 q) k 0) ≤ 255 = λ k. h (get_or (rgb565 p) k 0) (get_or (rgb565 q) k 0) (rgb_le p k) (rgb_le q k) in
    of_bytes 255 (mix m n (get_or (rgb565 p) 0 0) (get_or (rgb565 q) 0 0)) (mix m n (get_or (rgb565 p) 1 0) (get_or (rgb565 q) 1 0))
    (mix m n (get_or (rgb565 p) 2 0) (get_or (rgb565 q) 2 0)) (omega arith) (at 0) (at 1) (at 2)

black : (a : Bool) → Word (word (cond a 0 255) 0 0 0)
black true = lit< tt
black false = lit< tt

in_palette : (f a : Bool) (p q i : ℕ) → Word (get_or (palette f a (rgb565 p) (rgb565 q)) i 0)
in_palette true a p q i =
    one_word _ _ _ _ (plain p) (plain q) (between 2 1 p q (λ a b h k. omega arith)) (between 1 2 p q (λ a b h k. omega arith)) i
in_palette false a p q i = one_word _ _ _ _ (plain p) (plain q) (between 1 1 p q (λ a b h k. omega arith)) (black a) i

pub palette_word : (always alpha : Bool) (w i : ℕ) → Word (get_or (palette_in_lem always alpha w) i 0)
palette_word always alpha w i = in_palette (has_four always (bits 15 0 w) (bits 31 16 w)) alpha (bits 15 0 w) (bits 31 16 w) i

bc1 : (always alpha : Bool) (d : List ℕ) (x y : ℕ) → Word (bc1_pixel always alpha d x y)
unfolding bc1_pixel
bc1 always alpha d x y = palette_word always alpha (half_word_lem d) (colour_index (half_word_lem d) (4 * y + x))

replaced_word : (p b : ℕ) → Word p → b < 256 → Word (replaced 3 p b)
replaced_word p b h k = omega arith

bc3 : (d : List ℕ) (x y : ℕ) → Word (bc3_pixel d x y)
unfolding bc3_pixel bc3_alpha
bc3 d x y =
    replaced_word (bc1_pixel true false (drop 8 d) x y) _ (bc1 true false (drop 8 d) x y) (alphas_small (half_word_lem d) (alpha_index_in (half_word_lem d) (4 * y + x)))

-- four bits, widened
pub widened : (n : ℕ) → n % 16 * 17 < 256
widened n = omega arith

bc2 : (d : List ℕ) (x y : ℕ) → Word (bc2_pixel d x y)
unfolding bc2_pixel bc2_alpha
bc2 d x y =
    replaced_word (bc1_pixel true false (drop 8 d) x y) _ (bc1 true false (drop 8 d) x y) (widened (half_word_lem d / 2 ^ (4 * (4 * y + x))))

half_byte_lem : (s : Bool) (d : List ℕ) (x y : ℕ) → half_byte s d x y ≤ 255
unfolding half_byte
half_byte_lem s d x y = omega (arith, values_small s (half_word_lem d) (alpha_index_in (half_word_lem d) (4 * y + x)))

bc4 : (s : Bool) (d : List ℕ) (x y : ℕ) → Word (bc4_pixel s d x y)
unfolding bc4_pixel
bc4 s d x y = of_bytes 255 (half_byte s d x y) 0 0 (omega arith) (half_byte_lem s d x y) (omega arith) (omega arith)

bc5 : (s : Bool) (d : List ℕ) (x y : ℕ) → Word (bc5_pixel s d x y)
unfolding bc5_pixel
bc5 s d x y =
    of_bytes 255 (half_byte s d x y) (half_byte s (drop 8 d) x y) 0 (omega arith) (half_byte_lem s d x y) (half_byte_lem s (drop 8 d) x y) (omega arith)

-- nothing where there is no mode, else a pixel of the mode
of_mode : (t : Bool) (d m i : ℕ) → ltb 7 m ≡ t → Word (cond t 0 (pixel_in d m (mode_at m) i))
of_mode true d m i e = lit< tt
of_mode false d m i e = pixel_word d m (omega (arith, ltb-false 7 m e)) i

bc7 : (d : List ℕ) (x y : ℕ) → Word (bc7_pixel d x y)
unfolding bc7_pixel
bc7 d x y = of_mode (ltb 7 (mode_of (block_word d))) (block_word d) (mode_of (block_word d)) (4 * y + x) refl

-- every pixel of every format
pub word_below : (f : Format) (d : List ℕ) (x y : ℕ) → Word (shows_of f d x y)
unfolding shows_of
word_below Etc1 d x y = etc1 d x y
word_below Etc2Rgb d x y = rgb d x y
word_below Etc2Rgba1 d x y = rgba1 d x y
word_below Etc2Rgba8 d x y = rgba8 d x y
word_below EacR d x y = red false d x y
word_below EacRSigned d x y = red true d x y
word_below EacRg d x y = red_green_lem false d x y
word_below EacRgSigned d x y = red_green_lem true d x y
word_below Bc1 d x y = bc1 false false d x y
word_below Bc1Alpha d x y = bc1 false true d x y
word_below Bc3 d x y = bc3 d x y
word_below Bc7 d x y = bc7 d x y
word_below Bc2 d x y = bc2 d x y
word_below Bc4 d x y = bc4 false d x y
word_below Bc4Signed d x y = bc4 true d x y
word_below Bc5 d x y = bc5 false d x y
word_below Bc5Signed d x y = bc5 true d x y
