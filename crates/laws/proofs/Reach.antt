-- How far a rule for pixels reads: the bytes of its block, and none behind them.
-- Assumes nothing.
use mathlib.Core.Path.{◌≡◌, ◌∙◌, refl, sym, ap}
use mathlib.Core.Bool.{Bool, true, false, cond}
use mathlib.Core.List.{List, []}
use Prim.Native.Nat.{ℕ, zero, suc, ◌+◌, ◌*◌, ◌/◌, ◌%◌, ◌^◌, ◌<◌, ◌≤◌}
use native.Mathlib.Omega.{arith}
use lib.Dec.{eqb}
use lib.ListN.{get_or, take, drop}
use lib.Seq.{get_or-take, get_or-drop}
use Rattle.rules.specs.Notation.{byte, build}
use Rattle.rules.specs.Pixel.{Shows, word}
use Rattle.rules.specs.Colour.{index, half, code, differs, individual, differential, kind_by_sums_lem, kind_of, steps_of, half_colours}
use Rattle.rules.specs.Modes.{
  t_bases,
  t_distance,
  t_colours_lem,
  h_bases,
  h_distance,
  h_colours_lem,
  planar_bases_lem,
  planar_pixel_lem,
  colours_of_lem,
  is_planar,
  indexed,
  clear_steps,
  etc1_bases,
  etc1_pixel,
  rgb_pixel,
  rgba1_pixel,
}
use Rattle.rules.specs.Channels.{with_alpha, alpha_step, alpha_byte, rgba8_pixel, eac_value, eac_byte, red_pixel, red_green_pixel}
use Rattle.numbers.specs.Numbers.{little}
use Rattle.numbers.proofs.Little.{inside}
use Rattle.rules.specs.Desktop.{
  half_word_lem,
  palette_in_lem,
  colour_index,
  alphas_in_lem,
  alpha_index_in,
  bc1_pixel,
  bc3_alpha,
  bc3_pixel,
  bc2_alpha,
  bc2_pixel,
  replaced,
}
use Rattle.rules.specs.Rgtc.{values_in_lem, half_byte, bc4_pixel, bc5_pixel}
use Rattle.rules.specs.Bc7.{pixel_of, bc7_pixel}
use Rattle.rules.specs.Formats.{size_of, shows_of}
use Rattle.rules.specs.declared.Kind.{Kind}
use Rattle.rules.specs.declared.Kind.TheVariants.{Individual, Differential, T, H, Planar}
use Rattle.rules.specs.declared.Format.{Format}
use Rattle.rules.specs.declared.Format.TheVariants.{
  Etc1,
  Etc2Rgb,
  Etc2Rgba1,
  Etc2Rgba8,
  EacR,
  EacRSigned,
  EacRg,
  EacRgSigned,
  Bc1,
  Bc1Alpha,
  Bc3,
  Bc7,
  Bc2,
  Bc4,
  Bc4Signed,
  Bc5,
  Bc5Signed,
}
use Rattle.laws.proofs.Filled.{build_same}

-- the first eight bytes of a list
abbrev eight : List ℕ → List ℕ
eight d = build 8 (byte d)

-- a rule for pixels that goes by them
Narrow : Shows → Type 0
Narrow rule = (d : List ℕ) (x y : ℕ) → rule d x y ≡ rule (eight d) x y

module _ (rule : Shows) (own : Narrow rule) where
  agree : (d e : List ℕ) → ((k : ℕ) → k < 8 → byte d k ≡ byte e k) → (x y : ℕ) → rule d x y ≡ rule e x y
  unfolding Narrow
  agree d e h x y =
      own d x y ∙ ap (λ (l : List ℕ). rule l x y) (build_same 0 (byte d) (byte e) 8 h) ∙ sym (own e x y)

  -- so no byte behind the first eight, or more, is read
  first : (n : ℕ) → 8 ≤ n → (d : List ℕ) (x y : ℕ) → rule d x y ≡ rule (take n d) x y
  first n h d = agree d (take n d) (λ k i. sym (get_or-take n d k 0 (omega arith)))

  -- nor behind the sixteenth, where the rule is for the second half
  second : (d : List ℕ) (x y : ℕ) → rule (drop 8 d) x y ≡ rule (drop 8 (take 16 d)) x y
  second d =
      agree (drop 8 d) (drop 8 (take 16 d))
      (λ k i. get_or-drop 8 d k 0 ∙ sym (get_or-take 16 d (8 + k) 0 (omega arith)) ∙ sym (get_or-drop 8 (take 16 d) k 0))

-- the fields of a colour block, one by one
codes : (d : List ℕ) (h : ℕ) → code d h ≡ code (eight d) h
codes d zero = refl
codes d (suc h) = refl

kinds : (d : List ℕ) → kind_by_sums_lem d ≡ kind_by_sums_lem (eight d)
unfolding kind_by_sums_lem
kinds d = refl

differentials : (d : List ℕ) → differential d ≡ differential (eight d)
unfolding differential
differentials d = refl

t_bases_lem : (d : List ℕ) → t_bases d ≡ t_bases (eight d)
unfolding t_bases
t_bases_lem d = refl

t_distance_lem : (d : List ℕ) → t_distance d ≡ t_distance (eight d)
unfolding t_distance
t_distance_lem d = refl

h_bases_lem : (d : List ℕ) → h_bases d ≡ h_bases (eight d)
unfolding h_bases
h_bases_lem d = refl

h_distance_lem : (d : List ℕ) → h_distance d ≡ h_distance (eight d)
unfolding h_distance
h_distance_lem d = rw (h_bases_lem d)

planar : (d : List ℕ) → planar_bases_lem d ≡ planar_bases_lem (eight d)
unfolding planar_bases_lem
planar d = refl

colours : (steps : ℕ → List ℕ) (k : Kind) (d : List ℕ) (h : ℕ) → colours_of_lem steps k d h ≡ colours_of_lem steps k (eight d) h
colours steps Individual d h = ap (λ (c : ℕ). half_colours (get_or (individual d) h []) (steps c)) (codes d h)
colours steps Differential d h =
    ap (λ (b : List (List ℕ)). half_colours (get_or b h []) (steps (code d h))) (differentials d)
    ∙ ap (λ (c : ℕ). half_colours (get_or (differential (eight d)) h []) (steps c)) (codes d h)
colours steps T d h =
    ap (λ (b : List (List ℕ)). t_colours_lem b (t_distance d)) (t_bases_lem d) ∙ ap (t_colours_lem (t_bases (eight d))) (t_distance_lem d)
colours steps H d h =
    ap (λ (b : List (List ℕ)). h_colours_lem b (h_distance d)) (h_bases_lem d) ∙ ap (h_colours_lem (h_bases (eight d))) (h_distance_lem d)
colours steps Planar d h = refl

by_index : (steps : ℕ → List ℕ) (k : Kind) → Narrow (indexed steps k)
unfolding Narrow indexed
by_index steps k d x y = ap (λ (l : List ℕ). get_or l (index d x y) 0) (colours steps k d (half d x y))

etc1 : Narrow etc1_pixel
unfolding Narrow etc1_pixel
etc1 d x y =
    ap (λ (c : ℕ). get_or (half_colours (get_or (etc1_bases d) (half d x y) []) (steps_of c)) (index d x y) 0) (codes d (half d x y))

-- planar, or by index
either : (k m : Kind) (b c : List (List ℕ)) (v w x y : ℕ) → k ≡ m → b ≡ c → v ≡ w
    → cond (is_planar k) (planar_pixel_lem b x y) v ≡ cond (is_planar m) (planar_pixel_lem c x y) w
either k m b c v w x y p q r =
    ap (λ (k : Kind). cond (is_planar k) (planar_pixel_lem b x y) v) p
    ∙ ap (λ (b : List (List ℕ)). cond (is_planar m) (planar_pixel_lem b x y) v) q
    ∙ ap (λ (v : ℕ). cond (is_planar m) (planar_pixel_lem c x y) v) r

indexed_too : (steps : ℕ → List ℕ) (k m : Kind) (d : List ℕ) (x y : ℕ) → k ≡ m → indexed steps k d x y ≡ indexed steps m (eight d) x y
unfolding Narrow
indexed_too steps k m d x y p = ap (λ (k : Kind). indexed steps k d x y) p ∙ by_index steps m d x y

rgb : Narrow rgb_pixel
unfolding Narrow rgb_pixel
rgb d x y =
    let k : kind_of d ≡ kind_of (eight d) = ap (λ (k : Kind). cond (differs d) k Individual) (kinds d) in
    either _ _ _ _ _ _ x y k (planar d) (indexed_too steps_of (kind_of d) (kind_of (eight d)) d x y k)

rgba1 : Narrow rgba1_pixel
unfolding Narrow rgba1_pixel
rgba1 d x y =
    let k = kinds d in
    either _ _ _ _ _ _ x y k (planar d)
    (opaque_or_not (differs d) (eqb (index d x y) 2) _ _ _ _ (indexed_too steps_of _ _ d x y k) (indexed_too clear_steps _ _ d x y k))
  where
    opaque_or_not : (s t : Bool) (v w a b : ℕ) → v ≡ w → a ≡ b → cond s v (cond t 0 a) ≡ cond s w (cond t 0 b)
    opaque_or_not s t v w a b p q =
        ap (λ (v : ℕ). cond s v (cond t 0 a)) p ∙ ap (λ (a : ℕ). cond s w (cond t 0 a)) q

alpha : Narrow alpha_byte
unfolding Narrow alpha_byte alpha_step
alpha d x y = refl

eac : (signed : Bool) → Narrow (eac_byte signed)
unfolding Narrow eac_byte eac_value alpha_step
eac signed d x y = refl

-- the bytes of an alpha half and of a channel
pub alpha_reads_eight : (d : List ℕ) (x y : ℕ) → alpha_byte d x y ≡ alpha_byte (take 8 d) x y
alpha_reads_eight = first alpha_byte alpha 8 (omega arith)

pub channel_reads_eight : (signed : Bool) (d : List ℕ) (x y : ℕ) → eac_byte signed d x y ≡ eac_byte signed (take 8 d) x y
channel_reads_eight signed = first (eac_byte signed) (eac signed) 8 (omega arith)

red : (signed : Bool) (d : List ℕ) (x y : ℕ) → red_pixel signed d x y ≡ red_pixel signed (take 8 d) x y
unfolding red_pixel
red signed d x y = ap (λ (r : ℕ). word 255 r 0 0) (channel_reads_eight signed d x y)

red_green_lem : (signed : Bool) (d : List ℕ) (x y : ℕ) → red_green_pixel signed d x y ≡ red_green_pixel signed (take 16 d) x y
unfolding red_green_pixel
red_green_lem signed d x y =
    ap (λ (r : ℕ). word 255 r (eac_byte signed (drop 8 d) x y) 0) (first (eac_byte signed) (eac signed) 16 (omega arith) d x y)
    ∙ ap (λ (g : ℕ). word 255 (eac_byte signed (take 16 d) x y) g 0) (second (eac_byte signed) (eac signed) d x y)

rgba8 : (d : List ℕ) (x y : ℕ) → rgba8_pixel d x y ≡ rgba8_pixel (take 16 d) x y
unfolding rgba8_pixel
rgba8 d x y =
    ap (λ (p : ℕ). with_alpha p (alpha_byte d x y)) (second rgb_pixel rgb d x y)
    ∙ ap (λ (a : ℕ). with_alpha (rgb_pixel (drop 8 (take 16 d)) x y) a) (first alpha_byte alpha 16 (omega arith) d x y)

-- the halves of BC1 to BC5, by the number that their eight bytes make
half_word_said : (d : List ℕ) → half_word_lem d ≡ half_word_lem (eight d)
unfolding little
half_word_said d = refl

bc1 : (always alpha : Bool) → Narrow (bc1_pixel always alpha)
unfolding Narrow bc1_pixel
bc1 always alpha d x y =
    ap (λ (w : ℕ). get_or (palette_in_lem always alpha w) (colour_index w (4 * y + x)) 0) (half_word_said d)

bc3_alpha_lem : Narrow bc3_alpha
unfolding Narrow bc3_alpha
bc3_alpha_lem d x y = ap (λ (w : ℕ). get_or (alphas_in_lem w) (alpha_index_in w (4 * y + x)) 0) (half_word_said d)

pub bc3_alpha_reads_eight : (d : List ℕ) (x y : ℕ) → bc3_alpha d x y ≡ bc3_alpha (take 8 d) x y
bc3_alpha_reads_eight = first bc3_alpha bc3_alpha_lem 8 (omega arith)

bc3 : (d : List ℕ) (x y : ℕ) → bc3_pixel d x y ≡ bc3_pixel (take 16 d) x y
unfolding bc3_pixel
bc3 d x y =
    ap (λ (p : ℕ). replaced 3 p (bc3_alpha d x y)) (second (bc1_pixel true false) (bc1 true false) d x y)
    ∙ ap (λ (a : ℕ). replaced 3 (bc1_pixel true false (drop 8 (take 16 d)) x y) a) (first bc3_alpha bc3_alpha_lem 16 (omega arith) d x y)

bc2_alpha_lem : Narrow bc2_alpha
unfolding Narrow bc2_alpha
bc2_alpha_lem d x y = ap (λ (w : ℕ). w / 2 ^ (4 * (4 * y + x)) % 16 * 17) (half_word_said d)

bc2 : (d : List ℕ) (x y : ℕ) → bc2_pixel d x y ≡ bc2_pixel (take 16 d) x y
unfolding bc2_pixel
bc2 d x y =
    ap (λ (p : ℕ). replaced 3 p (bc2_alpha d x y)) (second (bc1_pixel true false) (bc1 true false) d x y)
    ∙ ap (λ (a : ℕ). replaced 3 (bc1_pixel true false (drop 8 (take 16 d)) x y) a) (first bc2_alpha bc2_alpha_lem 16 (omega arith) d x y)

half_byte_lem : (signed : Bool) → Narrow (half_byte signed)
unfolding Narrow half_byte
half_byte_lem signed d x y = ap (λ (w : ℕ). get_or (values_in_lem signed w) (alpha_index_in w (4 * y + x)) 0) (half_word_said d)

bc4 : (signed : Bool) (d : List ℕ) (x y : ℕ) → bc4_pixel signed d x y ≡ bc4_pixel signed (take 8 d) x y
unfolding bc4_pixel
bc4 signed d x y = ap (λ (r : ℕ). word 255 r 0 0) (first (half_byte signed) (half_byte_lem signed) 8 (omega arith) d x y)

bc5 : (signed : Bool) (d : List ℕ) (x y : ℕ) → bc5_pixel signed d x y ≡ bc5_pixel signed (take 16 d) x y
unfolding bc5_pixel
bc5 signed d x y =
    ap (λ (r : ℕ). word 255 r (half_byte signed (drop 8 d) x y) 0) (first (half_byte signed) (half_byte_lem signed) 16 (omega arith) d x y)
    ∙ ap (λ (g : ℕ). word 255 (half_byte signed (take 16 d) x y) g 0) (second (half_byte signed) (half_byte_lem signed) d x y)

-- BC7 goes by the number that its sixteen bytes make
bc7 : (d : List ℕ) (x y : ℕ) → bc7_pixel d x y ≡ bc7_pixel (take 16 d) x y
unfolding bc7_pixel
bc7 d x y = ap (λ (w : ℕ). pixel_of w (4 * y + x)) (sym (inside 16 0 16 d (omega arith)))

-- every format reads the bytes of its block alone
pub reads_its_block : (f : Format) (d : List ℕ) (x y : ℕ) → shows_of f d x y ≡ shows_of f (take (size_of f) d) x y
unfolding shows_of size_of
reads_its_block Etc1 d x y = first etc1_pixel etc1 8 (omega arith) d x y
reads_its_block Etc2Rgb d x y = first rgb_pixel rgb 8 (omega arith) d x y
reads_its_block Etc2Rgba1 d x y = first rgba1_pixel rgba1 8 (omega arith) d x y
reads_its_block Etc2Rgba8 d x y = rgba8 d x y
reads_its_block EacR d x y = red false d x y
reads_its_block EacRSigned d x y = red true d x y
reads_its_block EacRg d x y = red_green_lem false d x y
reads_its_block EacRgSigned d x y = red_green_lem true d x y
reads_its_block Bc1 d x y = first (bc1_pixel false false) (bc1 false false) 8 (omega arith) d x y
reads_its_block Bc1Alpha d x y = first (bc1_pixel false true) (bc1 false true) 8 (omega arith) d x y
reads_its_block Bc3 d x y = bc3 d x y
reads_its_block Bc7 d x y = bc7 d x y
reads_its_block Bc2 d x y = bc2 d x y
reads_its_block Bc4 d x y = bc4 false d x y
reads_its_block Bc4Signed d x y = bc4 true d x y
reads_its_block Bc5 d x y = bc5 false d x y
reads_its_block Bc5Signed d x y = bc5 true d x y

-- and has at least one
pub some_bytes : (f : Format) → 0 < size_of f
unfolding size_of
some_bytes Etc1 = omega arith
some_bytes Etc2Rgb = omega arith
some_bytes Etc2Rgba1 = omega arith
some_bytes Etc2Rgba8 = omega arith
some_bytes EacR = omega arith
some_bytes EacRSigned = omega arith
some_bytes EacRg = omega arith
some_bytes EacRgSigned = omega arith
some_bytes Bc1 = omega arith
some_bytes Bc1Alpha = omega arith
some_bytes Bc3 = omega arith
some_bytes Bc7 = omega arith
some_bytes Bc2 = omega arith
some_bytes Bc4 = omega arith
some_bytes Bc4Signed = omega arith
some_bytes Bc5 = omega arith
some_bytes Bc5Signed = omega arith

-- and at most 16
pub few_bytes : (f : Format) → size_of f ≤ 16
unfolding size_of
few_bytes Etc1 = omega arith
few_bytes Etc2Rgb = omega arith
few_bytes Etc2Rgba1 = omega arith
few_bytes Etc2Rgba8 = omega arith
few_bytes EacR = omega arith
few_bytes EacRSigned = omega arith
few_bytes EacRg = omega arith
few_bytes EacRgSigned = omega arith
few_bytes Bc1 = omega arith
few_bytes Bc1Alpha = omega arith
few_bytes Bc3 = omega arith
few_bytes Bc7 = omega arith
few_bytes Bc2 = omega arith
few_bytes Bc4 = omega arith
few_bytes Bc4Signed = omega arith
few_bytes Bc5 = omega arith
few_bytes Bc5Signed = omega arith
