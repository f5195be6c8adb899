-- What M-106 of document 02 claims of BC1 and BC3. Its own sentences stand in quotes above the theorems that they become. Placement,
-- refusals and the own tile are those of Pictures.antt and Blocks.antt, which speak of any format.
-- Assumes nothing.
use mathlib.Core.Path.{◌≡◌, ◌∙◌, refl, ap}
use mathlib.Core.Bool.{Bool, true, false}
use mathlib.Core.List.{List, [], ◌∷◌}
use mathlib.Core.Logic.{◌⊎◌, inl, inr}
use Prim.Native.Nat.{ℕ, zero, suc, ◌+◌, ◌*◌, ◌/◌, ◌%◌, ◌^◌, ◌<◌, ◌≤◌}
use native.Mathlib.Nat.{div-add-mod', mod-lt}
use native.Mathlib.Omega.{arith}
use borrow.Author.Tests.{lt-ltb}
use lib.ListN.{get_or, drop}
use Rattle.rules.specs.Notation.{bits}
use Rattle.rules.specs.Pixel.{word, alpha_of}
use Rattle.rules.specs.Answers.{said, left}
use Rattle.rules.specs.Desktop.{half_word_lem, rgb565, mix, opaque, mixture, palette, has_four, colour_index, bc1_pixel, bc3_alpha, bc3_pixel, replaced}
use Rattle.rules.specs.Readers.{channel_verdict, replaced_painted, ReplacesChannel}
use Rattle.rules.specs.Answers.{Answer}

-- "Divisions by 2, 3, 5 and 7 round down": a mixture is the whole part of the exact fraction (m * a + n * b) / (m + n)
pub a_mixture_is_no_more_than_the_fraction : (m n a b : ℕ) → mix m n a b * (m + n) ≤ m * a + n * b
a_mixture_is_no_more_than_the_fraction m n a b = omega (arith, div-add-mod' (m * a + n * b) (m + n))

pub and_less_than_one_below_it : (m n a b : ℕ) → 0 < m + n → m * a + n * b < mix m n a b * (m + n) + (m + n)
and_less_than_one_below_it m n a b h =
    omega (arith, div-add-mod' (m * a + n * b) (m + n), mod-lt (m * a + n * b) h)

-- "In BC3 .. the public rule, always four colours, decides": its colours are those of the rule for four, whatever their order
pub bc3_has_four_colours_always : (d : List ℕ) (x y : ℕ)
    → bc3_pixel d x y
    ≡ replaced 3
    (get_or (palette true false (rgb565 (bits 15 0 (half_word_lem (drop 8 d)))) (rgb565 (bits 31 16 (half_word_lem (drop 8 d))))) (colour_index (half_word_lem (drop 8 d)) (4 * y + x)) 0)
    (bc3_alpha d x y)
unfolding bc3_pixel bc1_pixel
bc3_has_four_colours_always d x y = refl

-- a picture of BC1 is opaque where no alpha is read
top : (a b c d : ℕ) → alpha_of a ≡ 255 → alpha_of b ≡ 255 → alpha_of c ≡ 255 → alpha_of d ≡ 255 → (i : ℕ) → i < 4 → alpha_of (get_or (a ∷ b ∷ c ∷ d ∷ []) i 0) ≡ 255
top a b c d p q r s zero h = p
top a b c d p q r s (suc zero) h = q
top a b c d p q r s (suc (suc zero)) h = r
top a b c d p q r s (suc (suc (suc zero))) h = s
top a b c d p q r s (suc (suc (suc (suc i)))) h = absurd (omega arith)

five_six : (q k : ℕ) → get_or (rgb565 q) k 0 < 256
five_six q zero = omega arith
five_six q (suc zero) = omega arith
five_six q (suc (suc zero)) = omega arith
five_six q (suc (suc (suc k))) = omega arith

full : (r g b : ℕ) → r < 256 → g < 256 → b < 256 → alpha_of (word 255 r g b) ≡ 255
full r g b h i j = omega arith

one : (p : ℕ) → alpha_of (opaque (rgb565 p)) ≡ 255
one p = full _ _ _ (five_six p 0) (five_six p 1) (five_six p 2)

module _ (m n : ℕ) (small : (a b : ℕ) → a < 256 → b < 256 → mix m n a b < 256) (p q : ℕ) where
  two : alpha_of (mixture m n (rgb565 p) (rgb565 q)) ≡ 255
  two =
      full _ _ _ (small _ _ (five_six p 0) (five_six q 0)) (small _ _ (five_six p 1) (five_six q 1)) (small _ _ (five_six p 2) (five_six q 2))

opaque_palette : (f : Bool) (p q i : ℕ) → i < 4 → alpha_of (get_or (palette f false (rgb565 p) (rgb565 q)) i 0) ≡ 255
opaque_palette true p q i h =
    top _ _ _ _ (one p) (one q) (two 2 1 (λ a b h k. omega arith) p q) (two 1 2 (λ a b h k. omega arith) p q) i h
opaque_palette false p q i h = top _ _ _ _ (one p) (one q) (two 1 1 (λ a b h k. omega arith) p q) refl i h

pub bc1_without_alpha_is_opaque : (d : List ℕ) (x y : ℕ) → alpha_of (bc1_pixel false false d x y) ≡ 255
unfolding bc1_pixel
bc1_without_alpha_is_opaque d x y =
    opaque_palette (has_four false (bits 15 0 (half_word_lem d)) (bits 31 16 (half_word_lem d))) (bits 15 0 (half_word_lem d)) (bits 31 16 (half_word_lem d))
    (colour_index (half_word_lem d) (4 * y + x))
    (omega arith)

-- "BC1 (opaque and one-bit alpha)": with alpha a pixel is the same, or it is black without it and then nothing
same_or_nothing : (f : Bool) (a b : List ℕ) (i : ℕ)
    → (get_or (palette f true a b) i 0 ≡ get_or (palette f false a b) i 0)
    ⊎ ((get_or (palette f true a b) i 0 ≡ 0) × (get_or (palette f false a b) i 0 ≡ 0xFF000000))
same_or_nothing true a b i = inl refl
same_or_nothing false a b zero = inl refl
same_or_nothing false a b (suc zero) = inl refl
same_or_nothing false a b (suc (suc zero)) = inl refl
same_or_nothing false a b (suc (suc (suc zero))) = inr (refl, refl)
same_or_nothing false a b (suc (suc (suc (suc i)))) = inl refl

pub one_bit_of_alpha : (d : List ℕ) (x y : ℕ)
    → (bc1_pixel false true d x y ≡ bc1_pixel false false d x y)
    ⊎ ((bc1_pixel false true d x y ≡ 0) × (bc1_pixel false false d x y ≡ 0xFF000000))
unfolding bc1_pixel
one_bit_of_alpha d x y =
    same_or_nothing (has_four false (bits 15 0 (half_word_lem d)) (bits 31 16 (half_word_lem d))) (rgb565 (bits 15 0 (half_word_lem d)))
    (rgb565 (bits 31 16 (half_word_lem d)))
    (colour_index (half_word_lem d) (4 * y + x))

-- `decode_bc3_alpha`: it "refuses a channel above 3 with 5", whatever else is lent, and changes nothing
pub a_channel_above_3_is_refused_with_5 : (d image : List ℕ) (channel : ℕ) (a : Answer) (new : List ℕ) → 3 < channel → ReplacesChannel d channel image a new → (said a ≡ 5 ∷ []) × (new ≡ image)
a_channel_above_3_is_refused_with_5 d image channel a new h p =
    let e : channel_verdict channel d image ≡ 5 ∷ [] = rw (lt-ltb 3 channel h) in
    (p.says ∙ e, p.leaves ∙ ap (λ (v : List ℕ). left v (replaced_painted d channel image) image) e)

-- and in place of a channel's byte it puts its own
pub the_byte_is_replaced : (channel p b : ℕ) → channel < 4 → b < 256 → replaced channel p b / 256 ^ channel % 256 ≡ b
the_byte_is_replaced zero p b h k = omega arith
the_byte_is_replaced (suc zero) p b h k = omega arith
the_byte_is_replaced (suc (suc zero)) p b h k = omega arith
the_byte_is_replaced (suc (suc (suc zero))) p b h k = omega arith
the_byte_is_replaced (suc (suc (suc (suc n)))) p b h k = absurd (omega arith)

-- and keeps the others: those below the channel, and those above it
pub the_bytes_below_are_kept : (channel p b : ℕ) → channel < 4 → b < 256 → replaced channel p b % 256 ^ channel ≡ p % 256 ^ channel
the_bytes_below_are_kept zero p b h k = omega arith
the_bytes_below_are_kept (suc zero) p b h k = omega arith
the_bytes_below_are_kept (suc (suc zero)) p b h k = omega arith
the_bytes_below_are_kept (suc (suc (suc zero))) p b h k = omega arith
the_bytes_below_are_kept (suc (suc (suc (suc n)))) p b h k = absurd (omega arith)

pub the_bytes_above_are_kept : (channel p b : ℕ) → channel < 4 → b < 256 → replaced channel p b / 256 ^ suc channel ≡ p / 256 ^ suc channel
the_bytes_above_are_kept zero p b h k = omega arith
the_bytes_above_are_kept (suc zero) p b h k = omega arith
the_bytes_above_are_kept (suc (suc zero)) p b h k = omega arith
the_bytes_above_are_kept (suc (suc (suc zero))) p b h k = omega arith
the_bytes_above_are_kept (suc (suc (suc (suc n)))) p b h k = absurd (omega arith)
