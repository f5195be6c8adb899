-- The lanes of four colours, put together, are the palette.
-- Assumes nothing.
use mathlib.Core.Path.{◌≡◌, ◌∙◌, refl, ap}
use mathlib.Core.Bool.{Bool, true, false, cond}
use mathlib.Core.List.{List, [], ◌∷◌}
use Prim.Native.Nat.{ℕ, ◌+◌, ◌-◌, ◌*◌, ◌/◌, ◌%◌, ◌<◌, ◌≤◌}
use native.Mathlib.Omega.{arith}
use borrow.Author.Tests.{ltb-true, ltb-false}
use lib.Dec.{ltb}
use lib.ListN.{get_or}
use Rattle.rules.specs.Notation.{build, bits}
use Rattle.rules.specs.Pixel.{word}
use Rattle.rules.specs.Colour.{five}
use Rattle.rules.specs.Modes.{six}
use Rattle.rules.specs.Desktop.{mix, rgb565, palette}
use Rattle.bc.specs.bc1.Lanes.{channel, sixths, lane, word_at, words_of}

fits : (n : ℕ) → n < 65536 → n % 65536 ≡ n
fits n h = omega arith

-- five bits widened, and six
five-part : (n : ℕ) → n * 132 / 16 ≡ five n
five-part n = omega arith

six_part : (n : ℕ) → n * 65 / 16 ≡ six n
six_part n = omega arith

five_wide : (n : ℕ) → n < 32 → n * 132 % 65536 / 16 ≡ five n
five_wide n h = ap (λ (t : ℕ). t / 16) (fits (n * 132) (omega arith)) ∙ five-part n

six_wide : (n : ℕ) → n < 64 → n * 65 % 65536 / 16 ≡ six n
six_wide n h = ap (λ (t : ℕ). t / 16) (fits (n * 65) (omega arith)) ∙ six_part n

-- the channels of a colour
module _ (q : ℕ) where
  blue_up : q * 2048 % 65536 ≡ bits 4 0 q * 2048
  blue_up = omega arith

  blue_down : (n : ℕ) → n * 2048 * 32 / 65536 ≡ n
  blue_down n = omega arith

  pub blue : channel q 0 ≡ five (bits 4 0 q)
  blue =
      ap (λ (t : ℕ). t * 32 / 65536 * 132 % 65536 / 16) blue_up
      ∙ ap (λ (t : ℕ). t * 132 % 65536 / 16) (blue_down (bits 4 0 q))
      ∙ five_wide (bits 4 0 q) (omega arith)

  green_up : q * 32 % 65536 ≡ q % 2048 * 32
  green_up = omega arith

  green_down : (m : ℕ) → m * 32 * 64 / 65536 ≡ m / 32
  green_down m = omega arith

  green_bits : q % 2048 / 32 ≡ bits 10 5 q
  green_bits = omega arith

  pub green : channel q 1 ≡ six (bits 10 5 q)
  green =
      ap (λ (t : ℕ). t * 64 / 65536 * 65 % 65536 / 16) green_up
      ∙ ap (λ (t : ℕ). t * 65 % 65536 / 16) (green_down (q % 2048) ∙ green_bits)
      ∙ six_wide (bits 10 5 q) (omega arith)

  red_up : q * 1 % 65536 ≡ q % 65536
  red_up = omega arith

  red_down : (m : ℕ) → m * 32 / 65536 ≡ m / 2048
  red_down m = omega arith

  red_bits : q % 65536 / 2048 ≡ bits 15 11 q
  red_bits = omega arith

  pub red : channel q 2 ≡ five (bits 15 11 q)
  red =
      ap (λ (t : ℕ). t * 32 / 65536 * 132 % 65536 / 16) red_up
      ∙ ap (λ (t : ℕ). t * 132 % 65536 / 16) (red_down (q % 65536) ∙ red_bits)
      ∙ five_wide (bits 15 11 q) (omega arith)

  none : channel q 3 ≡ 0
  none = omega arith

-- a sum that fits
pub sums : (m n : ℕ) → m + n < 65536 → (m % 65536 + n % 65536) % 65536 ≡ m + n
sums m n h = omega arith

-- x sixths of a byte and y of another are a byte, g of them
record Gives (x y : ℕ) (g : ℕ → ℕ → ℕ) : Type 0 where
  at : (a b : ℕ) → a < 256 → b < 256 → (sixths a b x y + 0) % 65536 % 256 ≡ g a b

sixth : (s : ℕ) → s ≤ 1530 → s * 10923 / 65536 ≡ s / 6
sixth s h = omega arith

byte : (s : ℕ) → s ≤ 1530 → (s / 6 + 0) % 65536 % 256 ≡ s / 6
byte s h = omega arith

gives : (x y : ℕ) (g : ℕ → ℕ → ℕ) → ((a b : ℕ) → a < 256 → b < 256 → (a * x + b * y ≤ 1530) × ((a * x + b * y) / 6 ≡ g a b)) → Gives x y g
gives x y g f =
    record {
      at = λ a b h i.
          let t = f a b h i in
          ap (λ (s : ℕ). (s * 10923 / 65536 + 0) % 65536 % 256) (sums (a * x) (b * y) (omega (arith, t.0)))
          ∙ ap (λ (s : ℕ). (s + 0) % 65536 % 256) (sixth (a * x + b * y) t.0)
          ∙ byte (a * x + b * y) t.0
          ∙ t.1;
    }

ones : Gives 6 0 (λ a b. a)
ones = gives 6 0 _ (λ a b h i. (omega arith, omega arith))

others : Gives 0 6 (λ a b. b)
others = gives 0 6 _ (λ a b h i. (omega arith, omega arith))

near : Gives 4 2 (mix 2 1)
near = gives 4 2 _ (λ a b h i. (omega arith, omega arith))

far : Gives 2 4 (mix 1 2)
far = gives 2 4 _ (λ a b h i. (omega arith, omega arith))

halves : Gives 3 3 (mix 1 1)
halves = gives 3 3 _ (λ a b h i. (omega arith, omega arith))

nothing : Gives 0 0 (λ a b. 0)
nothing = gives 0 0 _ (λ a b h i. (omega arith, omega arith))

put : (l : List ℕ) (i a r g b : ℕ) → get_or l i 0 ≡ b → get_or l (i + 1) 0 ≡ g → get_or l (i + 2) 0 ≡ r → get_or l (i + 3) 0 ≡ a → word_at l i ≡ word a r g b
put l i a r g b e f h k = omega (arith, e, f, h, k)

-- four lanes of such sixths are the word of the two colours' channels
colour : (l : List ℕ) (i x y a p q : ℕ) (g : ℕ → ℕ → ℕ) → Gives x y g
    → get_or l i 0 ≡ (sixths (channel p 0) (channel q 0) x y + 0) % 65536 % 256
    → get_or l (i + 1) 0 ≡ (sixths (channel p 1) (channel q 1) x y + 0) % 65536 % 256
    → get_or l (i + 2) 0 ≡ (sixths (channel p 2) (channel q 2) x y + 0) % 65536 % 256
    → get_or l (i + 3) 0 ≡ a
    → word_at l i ≡ word a (g (five (bits 15 11 p)) (five (bits 15 11 q))) (g (six (bits 10 5 p)) (six (bits 10 5 q)))
    (g (five (bits 4 0 p)) (five (bits 4 0 q)))
colour l i x y a p q g s e f h k =
    put l i a _ _ _
    (e ∙ rw (blue p, blue q) (s.at (five (bits 4 0 p)) (five (bits 4 0 q)) (omega arith) (omega arith)))
    (f ∙ rw (green p, green q) (s.at (six (bits 10 5 p)) (six (bits 10 5 q)) (omega arith) (omega arith)))
    (h ∙ rw (red p, red q) (s.at (five (bits 15 11 p)) (five (bits 15 11 q)) (omega arith) (omega arith)))
    k

pub each : {a b c d x y z w : ℕ} → a ≡ x → b ≡ y → c ≡ z → d ≡ w → a ∷ b ∷ c ∷ d ∷ [] ≡ x ∷ y ∷ z ∷ w ∷ []
each p q r s = rw (p, q, r, s)

-- a lane of alpha, where no colour is
opaque : (p q x y : ℕ) → (sixths (channel p 3) (channel q 3) x y + 255) % 65536 % 256 ≡ (sixths 0 0 x y + 255) % 65536 % 256
opaque p q x y = rw (none p, none q)

clear : (p q x y : ℕ) → (sixths (channel p 3) (channel q 3) x y + 256) % 65536 % 256 ≡ (sixths 0 0 x y + 256) % 65536 % 256
clear p q x y = rw (none p, none q)

abbrev sixteen : ℕ → ℕ → ℕ → ℕ → List ℕ
sixteen f t p q = build 16 (lane f t p q)

four_colours_lem : (alpha : Bool) (p q : ℕ) → words_of (sixteen 1 0 p q) ≡ palette true alpha (rgb565 p) (rgb565 q)
unfolding lane
four_colours_lem alpha p q =
    each (colour (sixteen 1 0 p q) 0 6 0 255 p q _ ones refl refl refl (opaque p q 6 0))
    (colour (sixteen 1 0 p q) 4 0 6 255 p q _ others refl refl refl (opaque p q 0 6))
    (colour (sixteen 1 0 p q) 8 4 2 255 p q _ near refl refl refl (opaque p q 4 2))
    (colour (sixteen 1 0 p q) 12 2 4 255 p q _ far refl refl refl (opaque p q 2 4))

pub listed : (four alpha : Bool) (p q : ℕ)
    → words_of (sixteen (cond four 1 0) (cond alpha (1 - cond four 1 0) 0) p q) ≡ palette four alpha (rgb565 p) (rgb565 q)
unfolding lane
listed true true p q = four_colours_lem true p q
listed true false p q = four_colours_lem false p q
listed false true p q =
    each (colour (sixteen 0 1 p q) 0 6 0 255 p q _ ones refl refl refl (opaque p q 6 0))
    (colour (sixteen 0 1 p q) 4 0 6 255 p q _ others refl refl refl (opaque p q 0 6))
    (colour (sixteen 0 1 p q) 8 3 3 255 p q _ halves refl refl refl (opaque p q 3 3))
    (colour (sixteen 0 1 p q) 12 0 0 0 p q _ nothing refl refl refl (clear p q 0 0))
listed false false p q =
    each (colour (sixteen 0 0 p q) 0 6 0 255 p q _ ones refl refl refl (opaque p q 6 0))
    (colour (sixteen 0 0 p q) 4 0 6 255 p q _ others refl refl refl (opaque p q 0 6))
    (colour (sixteen 0 0 p q) 8 3 3 255 p q _ halves refl refl refl (opaque p q 3 3))
    (colour (sixteen 0 0 p q) 12 0 0 255 p q _ nothing refl refl refl (opaque p q 0 0))

-- a test by a sum and a shift
pub sign : (p q : ℕ) → p < 65536 → q < 65536 → (65535 + p - q) / 65536 ≡ cond (ltb q p) 1 0
sign p q h i = by (ltb q p) refl
  where
    by : (t : Bool) → ltb q p ≡ t → (65535 + p - q) / 65536 ≡ cond t 1 0
    by true e = omega (arith, ltb-true q p e)
    by false e = omega (arith, ltb-false q p e)

pub at_most : (t : Bool) (f : ℕ) → f ≡ cond t 1 0 → f ≤ 1
at_most true f e = omega (arith, e)
at_most false f e = omega (arith, e)
