-- The eight values of a half of BC4 or BC5: the alphas of its two bytes, none above the greatest; and what the picks of a turn make of them.
-- Assumes nothing.
use mathlib.Core.Path.{◌≡◌, ◌∙◌, ap}
use mathlib.Core.Bool.{Bool, true, false, cond}
use mathlib.Core.List.{List}
use Prim.Native.Nat.{ℕ, zero, suc, ◌+◌, ◌*◌, ◌/◌, ◌%◌, ◌<◌, ◌≤◌, min}
use native.Mathlib.Omega.{arith}
use lib.Dec.{T, eqb, eqb→eq, ltb}
use lib.ListN.{get_or, drop}
use Rattle.rules.specs.Notation.{build, bits}
use Rattle.rules.specs.Pixel.{word}
use Rattle.rules.specs.Places.{tile}
use Rattle.rules.specs.Desktop.{half_word_lem, eight_up_to, alphas, alpha_index_in}
use Rattle.rules.specs.Rgtc.{greatest, endpoint, values_in_lem, half_byte, bc4_pixel, bc5_pixel}
use Rattle.laws.proofs.Between.{endpoint_le}
use Rattle.laws.proofs.Every.{every, below}
use Rattle.laws.proofs.Filled.{build_same, get_or_build}
use Rattle.bc.proofs.bc1.Shown.{by_row}

-- a signed byte, by one test of all
abbrev moved : ℕ → ℕ
moved b = cond (eqb b 128) 0 ((b + 127) % 256)

all_moved : T (every (λ b. eqb (moved b) (endpoint true b)) 256)
all_moved = tt

signed_byte_lem : (b : ℕ) → b < 256 → moved b ≡ endpoint true b
signed_byte_lem b h = eqb→eq (moved b) (endpoint true b) (below (λ b. eqb (moved b) (endpoint true b)) 256 all_moved b h)

-- of the alphas of two values only the 255 is above the greatest
stays : (n t : ℕ) → n ≤ t → min n t ≡ n
stays n t h = omega arith

capped : (t : ℕ) (f : Bool) (a b : ℕ) → t ≤ 255 → a ≤ t → b ≤ t → (k : ℕ) → k < 8 → min (get_or (alphas f a b) k 0) t ≡ get_or (eight_up_to t f a b) k 0
capped t f a b l p q zero h = first f
  where
    first : (f : Bool) → min (get_or (alphas f a b) 0 0) t ≡ get_or (eight_up_to t f a b) 0 0
    first true = stays a t p
    first false = stays a t p
capped t true a b l p q (suc zero) h = stays b t q
capped t true a b l p q (suc (suc zero)) h = stays _ t (omega arith)
capped t true a b l p q (suc (suc (suc zero))) h = stays _ t (omega arith)
capped t true a b l p q (suc (suc (suc (suc zero)))) h = stays _ t (omega arith)
capped t true a b l p q (suc (suc (suc (suc (suc zero))))) h = stays _ t (omega arith)
capped t true a b l p q (suc (suc (suc (suc (suc (suc zero)))))) h = stays _ t (omega arith)
capped t true a b l p q (suc (suc (suc (suc (suc (suc (suc zero))))))) h = stays _ t (omega arith)
capped t true a b l p q (suc (suc (suc (suc (suc (suc (suc (suc k)))))))) h = absurd (omega arith)
capped t false a b l p q (suc zero) h = stays b t q
capped t false a b l p q (suc (suc zero)) h = stays _ t (omega arith)
capped t false a b l p q (suc (suc (suc zero))) h = stays _ t (omega arith)
capped t false a b l p q (suc (suc (suc (suc zero)))) h = stays _ t (omega arith)
capped t false a b l p q (suc (suc (suc (suc (suc zero))))) h = stays _ t (omega arith)
capped t false a b l p q (suc (suc (suc (suc (suc (suc zero)))))) h = stays _ t (omega arith)
capped t false a b l p q (suc (suc (suc (suc (suc (suc (suc zero))))))) h = omega arith
capped t false a b l p q (suc (suc (suc (suc (suc (suc (suc (suc k)))))))) h = absurd (omega arith)

fits : (s : Bool) (b : ℕ) → b < 256 → endpoint s b ≤ greatest s
fits true b h = endpoint_le b
fits false b h = omega arith

top : (s : Bool) → greatest s ≤ 255
top true = omega arith
top false = omega arith

-- a half's values, by its two bytes
of_half_said : (s : Bool) (w k : ℕ) → k < 8
    → min (get_or (alphas (ltb (endpoint s (bits 15 8 w)) (endpoint s (bits 7 0 w))) (endpoint s (bits 7 0 w)) (endpoint s (bits 15 8 w))) k 0) (greatest s)
    ≡ get_or (values_in_lem s w) k 0
of_half_said s w k h =
    let a = endpoint s (bits 7 0 w) in
    let b = endpoint s (bits 15 8 w) in
    capped (greatest s) (ltb b a) a b (top s) (fits s (bits 7 0 w) (omega arith)) (fits s (bits 15 8 w) (omega arith)) k h

pub made : (s : Bool) (w p q t u r : ℕ) (l : List ℕ) → p ≡ endpoint s (bits 7 0 w) → q ≡ endpoint s (bits 15 8 w) → t ≡ greatest s
    → l ≡ alphas (ltb q p) p q
    → build 8 (λ k. min (get_or l k 0) t * u + r) ≡ build 8 (λ k. get_or (values_in_lem s w) k 0 * u + r)
made s w p q t u r l ep eq et el =
    build_same 0 _ _ 8 (λ k h. ap (λ (n : ℕ). n * u + r) (ap (λ (m : List ℕ). min (get_or m k 0) t) el ∙ at k h))
  where
    at : (k : ℕ) → k < 8 → min (get_or (alphas (ltb q p) p q) k 0) t ≡ get_or (values_in_lem s w) k 0
    at k h = rw (ep, eq, et) (of_half_said s w k h)

-- what turn k picks of a half's eight, each made into a word or a part of one
pick : (s : Bool) (g : ℕ → ℕ) (d set : List ℕ) (w k : ℕ) → w ≡ half_word_lem d → set ≡ build 8 (λ i. g (get_or (values_in_lem s w) i 0))
    → get_or set (alpha_index_in w k) 0 ≡ g (half_byte s d (k % 4) (k / 4))
unfolding half_byte
pick s g d set w k e f =
    ap (λ (l : List ℕ). get_or l (alpha_index_in w k) 0) f
    ∙ get_or_build (λ i. g (get_or (values_in_lem s w) i 0)) 0 8 (alpha_index_in w k) (omega arith)
    ∙ ap (λ (v : ℕ). g (get_or (values_in_lem s v) (alpha_index_in v k) 0)) e
    ∙ ap (λ (i : ℕ). g (get_or (values_in_lem s (half_word_lem d)) (alpha_index_in (half_word_lem d) i) 0)) (by_row k)

red : (r : ℕ) → r * 0x10000 + 0xFF000000 ≡ word 255 r 0 0
red r = omega arith

pub shown_red : (s : Bool) (d set : List ℕ) (w : ℕ) → w ≡ half_word_lem d → set ≡ build 8 (λ k. get_or (values_in_lem s w) k 0 * 0x10000 + 0xFF000000)
    → build 16 (λ k. get_or set (alpha_index_in w k) 0) ≡ tile (bc4_pixel s) d
unfolding bc4_pixel
shown_red s d set w e f =
    build_same 0 _ _ 16 (λ k h. pick s (λ n. n * 0x10000 + 0xFF000000) d set w k e f ∙ red (half_byte s d (k % 4) (k / 4)))

red_green_lem : (r g : ℕ) → r * 0x10000 + 0xFF000000 + (g * 0x100 + 0) ≡ word 255 r g 0
red_green_lem r g = omega arith

pub shown_both : (s : Bool) (d reds greens : List ℕ) (a b : ℕ) → a ≡ half_word_lem d → b ≡ half_word_lem (drop 8 d)
    → reds ≡ build 8 (λ k. get_or (values_in_lem s a) k 0 * 0x10000 + 0xFF000000) → greens ≡ build 8 (λ k. get_or (values_in_lem s b) k 0 * 0x100 + 0)
    → build 16 (λ k. get_or reds (alpha_index_in a k) 0 + get_or greens (alpha_index_in b k) 0) ≡ tile (bc5_pixel s) d
unfolding bc5_pixel
shown_both s d reds greens a b ea eb er eg =
    build_same 0 _ _ 16 (λ k h. pixel k)
  where
    pixel : (k : ℕ) → get_or reds (alpha_index_in a k) 0 + get_or greens (alpha_index_in b k) 0 ≡ bc5_pixel s d (k % 4) (k / 4)
    pixel k =
        rw (pick s (λ n. n * 0x10000 + 0xFF000000) d reds a k ea er, pick s (λ n. n * 0x100 + 0) (drop 8 d) greens b k eb eg)
        (red_green_lem (half_byte s d (k % 4) (k / 4)) (half_byte s (drop 8 d) (k % 4) (k / 4)))
