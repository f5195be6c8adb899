-- The number of a pixel by its bits, and what a pixel takes of eight colours.
-- Assumes nothing.
use Rattle.std.proofs.Common.{◌≡◌, ℕ, ◌+◌, ◌*◌, ◌/◌, ◌%◌, ◌<◌, Bool, true, false, cond, eqb, List, [], ◌∷◌, get_or, ap, ◌∙◌, arith, eqb→eq}
use Rattle.rules.specs.Notation.{build, bit}
use Rattle.rules.specs.Colour.{flipped, half, index}
use Rattle.laws.proofs.Filled.{is_build, length_build, get_or_build}
use Rattle.laws.proofs.Every.{below}
use Rattle.etc_colour.specs.shade.Pick.{low_word, high_word, second_half_lem, eight, number_at, taken}

-- a bit of the word of the second half is the pixel's half
pub half_bit : (flip : Bool) (n : ℕ) → n < 16 → bit n (second_half_lem flip) ≡ cond flip (n % 4 / 2) (n / 4 / 2)
half_bit true n h = eqb→eq _ _ (below (λ n. eqb (bit n 0xCCCC) (n % 4 / 2)) 16 tt n h)
half_bit false n h = eqb→eq _ _ (below (λ n. eqb (bit n 0xFF00) (n / 4 / 2)) 16 tt n h)

-- the three bits of pixel n are the number of the pixel at place k
pub number : (d : List ℕ) (k n a b c : ℕ) → k < 16 → n ≡ k % 4 * 4 + k / 4
    → a ≡ bit n (second_half_lem (flipped d)) * 4
    → b ≡ bit n (high_word d) * 2
    → c ≡ bit n (low_word d) * 1
    → a + b + c ≡ number_at d k
number d k n a b c h e p q r =
    let x : n / 4 ≡ k % 4 = omega arith in
    let y : n % 4 ≡ k / 4 = omega arith in
    let m : 4 * (k % 4) + k / 4 ≡ n = omega arith in
    let o : bit n (second_half_lem (flipped d)) ≡ half d (k % 4) (k / 4) = rw (← x, ← y) (half_bit (flipped d) n (omega arith)) in
    rw m (omega (arith, o, p, q, r))

small_half : (f : Bool) (x y : ℕ) → x < 4 → y < 4 → cond f (y / 2) (x / 2) < 2
small_half true x y p q = omega arith
small_half false x y p q = omega arith

-- there are eight
pub small_number : (d : List ℕ) (k : ℕ) → k < 16 → number_at d k < 8
small_number d k h = omega (arith, small_half (flipped d) (k % 4) (k / 4) (omega arith) (omega arith))

-- one of eight, by its half and its index
one : (colours : ℕ → List ℕ) (h i : ℕ) → h < 2 → i < 4 → get_or (eight colours) (h * 4 + i) 0 ≡ get_or (colours h) i 0
one colours h i p q =
    let n = h * 4 + i in
    let a : n / 4 ≡ h = omega arith in
    let b : n % 4 ≡ i = omega arith in
    get_or_build (λ n. get_or (colours (n / 4)) (n % 4) 0) 0 8 n (omega arith) ∙ rw (a, b)

-- the pick of eight colours is, at each pixel, the colour of its half and its index
pub picks : (d : List ℕ) (colours : ℕ → List ℕ) (set : List ℕ) → set ≡ eight colours → build 16 (taken d set) ≡ build 16 (λ k. get_or (colours (half d (k % 4) (k / 4))) (index d (k % 4) (k / 4)) 0)
unfolding taken
picks d colours set e =
    is_build (λ k. get_or (colours (half d (k % 4) (k / 4))) (index d (k % 4) (k / 4)) 0) 0 16 (build 16 (taken d set)) (length_build (taken d set) 0 16)
    (λ k h.
    let x = k % 4 in
    let y = k / 4 in
    get_or_build (taken d set) 0 16 k h
    ∙ ap (λ (s : List ℕ). taken d s k) e
    ∙ one colours (half d x y) (index d x y) (small_half (flipped d) x y (omega arith) (omega arith)) (omega arith))

-- the colours of two halves, one after the other, are the eight
pub halves : (colours : ℕ → List ℕ) (a b : List ℕ) → a ≡ colours 0 → b ≡ colours 1
    → get_or a 0 0 ∷ get_or a 1 0 ∷ get_or a 2 0 ∷ get_or a 3 0 ∷ get_or b 0 0 ∷ get_or b 1 0 ∷ get_or b 2 0 ∷ get_or b 3 0 ∷ [] ≡ eight colours
halves colours a b p q = rw (p, q)
