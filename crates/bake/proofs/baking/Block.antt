-- A block read back: the bytes of `block_with` have the bases, the flip, the codes and the indices that it was made of; and what
-- any individual block shows, by its bases, flip, codes and indices.
-- Assumes nothing.
use mathlib.Core.Path.{◌≡◌, ◌∙◌, refl, ap}
use mathlib.Core.Bool.{Bool, true, false, cond}
use mathlib.Core.List.{List, [], ◌∷◌}
use Prim.Native.Nat.{ℕ, zero, suc, ◌+◌, ◌*◌, ◌/◌, ◌%◌, ◌<◌}
use native.Mathlib.Omega.{arith}
use lib.Dec.{eqb}
use lib.ListN.{get_or}
use Rattle.rules.specs.Notation.{bit, bits}
use Rattle.rules.specs.Colour.{index, differs, flipped, half, code, individual, unused, out_of_range_lem, steps_of, half_colours}
use Rattle.rules.specs.Modes.{etc1_bases, etc1_pixel}
use Rattle.laws.proofs.Rows.{rows}
use Rattle.rules.specs.Counting.{from_bits_lem}
use Rattle.rules.specs.Checking.{pixel}
use Rattle.rules.specs.Baking.{seventeen, bases_of_lem, half_of, shown, high_of, low_of, block_with}
use Rattle.bake.specs.baking.Four.{Four}
use Rattle.bake.proofs.baking.Bits.{bits_bit}

-- codes of three bits, and indices of two
pub record Legal (codes indices : ℕ → ℕ) : Type 0 where
  pub coded : (h : ℕ) → h < 2 → codes h < 8
  pub indexed : (k : ℕ) → k < 16 → indices k < 4

-- d is an individual block of these bases and this flip, and these are its codes and indices
pub record Reads (first second : List ℕ) (flip : ℕ) (codes indices : ℕ → ℕ) (d : List ℕ) : Type 0 where
  pub alone : differs d ≡ false
  pub flips : flipped d ≡ eqb flip 1
  pub bases : individual d ≡ seventeen first ∷ seventeen second ∷ unused ∷ []
  pub coded : (h : ℕ) → h < 2 → code d h ≡ codes h
  pub indexed : (k : ℕ) → k < 16 → index d (k % 4) (k / 4) ≡ indices k

-- it is in range
pub in_range_lem : {first second : List ℕ} {flip : ℕ} {codes indices : ℕ → ℕ} {d : List ℕ} → Reads first second flip codes indices d → out_of_range_lem d ≡ false
unfolding out_of_range_lem
in_range_lem {d = d} p = rw p.alone

pub small_half : (flip k : ℕ) → k < 16 → half_of flip k < 2
small_half flip k h = by (eqb flip 1)
  where
    by : (t : Bool) → cond t (k / 4 / 2) (k % 4 / 2) < 2
    by true = omega arith
    by false = omega arith

base_of : (first second : List ℕ) (h : ℕ) → h < 2 → get_or (seventeen first ∷ seventeen second ∷ unused ∷ []) h [] ≡ bases_of_lem first second h
base_of first second zero h = refl
base_of first second (suc zero) h = refl
base_of first second (suc (suc h)) p = absurd (omega arith)

-- what it shows
pub shows : {first second : List ℕ} {flip : ℕ} {codes indices : ℕ → ℕ} {d : List ℕ} → Reads first second flip codes indices d → (k : ℕ) → k < 16
    → pixel d k ≡ shown (bases_of_lem first second (half_of flip k)) (codes (half_of flip k)) (indices k)
unfolding etc1_pixel shown
shows {first} {second} {flip} {codes} {indices} {d} p k h =
    let m = half_of flip k in
    let s = small_half flip k h in
    let e : half d (k % 4) (k / 4) ≡ m = ap (λ (t : Bool). cond t (k / 4 / 2) (k % 4 / 2)) p.flips in
    let b : get_or (etc1_bases d) m [] ≡ bases_of_lem first second m = rw (p.alone, p.bases) (base_of first second m s) in
    ap (λ (n : ℕ). get_or (half_colours (get_or (etc1_bases d) n []) (steps_of (code d n))) (index d (k % 4) (k / 4)) 0) e
    ∙ ap (λ (l : List ℕ). get_or (half_colours l (steps_of (code d m))) (index d (k % 4) (k / 4)) 0) b
    ∙ ap (λ (n : ℕ). get_or (half_colours (bases_of_lem first second m) (steps_of n)) (index d (k % 4) (k / 4)) 0) (p.coded m s)
    ∙ ap (λ (n : ℕ). get_or (half_colours (bases_of_lem first second m) (steps_of (codes m))) n 0) (p.indexed k h)

-- a byte of two nibbles, and one of two codes, a clear bit and a flip
nibbles : (a b : ℕ) → a < 16 → b < 16 → (bits 7 4 (16 * a + b) * 17 ≡ a * 17) × (bits 3 0 (16 * a + b) * 17 ≡ b * 17)
nibbles a b p q = (ap (λ (n : ℕ). n * 17) (omega arith), ap (λ (n : ℕ). n * 17) (omega arith))

fields : (a b f : ℕ) → a < 8 → b < 8 → f < 2 → let n = 32 * a + 4 * b + f in (bits 7 5 n ≡ a) × (bits 4 2 n ≡ b) × (bit 1 n ≡ 0) × (bit 0 n ≡ f)
fields a b f p q r = (omega arith, omega arith, omega arith, omega arith)

halves : (n : ℕ) → 256 * (n / 256) + n % 256 ≡ n
halves n = omega arith

-- bit 4x + y of a word of bits that were taken by place
at_place : (f : ℕ → ℕ) → ((k : ℕ) → k < 16 → f k < 2) → (k : ℕ) → k < 16 → bit (4 * (k % 4) + k / 4) (from_bits_lem (λ i. f (4 * (i % 4) + i / 4)) 0 16) ≡ f k
at_place f b k h =
    bits_bit (λ i. f (4 * (i % 4) + i / 4)) 16 (λ i l. b (4 * (i % 4) + i / 4) (omega arith)) 0 16 (4 * (k % 4) + k / 4) (omega arith) (omega arith)
    ∙ ap f (back k h)
  where
    back : (k : ℕ) → k < 16 → 4 * ((0 + (4 * (k % 4) + k / 4)) % 4) + (0 + (4 * (k % 4) + k / 4)) / 4 ≡ k
    back k h = omega arith

module _ (first second : List ℕ) (flip : ℕ) (codes indices : ℕ → ℕ) (a : Four first) (b : Four second) (f : flip < 2) (l : Legal codes indices) where
  word : (k : ℕ) → k < 16 → index (block_with first second flip codes indices) (k % 4) (k / 4) ≡ indices k
  unfolding block_with
  word k h =
      let i = 4 * (k % 4) + k / 4 in
      let p : bit i (256 * (high_of indices / 256) + high_of indices % 256) ≡ indices k / 2 =
      ap (bit i) (halves (high_of indices)) ∙ at_place (λ k. indices k / 2) (λ k m. omega (arith, l.indexed k m)) k h in
      let q : bit i (256 * (low_of indices / 256) + low_of indices % 256) ≡ indices k % 2 =
      ap (bit i) (halves (low_of indices)) ∙ at_place (λ k. indices k % 2) (λ k m. omega arith) k h in
      ap (λ (n : ℕ). 2 * n + bit i (256 * (low_of indices / 256) + low_of indices % 256)) p ∙ ap (λ (n : ℕ). 2 * (indices k / 2) + n) q ∙ omega arith

  -- "the written bytes read back are the chosen ones"
  pub reads_back : Reads first second flip codes indices (block_with first second flip codes indices)
  unfolding block_with
  reads_back =
      let t = fields (codes 0) (codes 1) flip (l.coded 0 (omega arith)) (l.coded 1 (omega arith)) f in
      let r = nibbles (get_or first 0 0) (get_or second 0 0) a.red b.red in
      let g = nibbles (get_or first 1 0) (get_or second 1 0) a.green b.green in
      let u = nibbles (get_or first 2 0) (get_or second 2 0) a.blue b.blue in
      record {
        alone = ap (λ (n : ℕ). eqb n 1) t.2;
        flips = ap (λ (n : ℕ). eqb n 1) t.3;
        bases = rows r.0 g.0 u.0 r.1 g.1 u.1;
        coded = by t.0 t.1;
        indexed = word;
      }
    where
      by : bits 7 5 (32 * codes 0 + 4 * codes 1 + flip) ≡ codes 0 → bits 4 2 (32 * codes 0 + 4 * codes 1 + flip) ≡ codes 1
          → (h : ℕ) → h < 2 → code (block_with first second flip codes indices) h ≡ codes h
      by e f zero m = e
      by e f (suc zero) m = f
      by e f (suc (suc h)) m = absurd (omega arith)
