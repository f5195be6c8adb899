-- What M-110 of document 02 claims of whole values. Its own sentences stand in quotes above the theorems that they become. Places, gaps, the
-- own tile and that there is no second outcome follow from the lemmas that the readers of pixels have, which speak of any image whose
-- element k belongs to pixel `at k`.
-- Assumes nothing.
use mathlib.Core.Path.{◌≡◌, ◌∙◌, refl, sym, ap, subst}
use mathlib.Core.Bool.{Bool, true, false, cond}
use mathlib.Core.List.{List, [], ◌∷◌}
use Prim.Native.Nat.{ℕ, suc, ◌+◌, ◌-◌, ◌*◌, ◌/◌, ◌%◌, ◌^◌, ◌<◌, ◌≤◌}
use native.Mathlib.Nat.{mul_comm}
use native.Mathlib.Decide.{dec_lt}
use native.Mathlib.Omega.{arith}
use borrow.Author.Tests.{lt-ltb, le-ltb}
use lib.Dec.{T}
use lib.IntN.{ℤ, pos, negsuc, nat_abs, ◌+ℤ◌, ◌-ℤ◌, ◌*ℤ◌}
use lib.ListN.{length, get_or}
use Rattle.rules.specs.Notation.{byte, bits, twos, minus}
use Rattle.rules.specs.Places.{element, needed, inside, column, row, block_of, block_at, bytes_of, Beside}
use Rattle.rules.specs.Answers.{verdict, picture_checks}
use Rattle.rules.specs.Channels.{multiplier, alpha_step, eac_byte}
use Rattle.rules.specs.Whole.{between, middle, byte_from, sixteen, eac_whole_lem, whole_pixel, whole_at, whole_picture, whole_checks, ReadsWhole}
use Rattle.rules.specs.Answers.{Answer}
use Rattle.std.specs.Prelude.{Ok, Err}
use Rattle.rules.specs.declared.Picture.{Picture}
use Rattle.laws.proofs.Paint.{get_d_painted}
use Rattle.laws.proofs.Signed.{neg}
use Rattle.laws.proofs.Unique.{no_second_outcome}
use Rattle.pixel.proofs.place.Grid.{rem_at, div_at, inside_at, within, beyond, in_gap}
use Rattle.checks.proofs.Checks.{passed_by_lem}
use Rattle.eac.proofs.values.Whole.{bytes_stay}
use Rattle.whole.specs.Lanes.{lanes}
use Rattle.whole.proofs.Checked.{same_verdict, ready}
use Rattle.claims.proofs.Outcomes.{Same, an_acceptance_paints, the_rest_stays}
use Rattle.claims.proofs.Alike.{OnlyInTileBy, beside_by}
use Rattle.claims.proofs.Pictures.{holds, pixel_of_lem}

-- "The byte readers then take it divided by 8, the signed one after adding 1023, rounded down; their bytes don't change.": the byte that
-- they promise, which has not moved, is the one that is so taken, for every block and every place in it
pub the_bytes_are_what_they_were : (signed : Bool) (d : List ℕ) (x y : ℕ) → eac_byte signed d x y ≡ byte_from signed (eac_whole_lem signed d x y)
the_bytes_are_what_they_were = bytes_stay

-- "0 to 2047 unsigned, -1023 to 1023 signed"
pub record Natural (most : ℕ) (v : ℤ) : Type 0 where
  pub value : ℕ
  pub is : v ≡ pos value
  pub few : value ≤ most

unsigned : (z : ℤ) → Natural 2047 (between (pos 0) (pos 2047) z)
unsigned (pos n) =
    elim (dec_lt 2047 n) [
      | yes h ↦ rw (le-ltb n 0 (omega arith), lt-ltb 2047 n h) (record { value = 2047; is = refl; few = omega arith })
      | no h ↦ rw (le-ltb n 0 (omega arith), le-ltb 2047 n (omega (arith, h))) (record { value = n; is = refl; few = omega (arith, h) })
    ]
unsigned (negsuc n) = record { value = 0; is = refl; few = omega arith }

signed_within : (z : ℤ) → nat_abs (between (minus 1023) (pos 1023) z) ≤ 1023
signed_within (pos n) =
    elim (dec_lt 1023 n) [
      | yes h ↦ rw (lt-ltb 1023 n h) (omega arith)
      | no h ↦ rw (le-ltb 1023 n (omega (arith, h))) (omega (arith, h))
    ]
signed_within (negsuc n) =
    elim (dec_lt 1022 n) [
      | yes h ↦ rw (lt-ltb 1022 n h) (omega arith)
      | no h ↦ rw (le-ltb 1022 n (omega (arith, h))) (omega (arith, h))
    ]

pub an_unsigned_value_is_from_0_to_2047 : (d : List ℕ) (x y : ℕ) → Natural 2047 (eac_whole_lem false d x y)
unfolding eac_whole_lem
an_unsigned_value_is_from_0_to_2047 d x y = unsigned (middle false (byte d 0) +ℤ pos (multiplier (bits 7 4 (byte d 1))) *ℤ alpha_step d x y)

pub a_signed_value_is_from_minus_1023_to_1023 : (d : List ℕ) (x y : ℕ) → nat_abs (eac_whole_lem true d x y) ≤ 1023
unfolding eac_whole_lem
a_signed_value_is_from_minus_1023_to_1023 d x y =
    signed_within (middle true (byte d 0) +ℤ pos (multiplier (bits 7 4 (byte d 1))) *ℤ alpha_step d x y)

-- "16-bit numbers": what the sixteen bits say as two's complement is the value, and of an unsigned one also as they are
back : (v : ℤ) → nat_abs v ≤ 2047 → twos 16 (sixteen v) ≡ v
back (pos n) h =
    let e : n % 2 ^ 16 ≡ n = omega (arith, h) in
    ap (twos 16) e ∙ ap (λ (t : Bool). cond t (pos n) (pos n -ℤ pos (2 ^ 16))) (lt-ltb n (2 ^ 15) (omega (arith, h)))
back (negsuc n) h =
    let few : suc n ≤ 2047 = h in
    let e : 2 ^ 16 - 1 - n % 2 ^ 16 ≡ 65535 - n = omega arith in
    ap (twos 16) e
    ∙ ap (λ (t : Bool). cond t (pos (65535 - n)) (pos (65535 - n) -ℤ pos (2 ^ 16))) (le-ltb (65535 - n) (2 ^ 15) (omega arith))
    ∙ neg (65535 - n) 65536 (omega arith)
    ∙ ap negsuc (omega arith)

pub sixteen_bits_say_the_value : (signed : Bool) (d : List ℕ) (x y : ℕ) → twos 16 (sixteen (eac_whole_lem signed d x y)) ≡ eac_whole_lem signed d x y
sixteen_bits_say_the_value true d x y = back (eac_whole_lem true d x y) (omega (arith, a_signed_value_is_from_minus_1023_to_1023 d x y))
sixteen_bits_say_the_value false d x y =
    let u = an_unsigned_value_is_from_0_to_2047 d x y in
    back (eac_whole_lem false d x y) (subst (λ (z : ℤ). nat_abs z ≤ 2047) (sym u.is) u.few)

-- "with 01's refusals and 12; for RG the image length rule .. doubled, the data length and the pitch .. are not": the verdict is a picture
-- reader's, of blocks of eight bytes, or sixteen, over an image with as many elements, or half of them
pub the_refusals_are_a_pictures : (green : Bool) (pic : Picture) (bytes elements : ℕ)
    → verdict (whole_checks (lanes green) pic bytes elements) ≡ verdict (picture_checks (lanes green * 8) pic bytes (elements / lanes green))
the_refusals_are_a_pictures green pic bytes elements = sym (same_verdict green pic bytes elements)

-- No second outcome satisfies the promise.
pub whole_determined : (signed : Bool) (n : ℕ) (d : List ℕ) (pic : Picture) (image : List ℕ) (a b : Answer) (new new' : List ℕ)
    → ReadsWhole signed n d pic image a new
    → ReadsWhole signed n d pic image b new'
    → Same a b new new'
whole_determined signed n d pic image a b new new' p q = no_second_outcome _ _ image a b new new' p q

-- number c of pixel (x, y), "RG as red then green": twice the pixel's place, and one more for green
abbrev pub place : Bool → Picture → ℕ → ℕ → ℕ → ℕ
place green pic x y c = lanes green * element pic x y + c

module _ (green : Bool) (pic : Picture) (x y c : ℕ) (h : c < lanes green) where
  turned : place green pic x y c ≡ element pic x y * lanes green + c
  turned = ap (λ (z : ℕ). z + c) (mul_comm (lanes green) (element pic x y))

  pub its_pixel : place green pic x y c / lanes green ≡ element pic x y
  its_pixel = ap (λ (z : ℕ). z / lanes green) turned ∙ div_at (lanes green) c (element pic x y) h

  pub its_number : place green pic x y c % lanes green ≡ c
  its_number = ap (λ (z : ℕ). z % lanes green) turned ∙ rem_at (lanes green) c (element pic x y) h

behind_all : (green : Bool) (m k : ℕ) → lanes green * m ≤ k → m ≤ k / lanes green
behind_all true m k h = omega arith
behind_all false m k h = omega arith

before_end : (green : Bool) (e m n c : ℕ) → e < m → c < lanes green → lanes green * m ≤ n → lanes green * e + c < n
before_end true e m n c h i j = omega arith
before_end false e m n c h i j = omega arith

module _ (green signed : Bool) (d : List ℕ) (pic : Picture) (image : List ℕ) where
  -- each number that a reader has put is the whole value of its own block and place
  pub every_number_of_a_picture : (new : List ℕ) → ReadsWhole signed (lanes green) d pic image (Ok tt) new
      → (x y c : ℕ) → x < pic.width → y < pic.height → c < lanes green
      → get_or new (place green pic x y c) 0 ≡ whole_pixel signed c (bytes_of (lanes green * 8) d (block_of pic x y)) (x % 4) (y % 4)
  every_number_of_a_picture new p x y c i j h =
      let n = lanes green in
      let k = place green pic x y c in
      let passed = passed_by_lem (n * 8) pic (length d) (length image / n) (0 ∷ []) (Ok tt) (p.says ∙ the_refusals_are_a_pictures green pic (length d) (length image)) refl in
      let fits = ready green pic (n * 8) (length d) (length image) passed in
      let own = inside_at pic fits.fits x y i j in
      let at = its_pixel green pic x y c h in
      let there : k < length image = before_end green (element pic x y) (needed pic) (length image) c (within pic (element pic x y) own) h fits.roomy in
      ap (λ (l : List ℕ). get_or l k 0) (an_acceptance_paints _ (whole_picture signed n pic d image) image new (Ok tt) p refl)
      ∙ get_d_painted (λ k. inside pic (k / n)) (whole_at signed n pic d) image k there
      ∙ ap (λ (t : Bool). cond t (whole_at signed n pic d k) (get_or image k 0)) (holds (inside pic (k / n)) (subst (λ (m : ℕ). T (inside pic m)) (sym at) own))
      ∙ ap (λ (m : ℕ). whole_pixel signed (k % n) (bytes_of (n * 8) d (block_at pic m)) (column pic m % 4) (row pic m % 4)) at
      ∙ pixel_of_lem (whole_pixel signed (k % n)) (n * 8) pic d x y (omega (arith, fits.fits))
      ∙ ap (λ (m : ℕ). whole_pixel signed m (bytes_of (n * 8) d (block_of pic x y)) (x % 4) (y % 4)) (its_number green pic x y c h)

  -- one block changes the numbers of its own tile alone
  pub one_block_changes_its_own_numbers : (e new new' : List ℕ) (n : ℕ) → Beside (lanes green * 8) pic n d e
      → ReadsWhole signed (lanes green) d pic image (Ok tt) new
      → ReadsWhole signed (lanes green) e pic image (Ok tt) new'
      → OnlyInTileBy (λ k. k / lanes green) pic n new new'
  one_block_changes_its_own_numbers e new new' n z p q =
      let m = lanes green in
      subst (λ (l : List ℕ). OnlyInTileBy (λ k. k / m) pic n l new') (sym (an_acceptance_paints _ (whole_picture signed m pic d image) image new (Ok tt) p refl))
      (subst (λ (l : List ℕ). OnlyInTileBy (λ k. k / m) pic n (whole_picture signed m pic d image) l)
      (sym (an_acceptance_paints _ (whole_picture signed m pic e image) image new' (Ok tt) q refl))
      (beside_by (m * 8) pic d e (λ k. k / m) (whole_at signed m pic d) (whole_at signed m pic e) n z
      (λ k z. ap (λ (l : List ℕ). whole_pixel signed (k % m) l (column pic (k / m) % 4) (row pic (k / m) % 4)) z)
      image))

  module _ (new : List ℕ) (a : Answer) (p : ReadsWhole signed (lanes green) d pic image a new) where
    -- no element behind the picture has changed, nor any in the gap of a row, accepted or refused
    pub no_number_behind_it_changes : (k : ℕ) → k < length image → lanes green * needed pic ≤ k → get_or new k 0 ≡ get_or image k 0
    no_number_behind_it_changes k h o =
        the_rest_stays (λ k. inside pic (k / lanes green)) (whole_at signed (lanes green) pic d) _ image new a p k h
        (beyond pic (k / lanes green) (behind_all green (needed pic) k o))

    pub the_gaps_keep_their_numbers : (x y c : ℕ) → pic.width ≤ x → x < pic.pitch → c < lanes green → place green pic x y c < length image
        → get_or new (place green pic x y c) 0 ≡ get_or image (place green pic x y c) 0
    the_gaps_keep_their_numbers x y c i j g h =
        the_rest_stays (λ k. inside pic (k / lanes green)) (whole_at signed (lanes green) pic d) _ image new a p (place green pic x y c) h
        (ap (inside pic) (its_pixel green pic x y c g) ∙ in_gap pic x y i j)
