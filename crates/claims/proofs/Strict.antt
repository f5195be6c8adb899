-- Demand 3, over the promise of the strict reader and the Khronos definition of ETC2 RGB, and not between two programs: strict ETC1
-- is a guard (Guarded.antt). And what follows for a reader that is not strict.
-- Assumes nothing.
use mathlib.Core.Path.{◌≡◌, ◌∙◌, refl, ap}
use mathlib.Core.Bool.{Bool, true, false}
use mathlib.Core.List.{List, [], ◌∷◌}
use Prim.Native.Nat.{ℕ, ◌%◌, ◌<◌, ◌≤◌}
use native.Mathlib.Omega.{arith}
use lib.ListN.{length, get_or}
use Rattle.rules.specs.Places.{element, needed, blocks, block_of, block_at, bytes_of, pixel_at, Alike, Beside}
use Rattle.rules.specs.Answers.{said, accepts, over_limit_lem, judged, exact_checks, verdict, guarded}
use Rattle.rules.specs.Colour.{out_of_range_lem}
use Rattle.rules.specs.Formats.{size_of, shows_of}
use Rattle.rules.specs.Guards.{in_range}
use Rattle.rules.specs.Readers.{strict_checks, strict_verdict, ReadsPicture, ReadsStrict}
use Rattle.rules.specs.Answers.{Answer}
use Rattle.rules.specs.declared.Refusal.TheVariants.{OutOfRange}
use Rattle.std.specs.Prelude.{Ok, Err}
use Rattle.rules.specs.declared.Format.TheVariants.{Etc1, Etc2Rgb}
use Rattle.rules.specs.declared.Picture.{Picture}
use Rattle.laws.proofs.Guards.{strict_sound, finds_none}
use Rattle.pixel.proofs.place.Grid.{beyond, in_gap, roomy}
use Rattle.checks.proofs.Checks.{passed_exactly_by}
use Rattle.claims.proofs.Outcomes.{Same}
use Rattle.claims.proofs.Alike.{OnlyInTile, none_left}
use Rattle.claims.proofs.Guarded as guarded-claims
use Rattle.claims.proofs.Pictures.{
  Empty,
  no_blocks,
  empty_passes,
  only_its_own_pixels,
  each_accepted_pixel,
  an_empty_picture,
  own_tile,
  only_blocks_are_read,
}

-- "some block of the picture has its difference bit set and a red, green or blue five-bit base plus signed step outside 0 to 31"
abbrev pub bad : List ℕ → ℕ → Bool
bad d n = out_of_range_lem (bytes_of 8 d n)

-- the refusal with 4 that names the first such block, and the acceptance by the ETC2 RGB rule
abbrev pub Refused : List ℕ → Picture → List ℕ → Answer → List ℕ → Type 0
Refused = guarded-claims.Refused in_range strict_sound (λ n. Err (OutOfRange n)) (λ n. refl)

abbrev pub Accepted : List ℕ → Picture → List ℕ → Answer → List ℕ → Type 0
Accepted = guarded-claims.Accepted in_range strict_sound (λ n. Err (OutOfRange n)) (λ n. refl)

-- "For sizes and lengths that pass the checks", check 12 included (M-104), and "an exact data length" (M-107)
module _ (d : List ℕ) (pic : Picture) (image : List ℕ) (a : Answer) (new : List ℕ) (p : ReadsStrict d pic image a new)
    (ok : 0 ∷ [] ≡ verdict (strict_checks pic d image)) where
  -- "refuses exactly when some block ..": where there is one, it refuses, "and it names the first such block"; nothing changes
  pub strict_refuses_and_names_the_first : (n : ℕ) → n < blocks pic → bad d n ≡ true → Refused d pic image a new
  unfolding size_of
  strict_refuses_and_names_the_first =
      guarded-claims.refuses_and_names_the_first in_range strict_sound (λ n. Err (OutOfRange n)) (λ n. refl) d pic image a new
      (strict_checks pic d image) tt p ok

  -- ".. exactly": where there is none, it accepts, "and each pixel is the one that the Khronos ETC2 RGB rule gives"
  pub strict_accepts_otherwise : ((n : ℕ) → n < blocks pic → bad d n ≡ false) → Accepted d pic image a new
  unfolding size_of
  strict_accepts_otherwise =
      guarded-claims.accepts_otherwise in_range strict_sound (λ n. Err (OutOfRange n)) (λ n. refl) d pic image a new (strict_checks pic d image) tt p ok

-- what plain ETC1 shows at a pixel is what ETC2 RGB shows there, unless the pixel's own block is out of range
pub etc1_differs_only_out_of_range : (d : List ℕ) (pic : Picture) (k : ℕ) → out_of_range_lem (bytes_of 8 d (block_at pic k)) ≡ false
    → pixel_at (shows_of Etc1) 8 pic d k ≡ pixel_at (shows_of Etc2Rgb) 8 pic d k
unfolding size_of
etc1_differs_only_out_of_range d pic k e = guarded-claims.differs_only_there in_range strict_sound d pic k e

-- so of pictures of the same bytes that both readers accept over one image, every element is the same outside the tiles of
-- out-of-range blocks
pub old_reader_differs_only_there : (d : List ℕ) (pic : Picture) (image old new : List ℕ) (a b : Answer)
    → ReadsPicture Etc1 d pic image a old
    → ReadsPicture Etc2Rgb d pic image b new
    → accepts (said a) ≡ true
    → accepts (said b) ≡ true
    → (k : ℕ)
    → k < length image
    → out_of_range_lem (bytes_of 8 d (block_at pic k)) ≡ false
    → get_or old k 0 ≡ get_or new k 0
unfolding size_of
old_reader_differs_only_there d pic = guarded-claims.older_reader_differs_only_there in_range strict_sound d pic

-- What Pictures.antt says of the readers of the formats, of strict ETC1.
module _ (d : List ℕ) (pic : Picture) (image : List ℕ) where
  module _ (new : List ℕ) (p : ReadsStrict d pic image (Ok tt) new) where
    -- a picture that it has done shows at (x, y) what ETC2 RGB says of block number (y / 4) * ceil(width / 4) + x / 4, in its
    -- column x % 4 and row y % 4
    pub every_pixel_of_a_strict_picture : (x y : ℕ) → x < pic.width → y < pic.height
        → get_or new (element pic x y) 0 ≡ shows_of Etc2Rgb (bytes_of 8 d (block_of pic x y)) (x % 4) (y % 4)
    unfolding size_of
    every_pixel_of_a_strict_picture =
        let k = passed_exactly_by 8 pic (length d) (length image) (guarded 4 (bad d) (blocks pic)) (Ok tt) p.says refl in
        each_accepted_pixel (shows_of Etc2Rgb) 8 pic image (strict_verdict pic d image) d (Ok tt) new p refl
        (roomy pic (length image) k.fits k.roomy)

    -- and one that differs from it in block n alone differs at most in that block's clipped tile
    pub one_block_changes_its_own_tile_in_strict : (e new' : List ℕ) (n : ℕ) → Beside 8 pic n d e → ReadsStrict e pic image (Ok tt) new'
        → OnlyInTile pic n new new'
    unfolding size_of
    one_block_changes_its_own_tile_in_strict e new' n z q =
        own_tile (shows_of Etc2Rgb) 8 pic image (strict_verdict pic d image)
        (strict_verdict pic e image) d e (Ok tt) (Ok tt) new new' p q n z refl refl

  module _ (a : Answer) (new : List ℕ) (p : ReadsStrict d pic image a new) where
    -- no element behind it, nor any element of a refused one, has changed
    pub strict_changes_nothing_else : (k : ℕ) → k < length image → needed pic ≤ k → get_or new k 0 ≡ get_or image k 0
    unfolding size_of
    strict_changes_nothing_else k h o =
        only_its_own_pixels (shows_of Etc2Rgb) 8 pic image (strict_verdict pic d image) d a new p k h (beyond pic k o)

    -- and none in a gap
    pub strict_keeps_the_gaps : (x y : ℕ) → pic.width ≤ x → x < pic.pitch → element pic x y < length image
        → get_or new (element pic x y) 0 ≡ get_or image (element pic x y) 0
    unfolding size_of
    strict_keeps_the_gaps x y i j h =
        only_its_own_pixels (shows_of Etc2Rgb) 8 pic image (strict_verdict pic d image) d a new p (element pic x y) h (in_gap pic x y i j)

    -- width 0 or height 0, the other and a pitch no less than the width at most 65,536, and no bytes: accepted, and nothing changes
    pub strict_changes_nothing_of_an_empty_picture : Empty pic → over_limit_lem pic ≡ false → pic.width ≤ pic.pitch → length d ≡ 0
        → Same a (Ok tt) new image
    unfolding size_of
    strict_changes_nothing_of_an_empty_picture e t i z =
        let then = guarded 4 (bad d) (blocks pic) in
        an_empty_picture (shows_of Etc2Rgb) 8 pic image (strict_verdict pic d image) d a new p e
        (none_left 8 pic (length d) (length image) then (omega (arith, z))
        ∙ empty_passes 8 pic d image then e t i
        ∙ finds_none 4 (bad d) (blocks pic) (omega (arith, no_blocks pic e)))

    -- inputs of one length that agree on the blocks of the picture have one outcome
    pub strict_reads_no_data_beyond_the_last_block : (e : List ℕ) (b : Answer) (new' : List ℕ) → length d ≡ length e → Alike 8 pic d e
        → ReadsStrict e pic image b new' → Same a b new new'
    unfolding size_of
    strict_reads_no_data_beyond_the_last_block e b new' long same q =
        only_blocks_are_read (shows_of Etc2Rgb) 8 pic image (strict_verdict pic d image)
        (strict_verdict pic e image) d e a b new new' p q same
        (ap (λ (n : ℕ). judged (exact_checks 8 pic n (length image)) (guarded 4 (bad d) (blocks pic))) long
        ∙ ap (judged (exact_checks 8 pic (length e) (length image))) (guarded-claims.guard_alike in_range d e pic same))
