-- M-109, over the promise of the reader of RGBA1 for an opaque-only viewer and the Khronos definitions of ETC2 RGB and RGBA1: that
-- reader is a guard (Guarded.antt). And what follows for a reader of RGB that has none.
-- Assumes nothing.
use mathlib.Core.Path.{◌≡◌, ◌∙◌, refl, sym, ap}
use mathlib.Core.Bool.{Bool, true, false}
use mathlib.Core.List.{List, [], ◌∷◌, ◌++◌}
use Prim.Native.Nat.{ℕ, ◌*◌, ◌%◌, ◌<◌, ◌≤◌}
use native.Mathlib.Omega.{arith}
use lib.Dec.{lit<}
use lib.ListN.{length, get_or}
use Rattle.rules.specs.Places.{element, needed, blocks, block_of, block_at, bytes_of, pixel_at, Alike, Beside}
use Rattle.rules.specs.Answers.{said, accepts, over_limit_lem, left, verdict, guarded}
use Rattle.rules.specs.Formats.{size_of, shows_of}
use Rattle.rules.specs.Guards.{not_opaque, opaque_only}
use Rattle.rules.specs.Readers.{picture_of, opaque_checks, opaque_verdict, ReadsPicture, ReadsOpaque}
use Rattle.rules.specs.Answers.{Answer}
use Rattle.rules.specs.declared.Refusal.TheVariants.{NotOpaque}
use Rattle.std.specs.Prelude.{Ok, Err}
use Rattle.rules.specs.declared.Format.TheVariants.{Etc2Rgb, Etc2Rgba1}
use Rattle.rules.specs.declared.Picture.{Picture}
use Rattle.laws.proofs.Guards.{opaque_sound, finds_none, none_bad}
use Rattle.laws.proofs.Judged.{Clear, all_pass, passed as all-passed}
use Rattle.pixel.proofs.place.Grid.{beyond, in_gap, roomy}
use Rattle.checks.proofs.Checks.{passed_by_lem}
use Rattle.claims.proofs.Outcomes.{Same}
use Rattle.claims.proofs.Alike.{OnlyInTile, verdict_alike, behind}
use Rattle.claims.proofs.Guarded as guarded-claims
use Rattle.claims.proofs.Pictures.{
  Empty,
  no_blocks,
  empty_passes,
  only_its_own_pixels,
  each_accepted_pixel,
  an_empty_picture,
  own_tile,
  only_blocks_are_read,
}

-- "some block has its opaque bit clear"
abbrev pub clear : List ℕ → ℕ → Bool
clear d n = not_opaque (bytes_of 8 d n)

-- the refusal with 11 that names the first such block, and the acceptance, by the RGBA1 rule and by the RGB rule
abbrev pub Refused : List ℕ → Picture → List ℕ → Answer → List ℕ → Type 0
Refused = guarded-claims.Refused opaque_only opaque_sound (λ n. Err (NotOpaque n)) (λ n. refl)

abbrev pub Accepted : List ℕ → Picture → List ℕ → Answer → List ℕ → Type 0
Accepted = guarded-claims.Accepted opaque_only opaque_sound (λ n. Err (NotOpaque n)) (λ n. refl)

-- "Checks 1, 12, 2, 3 come first."
module _ (d : List ℕ) (pic : Picture) (image : List ℕ) (a : Answer) (new : List ℕ) (p : ReadsOpaque d pic image a new)
    (ok : 0 ∷ [] ≡ verdict (opaque_checks pic d image)) where
  -- "refuses with 11 exactly when some block has its opaque bit clear, names the first one, and paints nothing then"
  pub opaque_refuses_and_names_the_first : (n : ℕ) → n < blocks pic → clear d n ≡ true → Refused d pic image a new
  unfolding size_of
  opaque_refuses_and_names_the_first =
      guarded-claims.refuses_and_names_the_first opaque_only opaque_sound (λ n. Err (NotOpaque n)) (λ n. refl) d pic image a new
      (opaque_checks pic d image) tt p ok

  -- "exactly"; and "Where it accepts, every pixel equals the Khronos RGB reading and the RGBA1 reading of the same bytes."
  pub opaque_accepts_otherwise : ((n : ℕ) → n < blocks pic → clear d n ≡ false) → Accepted d pic image a new
  unfolding size_of
  opaque_accepts_otherwise =
      guarded-claims.accepts_otherwise opaque_only opaque_sound (λ n. Err (NotOpaque n)) (λ n. refl) d pic image a new (opaque_checks pic d image) tt p ok

-- "Where it accepts, every pixel equals the Khronos RGB reading and the RGBA1 reading of the same bytes", with nothing left to look up:
-- what it has done is what the reader of either format promises
module _ (d : List ℕ) (pic : Picture) (image new : List ℕ) (p : ReadsOpaque d pic image (Ok tt) new) where
  abbrev then : List ℕ
  then = guarded 11 (clear d) (blocks pic)

  all_clear : Clear (opaque_checks pic d image)
  unfolding size_of
  all_clear = all-passed (opaque_checks pic d image) then tt (sym (ap accepts p.says))

  ok : 0 ∷ [] ≡ verdict (opaque_checks pic d image)
  ok = sym (all_pass (opaque_checks pic d image) (0 ∷ []) all_clear)

  pub no_block_is_clear : (n : ℕ) → n < blocks pic → clear d n ≡ false
  unfolding size_of
  no_block_is_clear =
      none_bad 11 (clear d) (blocks pic) (lit< tt) (sym (all_pass (opaque_checks pic d image) then all_clear) ∙ sym p.says)

  accepted : Accepted d pic image (Ok tt) new
  accepted = opaque_accepts_otherwise d pic image (Ok tt) new p ok no_block_is_clear

  pub the_rgb_reader_does_the_same : ReadsPicture Etc2Rgb d pic image (Ok tt) new
  unfolding size_of
  the_rgb_reader_does_the_same =
      record { says = ok; leaves = accepted.shows_own ∙ ap (λ (v : List ℕ). left v (picture_of Etc2Rgb pic d image) image) ok }

  pub the_rgba1_reader_does_the_same : ReadsPicture Etc2Rgba1 d pic image (Ok tt) new
  unfolding size_of
  the_rgba1_reader_does_the_same =
      record { says = ok; leaves = accepted.shows ∙ ap (λ (v : List ℕ). left v (picture_of Etc2Rgba1 pic d image) image) ok }

-- what RGB shows at a pixel is what RGBA1 shows there, unless the pixel's own block has its opaque bit clear
pub rgb_differs_only_where_clear : (d : List ℕ) (pic : Picture) (k : ℕ) → not_opaque (bytes_of 8 d (block_at pic k)) ≡ false
    → pixel_at (shows_of Etc2Rgb) 8 pic d k ≡ pixel_at (shows_of Etc2Rgba1) 8 pic d k
unfolding size_of
rgb_differs_only_where_clear d pic k e = guarded-claims.differs_only_there opaque_only opaque_sound d pic k e

-- so of pictures of the same bytes that both readers accept over one image, every element is the same outside the tiles of such blocks
pub rgb_reader_differs_only_there : (d : List ℕ) (pic : Picture) (image old new : List ℕ) (a b : Answer)
    → ReadsPicture Etc2Rgb d pic image a old
    → ReadsPicture Etc2Rgba1 d pic image b new
    → accepts (said a) ≡ true
    → accepts (said b) ≡ true
    → (k : ℕ)
    → k < length image
    → not_opaque (bytes_of 8 d (block_at pic k)) ≡ false
    → get_or old k 0 ≡ get_or new k 0
unfolding size_of
rgb_reader_differs_only_there d pic = guarded-claims.older_reader_differs_only_there opaque_only opaque_sound d pic

-- What Pictures.antt says of the readers of the formats, of this one.
module _ (d : List ℕ) (pic : Picture) (image : List ℕ) where
  module _ (new : List ℕ) (p : ReadsOpaque d pic image (Ok tt) new) where
    -- a picture that it has done shows at (x, y) what RGBA1 says of block number (y / 4) * ceil(width / 4) + x / 4, in its column
    -- x % 4 and row y % 4
    pub every_pixel_of_an_opaque_picture : (x y : ℕ) → x < pic.width → y < pic.height
        → get_or new (element pic x y) 0 ≡ shows_of Etc2Rgba1 (bytes_of 8 d (block_of pic x y)) (x % 4) (y % 4)
    unfolding size_of
    every_pixel_of_an_opaque_picture =
        let k = passed_by_lem 8 pic (length d) (length image) (guarded 11 (clear d) (blocks pic)) (Ok tt) p.says refl in
        each_accepted_pixel (shows_of Etc2Rgba1) 8 pic image (opaque_verdict pic d image) d (Ok tt) new p refl
        (roomy pic (length image) k.fits k.roomy)

    -- and one that differs from it in block n alone differs at most in that block's clipped tile
    pub one_block_changes_its_own_tile_in_opaque : (e new' : List ℕ) (n : ℕ) → Beside 8 pic n d e → ReadsOpaque e pic image (Ok tt) new'
        → OnlyInTile pic n new new'
    unfolding size_of
    one_block_changes_its_own_tile_in_opaque e new' n z q =
        own_tile (shows_of Etc2Rgba1) 8 pic image (opaque_verdict pic d image)
        (opaque_verdict pic e image) d e (Ok tt) (Ok tt) new new' p q n z refl refl

  module _ (a : Answer) (new : List ℕ) (p : ReadsOpaque d pic image a new) where
    -- no element behind it, nor any element of a refused one, has changed
    pub opaque_changes_nothing_else : (k : ℕ) → k < length image → needed pic ≤ k → get_or new k 0 ≡ get_or image k 0
    unfolding size_of
    opaque_changes_nothing_else k h o =
        only_its_own_pixels (shows_of Etc2Rgba1) 8 pic image (opaque_verdict pic d image) d a new p k h (beyond pic k o)

    -- and none in a gap
    pub opaque_keeps_the_gaps : (x y : ℕ) → pic.width ≤ x → x < pic.pitch → element pic x y < length image
        → get_or new (element pic x y) 0 ≡ get_or image (element pic x y) 0
    unfolding size_of
    opaque_keeps_the_gaps x y i j h =
        only_its_own_pixels (shows_of Etc2Rgba1) 8 pic image (opaque_verdict pic d image) d a new p (element pic x y) h (in_gap pic x y i j)

    -- width 0 or height 0, the other and a pitch no less than the width at most 65,536: accepted, and nothing changes
    pub opaque_changes_nothing_of_an_empty_picture : Empty pic → over_limit_lem pic ≡ false → pic.width ≤ pic.pitch → Same a (Ok tt) new image
    unfolding size_of
    opaque_changes_nothing_of_an_empty_picture e t i =
        let then = guarded 11 (clear d) (blocks pic) in
        an_empty_picture (shows_of Etc2Rgba1) 8 pic image (opaque_verdict pic d image) d a new p e
        (empty_passes 8 pic d image then e t i ∙ finds_none 11 (clear d) (blocks pic) (omega (arith, no_blocks pic e)))

    -- inputs that agree on the blocks of the picture have one outcome
    pub opaque_reads_no_data_beyond_the_last_block : (e : List ℕ) (b : Answer) (new' : List ℕ) → Alike 8 pic d e
        → ReadsOpaque e pic image b new' → Same a b new new'
    unfolding size_of
    opaque_reads_no_data_beyond_the_last_block e b new' same q =
        only_blocks_are_read (shows_of Etc2Rgba1) 8 pic image (opaque_verdict pic d image)
        (opaque_verdict pic e image) d e a b new new' p q same
        (verdict_alike 8 pic d e same (lit< tt) (length image) (guarded 11 (clear d) (blocks pic)) (guarded 11 (clear e) (blocks pic))
        (guarded-claims.guard_alike opaque_only d e pic same))

    -- so what follows the blocks is ignored
    pub opaque_ignores_what_follows : (more : List ℕ) (b : Answer) (new' : List ℕ) → blocks pic * 8 ≤ length d
        → ReadsOpaque (d ++ more) pic image b new' → Same a b new new'
    opaque_ignores_what_follows more b new' h =
        opaque_reads_no_data_beyond_the_last_block (d ++ more) b new' (behind 8 pic d more h)
