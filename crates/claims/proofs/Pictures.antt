-- What demands 1 and 2 and document 01 claim of a picture, over the promise that all picture readers share: `Outcome`, whatever is
-- checked, and a picture painted by any rule for pixels and any size of block. For a user, each is then said of every format at
-- once; of strict ETC1 it is said in Strict.antt.
-- Assumes nothing.
use mathlib.Core.Path.{◌≡◌, ◌∙◌, refl, sym, ap, subst}
use mathlib.Core.Bool.{Bool, true, false, cond}
use mathlib.Core.List.{List, [], ◌∷◌, ◌++◌}
use mathlib.Core.Logic.{◌⊎◌, ⊎_elim}
use Prim.Native.Nat.{ℕ, ◌*◌, ◌%◌, ◌<◌, ◌≤◌}
use native.Mathlib.Omega.{arith}
use native.Mathlib.Nat.{zero-mul, mul-zero}
use borrow.Author.Tests.{le-ltb}
use lib.Dec.{T}
use lib.ListN.{length, get_or}
use lib.Seq.{ext_get_or}
use Rattle.rules.specs.Pixel.{Shows}
use Rattle.rules.specs.Places.{across, needed, blocks, inside, element, row, block_of, bytes_of, pixel_at, Alike, Beside}
use Rattle.rules.specs.Answers.{said, accepts, over_limit_lem, judged, picture_checks, Outcome}
use Rattle.rules.specs.Formats.{size_of, shows_of}
use Rattle.rules.specs.Readers.{ReadsPicture}
use Rattle.rules.specs.Answers.{Answer}
use Rattle.std.specs.Prelude.{Ok, Err}
use Rattle.rules.specs.declared.Format.{Format}
use Rattle.rules.specs.declared.Picture.{Picture}
use Rattle.laws.proofs.Paint.{get_d_painted}
use Rattle.laws.proofs.Judged.{all_pass}
use Rattle.laws.proofs.Unique.{answer}
use Rattle.pixel.specs.place.Tile.{Room}
use Rattle.pixel.proofs.place.Grid.{column_at, row_at, inside_at, none_needed, beyond, in_gap, roomy}
use Rattle.checks.proofs.Checks.{passed_by_lem}
use Rattle.laws.proofs.Reach.{some_bytes}
use Rattle.claims.proofs.Outcomes.{Same, same_outcome, an_acceptance_paints, the_length_stays, the_rest_stays}
use Rattle.claims.proofs.Alike.{over, OnlyInTile, beside_in_tile, picture_alike, verdict_alike, behind}

pub holds : (t : Bool) → T t → t ≡ true
holds true h = refl
holds false h = absurd h

-- width 0 or height 0
abbrev pub Empty : Picture → Type 0
Empty p = (p.width ≡ 0) ⊎ (p.height ≡ 0)

pub no_blocks : (pic : Picture) → Empty pic → blocks pic ≡ 0
no_blocks pic = ⊎_elim (λ e. rw e (zero-mul (across pic.height))) (λ e. rw e (mul-zero (across pic.width)))

pub no_pixels : (pic : Picture) → Empty pic → needed pic ≡ 0
no_pixels pic = none_needed pic

-- an empty picture that is not too large, and whose pitch is no less than its width, passes every check
pub empty_passes : (s : ℕ) (pic : Picture) (d image then : List ℕ) → Empty pic → over_limit_lem pic ≡ false → pic.width ≤ pic.pitch
    → judged (picture_checks s pic (length d) (length image)) then ≡ then
empty_passes s pic d image then e t f =
    let few : blocks pic * s ≡ 0 = rw (no_blocks pic e) (zero-mul s) in
    let none = no_pixels pic e in
    all_pass (picture_checks s pic (length d) (length image)) then
    (record {
      first = t;
      rest =
          record {
            first = le-ltb pic.pitch pic.width f;
            rest =
                record {
                  first = le-ltb (length d) (blocks pic * s) (omega arith);
                  rest = record { first = le-ltb (length image) (needed pic) (omega arith); rest = record {} };
                };
          };
    })

-- the pixel at the element of (x, y): what block number (y / 4) * ceil(width / 4) + x / 4 shows in its column x % 4 and row y % 4
pub pixel_of_lem : (shows : Shows) (s : ℕ) (pic : Picture) (d : List ℕ) (x y : ℕ) → x < pic.pitch
    → pixel_at shows s pic d (element pic x y) ≡ shows (bytes_of s d (block_of pic x y)) (x % 4) (y % 4)
pixel_of_lem shows s pic d x y h =
    let at = element pic x y in
    ap (λ (c : ℕ). shows (bytes_of s d (block_of pic c (row pic at))) (c % 4) (row pic at % 4)) (column_at pic x y h)
    ∙ ap (λ (r : ℕ). shows (bytes_of s d (block_of pic x r)) (x % 4) (r % 4)) (row_at pic x y h)

module _ (shows : Shows) (s : ℕ) (pic : Picture) (image : List ℕ) where
  -- the promise of a picture reader with this verdict
  abbrev pub Reads : List ℕ → List ℕ → Answer → List ℕ → Type 0
  Reads verdict d a new = Outcome verdict (over shows s pic image d) a image new

  module _ (verdict d : List ℕ) (a : Answer) (new : List ℕ) (p : Reads verdict d a new) where
    -- "An accepted picture alters only its own width times height pixels." (demand 1), which "then mean[s] these elements" (M-104)
    pub only_its_own_pixels : (k : ℕ) → k < length image → inside pic k ≡ false → get_or new k 0 ≡ get_or image k 0
    only_its_own_pixels k h o = the_rest_stays (inside pic) (pixel_at shows s pic d) verdict image new a p k h o

    -- "Every accepted pixel is what the Khronos text says of its own block and place" (demand 2): pixel (x, y) is what block
    -- number (y / 4) * ceil(width / 4) + x / 4 shows in its column x % 4 and row y % 4
    pub each_accepted_pixel : accepts (said a) ≡ true
        → Room pic (length image)
        → (x y : ℕ)
        → x < pic.width
        → y < pic.height
        → get_or new (element pic x y) 0 ≡ shows (bytes_of s d (block_of pic x y)) (x % 4) (y % 4)
    each_accepted_pixel r room x y i j =
        let at = element pic x y in
        let own = inside_at pic room.fits x y i j in
        let wide : x < pic.pitch = omega (arith, room.fits) in
        let within : at < length image = room.reach at own in
        ap (λ (l : List ℕ). get_or l at 0) (an_acceptance_paints verdict (over shows s pic image d) image new a p r)
        ∙ get_d_painted (inside pic) (pixel_at shows s pic d) image at within
        ∙ ap (λ (t : Bool). cond t (pixel_at shows s pic d at) (get_or image at 0)) (holds (inside pic at) own)
        ∙ pixel_of_lem shows s pic d x y wide

    -- "Width 0 or height 0, where the checks pass, is accepted and changes nothing."
    pub an_empty_picture : Empty pic → verdict ≡ 0 ∷ [] → Same a (Ok tt) new image
    an_empty_picture e q =
        let none = no_pixels pic e in
        let long = the_length_stays (inside pic) (pixel_at shows s pic d) verdict image new a p in (
          answer a (Ok tt) (p.says ∙ q),
          ext_get_or 0 new image long (λ k h. only_its_own_pixels k (omega (arith, long)) (beyond pic k (omega arith))),
        )

  module _ (verdict verdict' d e : List ℕ) (a b : Answer) (new new' : List ℕ) (p : Reads verdict d a new)
      (q : Reads verdict' e b new') where
    -- "Two pictures of one size, accepted by one reader over equal images, that differ in one block differ at most in that
    -- block's clipped tile." (demand 2)
    pub own_tile : (n : ℕ) → Beside s pic n d e → accepts (said a) ≡ true → accepts (said b) ≡ true → OnlyInTile pic n new new'
    own_tile n z r t =
        subst (λ (l : List ℕ). OnlyInTile pic n l new') (sym (an_acceptance_paints _ _ image new a p r))
        (subst (λ (l : List ℕ). OnlyInTile pic n (over shows s pic image d) l) (sym (an_acceptance_paints _ _ image new' b q t))
        (beside_in_tile s pic d e shows n z image))

    -- "Data beyond the last block is not read": the blocks alone decide
    pub only_blocks_are_read : Alike s pic d e → verdict ≡ verdict' → Same a b new new'
    only_blocks_are_read same v =
        same_outcome _ _ _ _ image a b new new' v (picture_alike s pic d e same shows image) p q

-- The same for a user, with nothing left to look up.
module _ (f : Format) (d : List ℕ) (pic : Picture) (image : List ℕ) where
  module _ (new : List ℕ) (p : ReadsPicture f d pic image (Ok tt) new) where
    -- a picture that a reader of format f has done shows at (x, y) what the rule of f says of block number
    -- (y / 4) * ceil(width / 4) + x / 4, in its column x % 4 and row y % 4
    pub every_pixel_of_a_picture : (x y : ℕ) → x < pic.width → y < pic.height
        → get_or new (element pic x y) 0 ≡ shows_of f (bytes_of (size_of f) d (block_of pic x y)) (x % 4) (y % 4)
    every_pixel_of_a_picture =
        let k = passed_by_lem (size_of f) pic (length d) (length image) (0 ∷ []) (Ok tt) p.says refl in
        each_accepted_pixel (shows_of f) (size_of f) pic image _ d (Ok tt) new p refl (roomy pic (length image) k.fits k.roomy)

    -- and one that differs from it in block n alone differs at most in that block's clipped tile
    pub one_block_changes_its_own_tile : (e new' : List ℕ) (n : ℕ) → Beside (size_of f) pic n d e → ReadsPicture f e pic image (Ok tt) new'
        → OnlyInTile pic n new new'
    one_block_changes_its_own_tile e new' n z q =
        own_tile (shows_of f) (size_of f) pic image _ _ d e (Ok tt) (Ok tt) new new' p q n z refl refl

  module _ (new : List ℕ) (a : Answer) (p : ReadsPicture f d pic image a new) where
    -- no element behind it, nor any element of a refused one, has changed
    pub nothing_else_changes : (k : ℕ) → k < length image → needed pic ≤ k → get_or new k 0 ≡ get_or image k 0
    nothing_else_changes k h o =
        only_its_own_pixels (shows_of f) (size_of f) pic image _ d a new p k h (beyond pic k o)

    -- "Elements in the gaps keep their value." (M-104), accepted or refused
    pub the_gaps_keep_their_value : (x y : ℕ) → pic.width ≤ x → x < pic.pitch → element pic x y < length image
        → get_or new (element pic x y) 0 ≡ get_or image (element pic x y) 0
    the_gaps_keep_their_value x y i j h =
        only_its_own_pixels (shows_of f) (size_of f) pic image _ d a new p (element pic x y) h (in_gap pic x y i j)

    -- width 0 or height 0, the other and a pitch no less than the width at most 65,536, is accepted and changes nothing
    pub an_empty_picture_changes_nothing : Empty pic → over_limit_lem pic ≡ false → pic.width ≤ pic.pitch → Same a (Ok tt) new image
    an_empty_picture_changes_nothing e t i =
        an_empty_picture (shows_of f) (size_of f) pic image _ d a new p e (empty_passes (size_of f) pic d image (0 ∷ []) e t i)

    -- inputs that agree on the blocks of the picture have one outcome
    pub data_beyond_the_last_block_is_not_read : (e : List ℕ) (b : Answer) (new' : List ℕ) → Alike (size_of f) pic d e
        → ReadsPicture f e pic image b new' → Same a b new new'
    data_beyond_the_last_block_is_not_read e b new' same q =
        only_blocks_are_read (shows_of f) (size_of f) pic image _ _ d e a b new new' p q same
        (verdict_alike (size_of f) pic d e same (some_bytes f) (length image) (0 ∷ []) (0 ∷ []) refl)

    -- and so has an input with anything put behind its blocks
    pub more_data_changes_nothing : (more : List ℕ) (b : Answer) (new' : List ℕ) → blocks pic * size_of f ≤ length d
        → ReadsPicture f (d ++ more) pic image b new' → Same a b new new'
    more_data_changes_nothing more b new' enough =
        data_beyond_the_last_block_is_not_read (d ++ more) b new' (behind (size_of f) pic d more enough)
