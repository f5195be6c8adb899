-- With a pitch equal to the width, every promise is the one that stood before M-104: answer and image are those of document 01, written out
-- here by width and height alone. The limit in refusal 1 is higher, and of sides within the old one no answer changed. So what was shown of
-- a width and a height, and whoever calls by them, stays settled. Of strict ETC1 it is said where nothing is left over (M-107).
-- Assumes nothing.
use mathlib.Core.Path.{◌≡◌, ◌∙◌, refl, sym, ap}
use mathlib.Core.Bool.{Bool, true, false, ◌||◌}
use mathlib.Core.List.{List, [], ◌∷◌}
use Prim.Native.Nat.{ℕ, ◌+◌, ◌*◌, ◌/◌, ◌%◌, ◌≤◌}
use native.Mathlib.Omega.{arith}
use borrow.Author.Tests.{le-ltb}
use lib.Dec.{ltb}
use lib.ListN.{length}
use Rattle.rules.specs.Pixel.{Shows}
use Rattle.rules.specs.Places.{sized, needed, across, bytes_of, pixel_at, painted}
use Rattle.rules.specs.Answers.{limit, Check, refusal, judged, verdict, left, data_check, image_check, picture_checks, exact_checks, guarded, Outcome}
use Rattle.rules.specs.Colour.{out_of_range_lem}
use Rattle.rules.specs.Formats.{size_of, shows_of}
use Rattle.rules.specs.Readers.{picture_of, ReadsPicture, ReadsStrict}
use Rattle.rules.specs.Answers.{Answer}
use Rattle.rules.specs.declared.Format.{Format}
use Rattle.rules.specs.declared.Format.TheVariants.{Etc2Rgb}
use Rattle.pixel.proofs.place.Plain.{needed_plain, painted_plain}
use Rattle.claims.proofs.Alike.{none_left}

-- ---- document 01, by width and height

-- "pixel (x, y) is element y * width + x", so element k is in column k % width and row k / width
abbrev pub pixel_before : Shows → ℕ → ℕ → List ℕ → ℕ → ℕ
pixel_before shows s w d k = shows (bytes_of s d (k / w / 4 * across w + k % w / 4)) (k % w % 4) (k / w % 4)

-- "elements from width * height on keep their value"
abbrev pub picture_before : Format → ℕ → ℕ → List ℕ → List ℕ → List ℕ
picture_before f w h d image = painted (λ k. ltb k (w * h)) (pixel_before (shows_of f) (size_of f) w d) image

-- 1 "width or height above" a limit, 2 "fewer bytes than blocks * block size", 3 "fewer image elements than width * height", "in that
-- order"
abbrev pub checks_before : ℕ → ℕ → ℕ → ℕ → ℕ → ℕ → List Check
checks_before most s w h bytes elements =
    refusal 1 (ltb most w || ltb most h)
    ∷ refusal 2 (ltb bytes (across w * across h * s))
    ∷ refusal 3 (ltb elements (w * h))
    ∷ []

abbrev pub ReadsBefore : ℕ → Format → List ℕ → ℕ → ℕ → List ℕ → Answer → List ℕ → Type 0
ReadsBefore most f d w h image a new =
    Outcome (verdict (checks_before most (size_of f) w h (length d) (length image))) (picture_before f w h d image) a image new

-- and strict ETC1, with 4 after these
abbrev pub StrictBefore : ℕ → List ℕ → ℕ → ℕ → List ℕ → Answer → List ℕ → Type 0
StrictBefore most d w h image a new =
    Outcome
    (judged (checks_before most 8 w h (length d) (length image)) (guarded 4 (λ n. out_of_range_lem (bytes_of 8 d n)) (across w * across h)))
    (picture_before Etc2Rgb w h d image)
    a
    image
    new

-- ---- the promises of today are these

-- a promise of one verdict and one picture is that of another that are the same
moved : (v v' after after' old new : List ℕ) (a : Answer) → v ≡ v' → after ≡ after' → Outcome v after a old new → Outcome v' after' a old new
moved v v' after after' old new a e f o =
    record {
      says = o.says ∙ e;
      leaves = o.leaves ∙ ap (λ (z : List ℕ). left z after old) e ∙ ap (λ (z : List ℕ). left v' z old) f;
    }

twice : (x y : Bool) → ((x || y) || x) ≡ (x || y)
twice true y = refl
twice false true = refl
twice false false = refl

module _ (s w h bytes elements : ℕ) (then : List ℕ) where
  -- the pitch, which is the width, is too large where the width is, and never below it
  checks_as_before : judged (picture_checks s (sized w h) bytes elements) then ≡ judged (checks_before limit s w h bytes elements) then
  checks_as_before =
      let second = data_check (across w * across h * s) bytes in
      let third = image_check (needed (sized w h)) elements in
      ap (λ (t : Bool). judged (refusal 1 t ∷ refusal 12 (ltb w w) ∷ second ∷ third ∷ []) then) (twice (ltb limit w) (ltb limit h))
      ∙ ap (λ (t : Bool). judged (refusal 1 (ltb limit w || ltb limit h) ∷ refusal 12 t ∷ second ∷ third ∷ []) then) (le-ltb w w (omega arith))
      ∙ ap (λ (n : ℕ). judged (refusal 1 (ltb limit w || ltb limit h) ∷ second ∷ image_check n elements ∷ []) then) (needed_plain w h)

  -- of sides within two limits, both say the same
  within_both : (most other : ℕ) → w ≤ most → h ≤ most → w ≤ other → h ≤ other → judged (checks_before most s w h bytes elements) then ≡ judged (checks_before other s w h bytes elements) then
  within_both most other i j k l =
      rw (le-ltb most w i, le-ltb most h j, le-ltb other w k, le-ltb other h l)

-- the picture
picture_as_before : (f : Format) (w h : ℕ) (d image : List ℕ) → picture_of f (sized w h) d image ≡ picture_before f w h d image
picture_as_before f w h d image = painted_plain w h (pixel_at (shows_of f) (size_of f) (sized w h) d) image

module _ (d : List ℕ) (w h : ℕ) (image : List ℕ) (a : Answer) (new : List ℕ) where
  module _ (f : Format) where
    verdict_as_before : verdict (picture_checks (size_of f) (sized w h) (length d) (length image)) ≡ verdict (checks_before limit (size_of f) w h (length d) (length image))
    verdict_as_before = checks_as_before (size_of f) w h (length d) (length image) (0 ∷ [])

    -- the promise of a picture reader, both ways
    pub without_a_pitch_as_before : ReadsPicture f d (sized w h) image a new → ReadsBefore limit f d w h image a new
    without_a_pitch_as_before = moved _ _ _ _ image new a verdict_as_before (picture_as_before f w h d image)

    pub as_before_without_a_pitch : ReadsBefore limit f d w h image a new → ReadsPicture f d (sized w h) image a new
    as_before_without_a_pitch = moved _ _ _ _ image new a (sym verdict_as_before) (sym (picture_as_before f w h d image))

    -- and of sides that the old limit, 16,384, let pass, with that limit
    module _ (narrow : w ≤ 16384) (low : h ≤ 16384) where
      same_verdict : verdict (checks_before limit (size_of f) w h (length d) (length image)) ≡ verdict (checks_before 16384 (size_of f) w h (length d) (length image))
      same_verdict = within_both (size_of f) w h (length d) (length image) (0 ∷ []) limit 16384 (omega arith) (omega arith) narrow low

      pub within_the_old_limit_as_before : ReadsPicture f d (sized w h) image a new → ReadsBefore 16384 f d w h image a new
      within_the_old_limit_as_before p = moved _ _ _ _ image new a same_verdict refl (without_a_pitch_as_before p)

      pub as_before_within_the_old_limit : ReadsBefore 16384 f d w h image a new → ReadsPicture f d (sized w h) image a new
      as_before_within_the_old_limit p = as_before_without_a_pitch (moved _ _ _ _ image new a (sym same_verdict) refl p)

  -- the promise of strict ETC1, both ways, of bytes that are no more than the blocks need
  module _ (few : length d ≤ across w * across h * 8) where
    strict_checks_as_before : (then : List ℕ) → judged (exact_checks 8 (sized w h) (length d) (length image)) then ≡ judged (checks_before limit 8 w h (length d) (length image)) then
    strict_checks_as_before then =
        none_left 8 (sized w h) (length d) (length image) then few ∙ checks_as_before 8 w h (length d) (length image) then

    pub strict_without_a_pitch_as_before : ReadsStrict d (sized w h) image a new → StrictBefore limit d w h image a new
    unfolding size_of
    strict_without_a_pitch_as_before =
        moved _ _ _ _ image new a (strict_checks_as_before (guarded 4 (λ n. out_of_range_lem (bytes_of 8 d n)) (across w * across h))) (picture_as_before Etc2Rgb w h d image)

    pub strict_as_before_without_a_pitch : StrictBefore limit d w h image a new → ReadsStrict d (sized w h) image a new
    unfolding size_of
    strict_as_before_without_a_pitch =
        moved _ _ _ _ image new a (sym (strict_checks_as_before (guarded 4 (λ n. out_of_range_lem (bytes_of 8 d n)) (across w * across h)))) (sym (picture_as_before Etc2Rgb w h d image))
