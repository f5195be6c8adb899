-- The checks without an image "refuse exactly as the readers do": where the image is long enough the answers are the same, whatever the
-- bytes and the size; and where it is not, the reader's may be 3 instead, and nothing else.
-- Assumes nothing.
use mathlib.Core.Path.{◌≡◌, ◌∙◌, sym}
use mathlib.Core.List.{List}
use mathlib.Core.Logic.{◌⊎◌, inl, inr, ⊎_elim}
use Prim.Native.Nat.{ℕ, ◌≤◌}
use lib.ListN.{length}
use Rattle.rules.specs.Places.{sized, needed, blocks}
use Rattle.rules.specs.Answers.{said, judged, guarded}
use Rattle.rules.specs.Guards.{bad_at}
use Rattle.rules.specs.Readers.{ReadsStrict, ReadsOpaque, ChecksStrict, ChecksOpaque}
use Rattle.rules.specs.Answers.{Answer}
use Rattle.std.specs.Prelude.{Err}
use Rattle.rules.specs.declared.Refusal.TheVariants.{ShortImage}
use Rattle.laws.proofs.Unique.{answer}
use Rattle.guard.specs.Viewers.{guard_of}
use Rattle.guard.specs.declared.Viewer.{Viewer}
use Rattle.guard.specs.declared.Viewer.TheVariants.{Etc1, Opaque}
use Rattle.picture.specs.Checked.{checks_for, data_checks_for}
use Rattle.picture.proofs.Room.{without_image, or_short}

module _ (viewer : Viewer) (d : List ℕ) (w h elements : ℕ) (a b : Answer) where
  abbrev then : List ℕ
  then = guarded (guard_of viewer).number (bad_at (guard_of viewer) d) (blocks (sized w h))

  module _ (check : said a ≡ judged (data_checks_for viewer (sized w h) (length d)) then) (read : said b ≡ judged (checks_for viewer (sized w h) (length d) elements) then) where
    same : needed (sized w h) ≤ elements → a ≡ b
    same long = answer a b (check ∙ sym (without_image w h elements (λ e. long) viewer (length d) then) ∙ sym read)

    same_or_short : (b ≡ Err ShortImage) ⊎ (a ≡ b)
    same_or_short =
        ⊎_elim
        (λ e. inl (answer b (Err ShortImage) (read ∙ e)))
        (λ e. inr (answer a b (check ∙ sym e ∙ sym read)))
        (or_short w h elements viewer (length d) then)

module _ (d : List ℕ) (w h : ℕ) (image : List ℕ) (a b : Answer) (new : List ℕ) where
  -- strict ETC1
  module _ (check : ChecksStrict d (sized w h) a) (read : ReadsStrict d (sized w h) image b new) where
    pub check_strict_answers_as_the_reader : needed (sized w h) ≤ length image → a ≡ b
    check_strict_answers_as_the_reader = same Etc1 d w h (length image) a b check read.says

    pub check_strict_but_for_a_short_image : (b ≡ Err ShortImage) ⊎ (a ≡ b)
    check_strict_but_for_a_short_image = same_or_short Etc1 d w h (length image) a b check read.says

  -- RGBA1 for an opaque-only viewer
  module _ (check : ChecksOpaque d (sized w h) a) (read : ReadsOpaque d (sized w h) image b new) where
    pub check_opaque_answers_as_the_reader : needed (sized w h) ≤ length image → a ≡ b
    check_opaque_answers_as_the_reader = same Opaque d w h (length image) a b check read.says

    pub check_opaque_but_for_a_short_image : (b ≡ Err ShortImage) ⊎ (a ≡ b)
    check_opaque_but_for_a_short_image = same_or_short Opaque d w h (length image) a b check read.says

-- no second answer satisfies what a check promises
pub check_determined : (verdict : List ℕ) (a b : Answer) → said a ≡ verdict → said b ≡ verdict → a ≡ b
check_determined verdict a b p q = answer a b (p ∙ sym q)
