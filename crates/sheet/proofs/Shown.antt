-- What a sheet without a fault tells and shows: its promise is that of the plain reader on exactly its blocks. And what one with a
-- fault does.
-- Assumes nothing.
use mathlib.Core.Path.{◌≡◌, ◌∙◌, sym, ap}
use mathlib.Core.List.{List, [], ◌∷◌}
use Prim.Native.Nat.{ℕ, ◌*◌}
use native.Mathlib.Omega.{arith}
use borrow.Author.Tests.{le-ltb}
use lib.ListN.{length}
use Rattle.rules.specs.Places.{needed, blocks}
use Rattle.rules.specs.Answers.{verdict, limit, image_check, left}
use Rattle.rules.specs.Formats.{size_of}
use Rattle.rules.specs.Readers.{picture_of, picture_verdict, ReadsPicture}
use Rattle.rules.specs.Answers.{Answer}
use Rattle.rules.specs.declared.Head.{Head}
use Rattle.rules.specs.declared.Picture.{Picture}
use Rattle.rules.specs.declared.Format.{Format}
use Rattle.rules.specs.declared.Refusal.{Refusal}
use Rattle.rules.specs.FileFormats.{format_number}
use Rattle.std.specs.Prelude.{Ok, Err}
use Rattle.sheet.proofs.Formats.{formatted}
use Rattle.laws.proofs.Unique.{refusal}
use Rattle.laws.proofs.Outcome.{unchanged}
use Rattle.rules.specs.Sheets.{format_of, format_in, size_in, head_in, blocks_in, head_verdict, read_verdict, sheet_picture, TellsHead, ReadsSheet}
use Rattle.sheet.specs.Shown.{walk, Refuses, size_of_head, Shown}

-- what is still to be said of some bytes, once the walk has found no fault: by the head's reader, and by the reader
abbrev pub head_said : List ℕ → List ℕ
head_said d = 0 ∷ format_in (head_in d) ∷ (size_in (head_in d)).width ∷ (size_in (head_in d)).height ∷ []

abbrev pub room_said : ℕ → Picture → List ℕ
room_said elements p = verdict (image_check (needed p) elements ∷ [])

module _ (d : List ℕ) (h : Head) (b : List ℕ) (s : Shown d h b) where
  pub tells : TellsHead d (Ok h)
  unfolding head_verdict
  tells =
      sym (s.passes (head_said d)
      ∙ ap (λ (z : ℕ). 0 ∷ z ∷ (size_in (head_in d)).width ∷ (size_in (head_in d)).height ∷ []) s.begins.format
      ∙ ap (λ (p : Picture). 0 ∷ format_number h.format ∷ p.width ∷ p.height ∷ []) s.begins.size)

  known : format_of (format_number h.format) ≡ h.format
  known = formatted h.format s.begins.sound.known

  exact : length b ≡ blocks (size_of_head h) * size_of h.format
  exact = s.exact ∙ ap (λ (f : Format). blocks (size_of_head h) * size_of f) known

  module _ (image : List ℕ) where
    pub reads_room : read_verdict d (length image) ≡ room_said (length image) (size_of_head h)
    unfolding read_verdict
    reads_room = s.passes (room_said (length image) (size_in (head_in d))) ∙ ap (room_said (length image)) s.begins.size

    -- on exactly the blocks the plain reader can only refuse for want of room
    plain_room : picture_verdict h.format (size_of_head h) b image ≡ room_said (length image) (size_of_head h)
    plain_room =
        rw (
          le-ltb limit h.width (omega (arith, s.begins.sound.narrow)),
          le-ltb limit h.height (omega (arith, s.begins.sound.low)),
          le-ltb h.width h.width (omega arith),
          le-ltb (length b) (blocks (size_of_head h) * size_of h.format) (omega (arith, exact)),
        )

    pub verdict_is : picture_verdict h.format (size_of_head h) b image ≡ read_verdict d (length image)
    verdict_is = plain_room ∙ sym reads_room

    pub picture_is : picture_of h.format (size_of_head h) b image ≡ sheet_picture d image
    picture_is =
        sym (ap (λ (z : ℕ). picture_of (format_of z) (size_in (head_in d)) (blocks_in d) image) s.begins.format
        ∙ ap (λ (f : Format). picture_of f (size_in (head_in d)) (blocks_in d) image) known
        ∙ ap (λ (p : Picture). picture_of h.format p (blocks_in d) image) s.begins.size
        ∙ ap (λ (z : List ℕ). picture_of h.format (size_of_head h) z image) s.blocks)

    module _ (new : List ℕ) (a : Answer) where
      -- from the plain reader's promise to the sheet's, and back
      pub reads : ReadsPicture h.format b (size_of_head h) image a new → ReadsSheet d image a new
      reads q =
          record {
            says = q.says ∙ verdict_is;
            leaves =
                q.leaves
                ∙ ap (λ (v : List ℕ). left v (picture_of h.format (size_of_head h) b image) image) verdict_is
                ∙ ap (λ (z : List ℕ). left (read_verdict d (length image)) z image) picture_is;
          }

      pub plainly : ReadsSheet d image a new → ReadsPicture h.format b (size_of_head h) image a new
      plainly q =
          record {
            says = q.says ∙ sym verdict_is;
            leaves =
                q.leaves
                ∙ ap (λ (v : List ℕ). left v (sheet_picture d image) image) (sym verdict_is)
                ∙ ap (λ (z : List ℕ). left (picture_verdict h.format (size_of_head h) b image) z image) (sym picture_is);
          }

-- a sheet with a fault, told by a refusal
module _ (d : List ℕ) (a : Refusal) (p : Refuses (walk d) a) where
  pub tells_refusal : TellsHead d (Err a)
  unfolding head_verdict
  tells_refusal = p (head_said d)

  pub refuses : (image : List ℕ) → ReadsSheet d image (Err a) image
  unfolding read_verdict
  refuses image =
      unchanged (read_verdict d (length image)) (sheet_picture d image) image (Err a) (p (room_said (length image) (size_in (head_in d)))) (refusal a)
