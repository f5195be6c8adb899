-- What the request of sheets claims: no second outcome; a refusal paints and writes nothing; an accepted sheet shows the picture that
-- the plain reader shows of exactly its blocks; and the head's reader and the reader refuse alike.
-- Assumes nothing.
use mathlib.Core.Path.{◌≡◌, ◌∙◌, sym, ap, subst}
use mathlib.Core.Bool.{false, true≢false}
use mathlib.Core.List.{List, []}
use mathlib.Core.Logic.{⊎_elim}
use Prim.Native.Nat.{ℕ, ◌%◌, ◌<◌}
use lib.ListN.{length, get_or}
use Rattle.rules.specs.Places.{element, block_of, bytes_of, Beside}
use Rattle.rules.specs.Answers.{Answer, answered, said, accepts}
use Rattle.rules.specs.Formats.{size_of, shows_of}
use Rattle.rules.specs.Readers.{ReadsPicture}
use Rattle.std.specs.Prelude.{Result, Ok, Err}
use Rattle.rules.specs.declared.Head.{Head}
use Rattle.rules.specs.declared.Picture.{Picture}
use Rattle.rules.specs.declared.Refusal.{Refusal}
use Rattle.laws.proofs.Unique.{answer, no_second_outcome}
use Rattle.rules.specs.Sheets.{format_of, size_in, head_in, blocks_in, head_verdict, read_verdict, sheet_picture, TellsHead, ReadsSheet, write_verdict, WritesSheet}
use Rattle.sheet.specs.Shown.{walk, Halts, size_of_head, Shown}
use Rattle.sheet.proofs.Unique.{differ, one_head, one_written}
use Rattle.sheet.proofs.Shown.{tells, plainly, reads_room, head_said, room_said}
use Rattle.sheet.proofs.Decided.{head_from, decided}
use Rattle.claims.proofs.Outcomes.{Same, a_refusal_alters_nothing}
use Rattle.claims.proofs.Alike.{OnlyInTile}
use Rattle.claims.proofs.Pictures.{every_pixel_of_a_picture, one_block_changes_its_own_tile}

-- no second outcome satisfies the three promises
pub head_determined : (d : List ℕ) (s t : Result Head Refusal) → TellsHead d s → TellsHead d t → s ≡ t
head_determined d s t p q = one_head d s t p q

pub sheet_determined : (d image : List ℕ) (a b : Answer) (new new' : List ℕ) → ReadsSheet d image a new → ReadsSheet d image b new' → Same a b new new'
sheet_determined d image a b new new' p q = no_second_outcome _ _ image a b new new' p q

pub writer_determined : (f : ℕ) (p : Picture) (b out : List ℕ) (r s : Result ℕ Refusal) (new new' : List ℕ) → WritesSheet f p b out r new → WritesSheet f p b out s new' → (r ≡ s) × (new ≡ new')
writer_determined f p b out r s new new' x y = one_written f p b out r s new new' x y

-- "A refusal paints nothing."
pub a_refused_sheet_paints_nothing : (d image new : List ℕ) (a : Answer) → ReadsSheet d image a new → accepts (said a) ≡ false → new ≡ image
a_refused_sheet_paints_nothing d image new a p r =
    a_refusal_alters_nothing (read_verdict d (length image)) (sheet_picture d image) image new a p r

-- ".. changing nothing"
pub a_refused_writer_writes_nothing : (f : ℕ) (p : Picture) (b out new : List ℕ) (r : Result ℕ Refusal) → WritesSheet f p b out r new → accepts (said (answered r)) ≡ false → new ≡ out
a_refused_writer_writes_nothing f p b out new r x e =
    a_refusal_alters_nothing (write_verdict f p b (length out)) _ out new (answered r) x.outcome e

module _ (d : List ℕ) where
  module _ (h : Head) (p : TellsHead d (Ok h)) where
    -- a fault that the walk finds is no head
    not_lost : Halts (walk d) → ⊥
    unfolding head_verdict
    not_lost l = true≢false (ap accepts (p ∙ l.alike (head_said d)) ∙ l.refused)

    -- a sheet whose head is told is one without a fault, with that head
    pub whole : Shown d h (blocks_in d)
    whole =
        ⊎_elim
        (λ s.
        let e : Ok (head_from (head_in d)) ≡ Ok h = head_determined d _ _ (tells d (head_from (head_in d)) (blocks_in d) s) p in
        let i : head_from (head_in d) ≡ h = cc in
        subst (λ (k : Head). Shown d k (blocks_in d)) i s)
        (λ l. absurd (not_lost l))
        (decided d)

    -- "the picture that an accepted sheet shows is the picture that the plain reader of that format shows of exactly those blocks":
    -- answer and image are those of the plain reader, so that all that is claimed of pictures holds of sheets
    pub sheet_is_picture : (image new : List ℕ) (a : Answer) → ReadsSheet d image a new → ReadsPicture h.format (blocks_in d) (size_of_head h) image a new
    sheet_is_picture image new a q = plainly d h (blocks_in d) whole image new a q

    -- "`read_sheet` refuses with exactly the same number but for 3": of a sheet whose head is told, the reader says 3 or 0, by whether
    -- the image has the elements
    pub only_for_room : (image new : List ℕ) (a : Answer) → ReadsSheet d image a new → said a ≡ room_said (length image) (size_of_head h)
    only_for_room image new a q = q.says ∙ reads_room d h (blocks_in d) whole image

    -- what is claimed of pictures: each pixel of an accepted sheet
    pub every_pixel_of_a_sheet : (image new : List ℕ)
        → ReadsSheet d image (Ok tt) new
        → (x y : ℕ)
        → x < h.width
        → y < h.height
        → get_or new (element (size_of_head h) x y) 0 ≡ shows_of h.format (bytes_of (size_of h.format) (blocks_in d) (block_of (size_of_head h) x y)) (x % 4) (y % 4)
    every_pixel_of_a_sheet image new q =
        every_pixel_of_a_picture h.format (blocks_in d) (size_of_head h) image new (sheet_is_picture image new (Ok tt) q)

  -- and a sheet that is refused a head is refused by the reader alike, which paints nothing
  pub refused_alike : (r : Refusal) (a : Answer) (image new : List ℕ) → TellsHead d (Err r) → ReadsSheet d image a new → (a ≡ Err r) × (new ≡ image)
  unfolding head_verdict read_verdict
  refused_alike r a image new p q =
      ⊎_elim
      (λ s. absurd (differ (head_from (head_in d)) r (tells d (head_from (head_in d)) (blocks_in d) s ∙ sym p)))
      (λ l.
      let e : said a ≡ walk d [] = q.says ∙ l.alike (room_said (length image) (size_in (head_in d))) in
      let i : said (Err r) ≡ walk d [] = p ∙ l.alike (head_said d) in
      (answer a (Err r) (e ∙ sym i), a_refused_sheet_paints_nothing d image new a q (ap accepts e ∙ l.refused)))
      (decided d)

-- own tile, of two sheets with one head that differ in one block
pub sheets_own_tile : (h : Head) (n : ℕ) (d e image new new' : List ℕ)
    → TellsHead d (Ok h)
    → TellsHead e (Ok h)
    → Beside (size_of h.format) (size_of_head h) n (blocks_in d) (blocks_in e)
    → ReadsSheet d image (Ok tt) new
    → ReadsSheet e image (Ok tt) new'
    → OnlyInTile (size_of_head h) n new new'
sheets_own_tile h n d e image new new' p q z x y =
    one_block_changes_its_own_tile h.format (blocks_in d) (size_of_head h) image new (sheet_is_picture d h p image new (Ok tt) x) (blocks_in e) new' n z
    (sheet_is_picture e h q image new' (Ok tt) y)
