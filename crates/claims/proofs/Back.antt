-- "reading it back gives the same picture": a sheet that was written, read from where it stands, over any image, gives the answer and
-- the image that the plain reader gives of the blocks; and that is 0 where the image has room.
-- Assumes nothing.
use mathlib.Core.Path.{◌≡◌, ◌∙◌, refl, sym, ap, subst}
use mathlib.Core.Bool.{Bool, true, false, cond, not}
use mathlib.Core.List.{List, [], ◌∷◌, ◌++◌, append-nil}
use Prim.Native.Nat.{ℕ, ◌+◌, ◌≤◌}
use native.Mathlib.Omega.{arith}
use borrow.Author.Tests.{eq-eqb, lt-ltb, le-ltb}
use lib.ListN.{length, take, drop}
use lib.Seq.{take_at}
use Rattle.rules.specs.Answers.{accepts, refusal, judged, left, too_large_lem}
use Rattle.rules.specs.Readers.{ReadsPicture}
use Rattle.rules.specs.Places.{sized, needed}
use Rattle.rules.specs.Answers.{Answer}
use Rattle.std.specs.Prelude.{Result, Ok}
use Rattle.rules.specs.declared.Head.{Head}
use Rattle.rules.specs.declared.Picture.{Picture}
use Rattle.rules.specs.declared.Refusal.{Refusal}
use Rattle.laws.proofs.Unique.{answer}
use Rattle.numbers.specs.Numbers.{little, in_bytes}
use Rattle.rules.specs.Records.{Record, encoded, Records, more, ended, records_of, first, later, kept}
use Rattle.numbers.proofs.Little.{past, back}
use Rattle.sheet.proofs.records.Walk.{at_the_end}
use Rattle.rules.specs.Sheets.{sheet_limit, format_of, block_bytes_lem, format_in, size_in, is_head, after_head, from_head, walk_verdict}
use Rattle.rules.specs.Sheets.{head_verdict, head_record, block_record, sheet_of, sheet_over, TellsHead, ReadsSheet, WritesSheet}
use Rattle.rules.specs.FileFormats.{format_number}
use Rattle.sheet.proofs.Formats.{numbered}
use Rattle.sheet.specs.Shown.{Passes, walk, Shown}
use Rattle.sheet.proofs.Sizes.{bytes}
use Rattle.sheet.proofs.Checks.{Accepted, passed}
use Rattle.sheet.proofs.Shown.{tells, reads_room, plainly}
use Rattle.claims.proofs.Determined.{picture_determined}
use Rattle.claims.proofs.Encoded.{Fits, one}
use Rattle.claims.proofs.Sheets.{head_determined}

-- "A sheet has pitch equal to width" (M-104), and so has the picture that is written
module _ (f w h : ℕ) (b : List ℕ) (room : ℕ) (s : Accepted f (sized w h) b room) where
  abbrev p : Picture
  p = sized w h

  abbrev sheet : List ℕ
  sheet = sheet_of f p b

  abbrev head : Record
  head = head_record f p

  head_fits : Fits head
  unfolding in_bytes
  head_fits = record { kind = omega arith; payload = omega arith }

  blocks_fit : Fits (block_record b)
  blocks_fit = record { kind = omega arith; payload = omega (arith, bytes f p s.narrow s.low, s.exact) }

  -- the walk meets the head, the blocks, and the end
  meets : records_of sheet ≡ more head (more (block_record b) ended)
  unfolding sheet_of
  meets =
      one head head_fits (encoded (block_record b))
      ∙ ap (λ (z : List ℕ). more head (records_of z)) (sym (append-nil (encoded (block_record b))))
      ∙ ap (more head) (one (block_record b) blocks_fit [] ∙ ap (more (block_record b)) (at_the_end [] refl))

  kept-is : kept (more (block_record b) ended) ≡ more (block_record b) ended
  unfolding kept
  kept-is = refl

  -- the head says what was asked for
  wide_is : little 4 1 head.payload ≡ p.width
  wide_is =
      past 4 (f ∷ []) (in_bytes 4 p.width ++ in_bytes 4 p.height) 1 refl
      ∙ back 4 p.width (in_bytes 4 p.height) (omega (arith, s.narrow))

  five : length (f ∷ in_bytes 4 p.width) ≡ 5
  unfolding in_bytes
  five = refl

  high_is : little 4 5 head.payload ≡ p.height
  high_is =
      past 4 (f ∷ in_bytes 4 p.width) (in_bytes 4 p.height) 5 five
      ∙ ap (little 4 0) (sym (append-nil (in_bytes 4 p.height)))
      ∙ back 4 p.height [] (omega (arith, s.low))

  size : size_in head ≡ p
  size =
      ap (λ (z : ℕ). sized z (little 4 5 head.payload)) wide_is ∙ ap (λ (z : ℕ). sized w z) high_is

  is_head_lem : is_head head ≡ true
  unfolding in_bytes
  is_head_lem = rw (lt-ltb f 8 (omega (arith, s.known)))

  fits : too_large_lem sheet_limit p ≡ false
  fits = rw (le-ltb sheet_limit p.width s.narrow, le-ltb sheet_limit p.height s.low)

  -- so that the walk finds no fault
  exactly : Passes (λ then. after_head (block_bytes_lem f p) then (more (block_record b) ended))
  exactly then = rw (eq-eqb (length b) (block_bytes_lem f p) s.exact)

  abbrev by : Bool → Bool → Picture → Records → List ℕ → List ℕ
  by head large q rs then = judged (refusal 8 (not head) ∷ refusal 1 large ∷ []) (after_head (block_bytes_lem f q) then rs)

  passes : Passes (walk sheet)
  passes then =
      ap (walk_verdict then) meets
      ∙ ap (from_head head then) kept-is
      ∙ ap (λ (t : Bool). by t (too_large_lem sheet_limit (size_in head)) (size_in head) (more (block_record b) ended) then) is_head_lem
      ∙ ap (λ (q : Picture). by true (too_large_lem sheet_limit q) q (more (block_record b) ended) then) size
      ∙ ap (λ (t : Bool). by true t p (more (block_record b) ended) then) fits
      ∙ exactly then

  abbrev written_head : Head
  written_head = record { format = format_of f; width = p.width; height = p.height }

  number : format_number (format_of f) ≡ f
  number = numbered f (omega (arith, s.known))

  pub written_sheet : Shown sheet written_head b
  written_sheet =
      record {
        passes = passes;
        begins =
            record {
              format = ap (λ (rs : Records). format_in (first rs)) meets ∙ sym number;
              size = ap (λ (rs : Records). size_in (first rs)) meets ∙ size;
              sound = record { known = omega (arith, s.known, number); narrow = s.narrow; low = s.low };
            };
        blocks =
            ap (λ (z : Records). (first (kept (later z))).payload) meets ∙ ap (λ (z : Records). (first z).payload) kept-is;
        exact = s.exact ∙ ap (λ (z : ℕ). block_bytes_lem z p) (sym number);
      }

-- where the writer answers 0 and gives n bytes, the first n bytes of the buffer are the sheet
module _ (f w h : ℕ) (b out new : List ℕ) (n : ℕ) (x : WritesSheet f (sized w h) b out (Ok n) new) where
  abbrev pic : Picture
  pic = sized w h

  abbrev there : List ℕ
  there = take n new

  whole : Shown (sheet_of f pic b) (written_head f w h b (length out) (passed f pic b (length out) x.outcome.says)) b
  whole = written_sheet f w h b (length out) (passed f pic b (length out) x.outcome.says)

  long : n ≡ length (sheet_of f pic b)
  long = x.bytes ∙ ap (λ (v : List ℕ). cond (accepts v) (length (sheet_of f pic b)) 0) (sym x.outcome.says)

  stands : there ≡ sheet_of f pic b
  stands =
      ap (take n) (x.outcome.leaves ∙ sym (ap (λ (v : List ℕ). left v (sheet_over f pic b out) out) x.outcome.says))
      ∙ take_at (sheet_of f pic b) (drop (length (sheet_of f pic b)) out) n (sym long)

  pub head_reads_back : (told : Result Head Refusal) → TellsHead there told → told ≡ Ok (record { format = format_of f; width = w; height = h })
  head_reads_back told q =
      head_determined (sheet_of f pic b) told _ (q ∙ ap head_verdict stands) (tells (sheet_of f pic b) _ b whole)

  module _ (image image' : List ℕ) (a : Answer) (q : ReadsSheet there image a image') where
    again : ReadsSheet (sheet_of f pic b) image a image'
    again = subst (λ (d : List ℕ). ReadsSheet d image a image') stands q

    pub reads_back_alike : (plain : List ℕ) (c : Answer) → ReadsPicture (format_of f) b pic image c plain → (a ≡ c) × (image' ≡ plain)
    reads_back_alike plain c o =
        picture_determined b image a c image' plain (format_of f) pic (plainly (sheet_of f pic b) _ b whole image image' a again) o

    pub reads_back : needed pic ≤ length image → a ≡ (Ok tt)
    reads_back r =
        answer a (Ok tt)
        (again.says ∙ reads_room (sheet_of f pic b) _ b whole image ∙ ap (λ (t : Bool). cond t (3 ∷ []) (0 ∷ [])) (le-ltb (length image) (needed pic) r))
