-- Reading in pieces (M-105 of document 02): what a state says, what a piece makes of it, the promises of starting, of a piece and of
-- ending, and a course of many pieces. Every value of `Progress` is a state. Its own sentences stand in quotes.
-- Assumes nothing.
use Rattle.std.specs.Prelude.{◌≡◌, Bool, true, cond, ◌&&◌, List, [], ◌∷◌, ◌++◌, ℕ, ◌+◌, ◌-◌, ◌*◌, ◌/◌, ◌%◌, min, leb, ltb, length, take}
use Rattle.rules.specs.Notation.{build, byte}
use Rattle.rules.specs.Places.{needed, inside, blocks, block_at, bytes_from, pixel_by, pixel_at, painted}
use Rattle.rules.specs.Answers.{Answer, said, accepts, Check, verdict, limit_check, pitch_check, data_check, image_check}
use Rattle.rules.specs.Formats.{size_of, shows_of}
use Rattle.rules.specs.declared.Format.{Format}
use Rattle.rules.specs.declared.Picture.{Picture}
use Rattle.rules.specs.declared.Progress.{Progress}
use Rattle.rules.specs.declared.Started.{Started}
use Rattle.rules.specs.declared.Taken.{Taken}

-- the bytes of a block, and of all blocks of the picture
abbrev pub size : Progress → ℕ
size p = size_of p.format

abbrev pub whole : Progress → ℕ
whole p = blocks p.picture * size p

-- how many of them have been taken: a state that says more has taken all
abbrev pub got : Progress → ℕ
got p = min p.taken (whole p)

-- "paints each block as soon as it is whole": how many are painted
abbrev pub finished : Progress → ℕ
finished p = got p / size p

-- "keeps at most 15 bytes between pieces": those of the block that is not yet whole
abbrev pub held : Progress → List ℕ
held p = take (got p % size p) p.kept

-- n bytes of a list from number `at` on, as fifteen with zeros behind
abbrev pub padded : List ℕ → ℕ → ℕ → List ℕ
padded l at n = build 15 (λ i. cond (ltb i n) (byte l (at + i)) 0)

-- "up to the last block": how many bytes have been taken after a piece
abbrev pub later : Progress → List ℕ → ℕ
later p e = min (got p + length e) (whole p)

-- "A piece paints exactly as many blocks as the kept and new bytes complete"
abbrev pub completed : Progress → List ℕ → ℕ
completed p e = later p e / size p - finished p

-- "later bytes are reported as unused"
abbrev pub behind_last : Progress → List ℕ → ℕ
behind_last p e = got p + length e - later p e

-- the state after it: of the kept and new bytes, those behind the completed blocks are kept
abbrev pub after : Progress → List ℕ → Progress
after p e =
    record {
      format = p.format;
      picture = p.picture;
      taken = later p e;
      kept = padded (held p ++ e) (completed p e * size p) (later p e % size p);
    }

-- element k is a pixel of one of the blocks from number first to last - 1
abbrev pub in_run : Picture → ℕ → ℕ → ℕ → Bool
in_run p first last k = inside p k && (leb first (block_at p k) && ltb (block_at p k) last)

-- the image after it: the completed blocks are painted, of which the kept and new bytes begin with the first
abbrev pub image_after : Progress → List ℕ → List ℕ → List ℕ
image_after p e image =
    painted (in_run p.picture (finished p) (later p e / size p))
    (pixel_by (shows_of p.format) (bytes_from (size p) (finished p) (held p ++ e)) p.picture)
    image

-- "Starting, with the image lent, refuses with 1, 12 or 3."
abbrev pub start_checks : Picture → ℕ → List Check
start_checks p elements = limit_check p ∷ pitch_check p ∷ image_check (needed p) elements ∷ []

-- nothing has been taken yet
abbrev pub fresh : Format → Picture → Progress
fresh f p = record { format = f; picture = p; taken = 0; kept = padded [] 0 0 }

-- The promise of starting: the answer, and the state whatever the answer is.
pub record Starts (f : Format) (p : Picture) (elements : ℕ) (r : Started) : Type 0 where
  pub says : said r.answer ≡ verdict (start_checks p elements)
  pub state : r.progress ≡ fresh f p

-- "Each piece lends the image again; too short, it answers 3"; of a state that no start accepted, it answers 1 or 12 as that did
abbrev pub piece_verdict : Progress → List ℕ → List ℕ
piece_verdict p image = verdict (start_checks p.picture (length image))

-- "and nothing is taken or changed": what there is after a piece that is taken, or what there was
abbrev pub if_taken : {A : Type 0} → Progress → List ℕ → A → A → A
if_taken p image new old = cond (accepts (piece_verdict p image)) new old

-- The promise of a piece e.
pub record Takes (p : Progress) (e image : List ℕ) (r : Taken) (new : List ℕ) : Type 0 where
  pub says : said r.answer ≡ piece_verdict p image
  pub state : r.progress ≡ if_taken p image (after p e) p
  pub painted : r.painted ≡ if_taken p image (completed p e) 0
  pub unused : r.unused ≡ if_taken p image (behind_last p e) (length e)
  pub leaves : new ≡ if_taken p image (image_after p e image) image

-- "Ending answers 0 when all blocks are painted, else 2, keeping what is painted"; it is lent no image
abbrev pub end_checks : Progress → List Check
end_checks p = limit_check p.picture ∷ pitch_check p.picture ∷ data_check (whole p) p.taken ∷ []

-- The promise of ending.
abbrev pub Ends : Progress → Answer → Type 0
Ends p answer = said answer ≡ verdict (end_checks p)

-- What has happened once the bytes d have arrived, however they were cut: how many of them belong to blocks of the picture,
abbrev pub used : Format → Picture → List ℕ → ℕ
used f p d = min (length d) (blocks p * size_of f)

-- how many blocks they complete,
abbrev pub wholes : Format → Picture → List ℕ → ℕ
wholes f p d = used f p d / size_of f

-- the state,
abbrev pub state_of : Format → Picture → List ℕ → Progress
state_of f p d =
    record { format = f; picture = p; taken = used f p d; kept = padded d (wholes f p d * size_of f) (used f p d % size_of f) }

-- and the image: those blocks are painted over the first one, and nothing else has changed
abbrev pub so_far : Format → Picture → List ℕ → List ℕ → List ℕ
so_far f p d image = painted (in_run p 0 (wholes f p d)) (pixel_at (shows_of f) (size_of f) p d) image

-- "Bytes arrive in pieces of any length, 0 included": all bytes of some pieces
abbrev pub joined : List (List ℕ) → List ℕ
joined [] = []
joined (e ∷ es) = e ++ joined es

-- "If no piece is refused and the same image comes back untouched each time": a course begins with a state and an image, takes some
-- pieces one after another, and ends with a state and an image; so many blocks were painted and so many bytes not used, in all
pub data Course : Progress → List ℕ → List (List ℕ) → Progress → List ℕ → ℕ → ℕ → Type 0 where
  nothing : {p : Progress} {image : List ℕ} → Course p image [] p image 0 0
  followed : {p q : Progress} {image mid new e : List ℕ} {es : List (List ℕ)} {n u : ℕ} (r : Taken)
      → Takes p e image r mid
      → accepts (said r.answer) ≡ true
      → Course r.progress mid es q new n u
      → Course p image (e ∷ es) q new (r.painted + n) (r.unused + u)
