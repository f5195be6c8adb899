-- Sheets (M-101 of document 02): what they hold, when they are refused, and what their readers and their writer owe, for all inputs.
-- Its own sentences stand in quotes above the definitions that they become.
-- Assumes nothing.
use Rattle.std.specs.Prelude.{◌≡◌, Bool, cond, not, ◌&&◌, List, [], ◌∷◌, ◌++◌, ℕ, ◌*◌, eqb, ltb, length, get_or, drop, Result}
use Rattle.std.specs.Result.{result_unwrap_or}
use Rattle.numbers.specs.Numbers.{little, in_bytes}
use Rattle.rules.specs.Notation.{byte}
use Rattle.rules.specs.Places.{sized, needed, blocks}
use Rattle.rules.specs.Answers.{Answer, answered, accepts, Check, refusal, judged, sides_check, image_check, verdict, Outcome, said_with}
use Rattle.rules.specs.Formats.{size_of}
use Rattle.rules.specs.FileFormats.{format_number}
use Rattle.rules.specs.Readers.{picture_of}
use Rattle.rules.specs.declared.Format.{Format}
use Rattle.rules.specs.declared.Format.TheVariants.{Etc1, Etc2Rgb, Etc2Rgba1, Etc2Rgba8, EacR, EacRSigned, EacRg, EacRgSigned}
use Rattle.rules.specs.declared.Picture.{Picture}
use Rattle.rules.specs.Records.{Record, encoded, Records, more, ended, short, records_of, first, later, kept}
use Rattle.rules.specs.declared.Refusal.{Refusal}
use Rattle.rules.specs.declared.Head.{Head}

-- "Size limit 1", and M-104: "A sheet .. keeps the limit of 16,384 for its length field's sake"
abbrev pub sheet_limit : ℕ
sheet_limit = 16384

-- "a format number 0 to 7 in the order of 01's eight readers (R, R signed, RG, RG signed at the end)": a table of its own
abbrev pub formats : List Format
formats = Etc1 ∷ Etc2Rgb ∷ Etc2Rgba1 ∷ Etc2Rgba8 ∷ EacR ∷ EacRSigned ∷ EacRg ∷ EacRgSigned ∷ []

unfoldable pub format_of : ℕ → Format
format_of n = get_or formats n Etc1

-- "exactly the blocks": how many bytes they are, of a picture in the format of a number
abbrev pub block_bytes_lem : ℕ → Picture → ℕ
block_bytes_lem f p = blocks p * size_of (format_of f)

-- "The first record is kind 1, payload 9 bytes: a format number 0 to 7 .., width and height, four bytes each." And M-104: "A sheet
-- has pitch equal to width"
abbrev pub format_in : Record → ℕ
format_in r = byte r.payload 0

abbrev pub size_in : Record → Picture
size_in r = sized (little 4 1 r.payload) (little 4 5 r.payload)

-- "8 first record not kind 1, not 9 long, or format above 7": it is a head
abbrev pub is_head : Record → Bool
is_head r = eqb r.kind 1 && (eqb (length r.payload) 9 && ltb (format_in r) 8)

-- What the walk says, and where it finds no fault, what is still to be said: `then`. "The walk goes front to back and the first
-- fault wins, in one record 7 first". Behind the blocks, of records that are not skipped: "10 .. a second one", "9 any other kind"
abbrev pub after_blocks_lem : List ℕ → Records → List ℕ
after_blocks_lem then (more r rs) = judged (refusal 9 (not (eqb r.kind 2)) ∷ []) (10 ∷ [])
after_blocks_lem then ended = then
after_blocks_lem then short = 7 ∷ []

-- behind the head of a sheet whose blocks are n bytes: "exactly one record of kind 2 with exactly the blocks"; "9 any other kind,
-- a second kind 1 included; 10 no block record, a second one, or a wrong block length"; "a missing block record is found at the end"
abbrev pub after_head : ℕ → List ℕ → Records → List ℕ
after_head n then (more r rs) =
    judged (refusal 9 (not (eqb r.kind 2)) ∷ refusal 10 (not (eqb (length r.payload) n)) ∷ []) (after_blocks_lem then rs)
after_head n then ended = 10 ∷ []
after_head n then short = 7 ∷ []

-- from the first record on, with the records behind it that are not skipped: 8, and "Size limit 1 is tested right after 8"
abbrev pub from_head : Record → List ℕ → Records → List ℕ
from_head r then rs =
    judged (refusal 8 (not (is_head r)) ∷ sides_check sheet_limit (size_in r) ∷ [])
    (after_head (block_bytes_lem (format_in r) (size_in r)) then rs)

-- the whole walk: "7 record cut short, or no bytes at all"
abbrev pub walk_verdict : List ℕ → Records → List ℕ
walk_verdict then (more r rs) = from_head r then (kept rs)
walk_verdict then ended = 7 ∷ []
walk_verdict then short = 7 ∷ []

-- what a sheet holds: its head, and the payload of its block record
abbrev pub head_in : List ℕ → Record
head_in d = first (records_of d)

abbrev pub blocks_in : List ℕ → List ℕ
blocks_in d = (first (kept (later (records_of d)))).payload

-- what a sheet that is asked for its head says on paper: 0 with format, width and height, or a refusal
abbrev pub told : Result Head Refusal → List ℕ
told = said_with (λ h. format_number h.format ∷ h.width ∷ h.height ∷ [])

-- The head's reader: the whole walk, without an image.
unfoldable pub head_verdict : List ℕ → List ℕ
head_verdict d =
    walk_verdict (0 ∷ format_in (head_in d) ∷ (size_in (head_in d)).width ∷ (size_in (head_in d)).height ∷ []) (records_of d)

abbrev pub TellsHead : List ℕ → Result Head Refusal → Type 0
TellsHead d sheet = told sheet ≡ head_verdict d

-- "image length 3 last"
unfoldable pub read_verdict : List ℕ → ℕ → List ℕ
read_verdict d elements = walk_verdict (verdict (image_check (needed (size_in (head_in d))) elements ∷ [])) (records_of d)

-- the picture that a sheet shows: that of exactly its blocks, in the format and the size that its head names
abbrev pub sheet_picture : List ℕ → List ℕ → List ℕ
sheet_picture d image = picture_of (format_of (format_in (head_in d))) (size_in (head_in d)) (blocks_in d) image

-- The reader of a sheet. "A refusal paints nothing."
abbrev pub ReadsSheet : List ℕ → List ℕ → Answer → List ℕ → Type 0
ReadsSheet d image answer new = Outcome (read_verdict d (length image)) (sheet_picture d image) answer image new

-- "The writer gives head and blocks only"
abbrev pub head_record : ℕ → Picture → Record
head_record f p = record { kind = 1; payload = f ∷ in_bytes 4 p.width ++ in_bytes 4 p.height }

abbrev pub block_record : List ℕ → Record
block_record b = record { kind = 2; payload = b }

unfoldable pub sheet_of : ℕ → Picture → List ℕ → List ℕ
sheet_of f p b = encoded (head_record f p) ++ encoded (block_record b)

-- "it refuses with 8 (format), 1, 10 (blocks not of the exact length) or 3 (less room than the sheet needs), in that order"
abbrev pub write_checks : ℕ → Picture → List ℕ → ℕ → List Check
write_checks f p b room =
    refusal 8 (ltb 7 f)
    ∷ sides_check sheet_limit p
    ∷ refusal 10 (not (eqb (length b) (block_bytes_lem f p)))
    ∷ image_check (length (sheet_of f p b)) room
    ∷ []

unfoldable pub write_verdict : ℕ → Picture → List ℕ → ℕ → List ℕ
write_verdict f p b room = verdict (write_checks f p b room)

-- ".. changing nothing; bytes after the sheet keep their value"
abbrev pub sheet_over : ℕ → Picture → List ℕ → List ℕ → List ℕ
sheet_over f p b out = sheet_of f p b ++ drop (length (sheet_of f p b)) out

-- The writer of a sheet, in a lent buffer; where it writes one, it also gives the number of bytes that the sheet has.
pub record WritesSheet (f : ℕ) (p : Picture) (b out : List ℕ) (written : Result ℕ Refusal) (new : List ℕ) : Type 0 where
  pub outcome : Outcome (write_verdict f p b (length out)) (sheet_over f p b out) (answered written) out new
  pub bytes : result_unwrap_or written 0 ≡ cond (accepts (write_verdict f p b (length out))) (length (sheet_of f p b)) 0
