-- Sheets of our own, written out byte by byte from the request's sentences, as rows of one list: one test that antt computes over
-- the very definitions that the readers and the writer promise. A row has what is asked, and what comes of it.
-- Assumes nothing.
use mathlib.Core.Path.{◌≡◌}
use mathlib.Core.Bool.{Bool, true, cond, ◌&&◌}
use mathlib.Core.List.{List, [], ◌∷◌, ◌++◌}
use Prim.Native.Nat.{ℕ, ◌/◌, ◌%◌}
use lib.Dec.{T}
use lib.ListN.{length, replicate}
use Rattle.numbers.specs.Numbers.{little, in_bytes}
use Rattle.std.specs.Prelude.{Result, Ok, Err}
use Rattle.std.specs.Result.{result_unwrap_or}
use Rattle.rules.specs.Places.{sized, needed, painted}
use Rattle.rules.specs.Answers.{Answer, answered, said, accepts, left}
use Rattle.rules.specs.Colour.{differential, wrapped, kind_by_sums_lem}
use Rattle.rules.specs.Modes.{t_bases, t_distance, h_bases, h_distance, planar_bases_lem, planar_channel, indexed, rgb_pixel, rgba1_pixel, etc1_pixel}
use Rattle.rules.specs.Channels.{alpha_step, alpha_byte, rgba8_pixel, eac_value, eac_byte, red_pixel, red_green_pixel}
use Rattle.rules.specs.Formats.{size_of, shows_of}
use Rattle.rules.specs.Records.{walked, kept}
use Rattle.rules.specs.Sheets.{format_of, told, head_verdict, TellsHead, read_verdict, sheet_picture, ReadsSheet, sheet_of, write_verdict, sheet_over, WritesSheet}
use Rattle.rules.specs.declared.Refusal.TheVariants.{CutShort, NoHead, OtherKind, WrongBlocks}
use Rattle.rules.specs.declared.Picture.{Picture}
use Rattle.rules.specs.declared.Format.TheVariants.{Etc2Rgba1}
use Rattle.rules.specs.declared.Head.{Head}
use Rattle.rules.specs.declared.Refusal.{Refusal}
use Rattle.rules.proofs.Rows.{same, untouched}

-- what an answer says; what a sheet says of its head; what its reader says with so many elements, and the image that it leaves; what
-- the writer says with so much room, and the room that it leaves
data Asked : Type 0 where
  say : Result Head Refusal → Asked
  head_of : List ℕ → Asked
  read : List ℕ → ℕ → Asked
  image_of : List ℕ → ℕ → Asked
  write : ℕ → Picture → List ℕ → ℕ → Asked
  room_of : ℕ → Picture → List ℕ → ℕ → Asked

-- a byte of the room before
room : ℕ → List ℕ
room n = replicate n 0xEE

answer : Asked → List ℕ
answer (say s) = told s
answer (head_of d) = head_verdict d
answer (read d n) = read_verdict d n
answer (image_of d n) = left (read_verdict d n) (sheet_picture d (untouched n)) (untouched n)
answer (write f p b n) = write_verdict f p b n
answer (room_of f p b n) = left (write_verdict f p b n) (sheet_over f p b (room n)) (room n)

-- which is all that is promised
head_no_less : (d : List ℕ) (s : Result Head Refusal) → TellsHead d s → told s ≡ head_verdict d
head_no_less d s p = p

read_no_less :
    (d image new : List ℕ) (a : Answer)
    → ReadsSheet d image a new
    → (said a ≡ read_verdict d (length image)) × (new ≡ left (read_verdict d (length image)) (sheet_picture d image) image)
read_no_less d image new a o = (o.says, o.leaves)

write_no_less :
    (f : ℕ) (p : Picture) (b out new : List ℕ) (w : Result ℕ Refusal)
    → WritesSheet f p b out w new
    → (said (answered w) ≡ write_verdict f p b (length out))
    × (new ≡ left (write_verdict f p b (length out)) (sheet_over f p b out) out)
    × (result_unwrap_or w 0 ≡ cond (accepts (write_verdict f p b (length out))) (length (sheet_of f p b)) 0)
write_no_less f p b out new w o = (o.outcome.says, o.outcome.leaves, o.bytes)

record Row : Type 0 where
  asked : Asked
  says : List ℕ

row : Asked → List ℕ → Row
row a v = record { asked = a; says = v }

every : List Row → Bool
every [] = true
every (r ∷ rs) = same (answer r.asked) r.says && every rs

-- a record: its length and its kind in bytes, the least first
rec : ℕ → ℕ → List ℕ → List ℕ
rec n k p = n % 256 ∷ n / 256 ∷ 0 ∷ 0 ∷ k % 256 ∷ k / 256 ∷ p

-- a head, with width and height in bytes; and that of 4 by 3
headed : ℕ → List ℕ → List ℕ → List ℕ
headed f w h = rec 9 1 (f ∷ w ++ h)

head : ℕ → List ℕ
head f = headed f (4 ∷ 0 ∷ 0 ∷ 0 ∷ []) (3 ∷ 0 ∷ 0 ∷ 0 ∷ [])

-- n bytes of blocks; these blocks; and a record of kind 8000
some : ℕ → List ℕ
some n = rec n 2 (replicate n 5)

note : List ℕ
note = rec 1 0x8000 (7 ∷ [])

good : ℕ → List ℕ
good f = 0 ∷ f ∷ 4 ∷ 3 ∷ []

-- one pixel of a format, and what it shows: one element, and the next as it was
one : ℕ → List ℕ → ℕ → Row
one f b pixel =
    row (image_of (headed f (1 ∷ 0 ∷ 0 ∷ 0 ∷ []) (1 ∷ 0 ∷ 0 ∷ 0 ∷ []) ++ rec (length b) 2 b) 2) (pixel ∷ 0x11111111 ∷ [])

rows : List Row
rows =
    row (say (Err CutShort)) (7 ∷ [])
    ∷ row (say (Err NoHead)) (8 ∷ [])
    ∷ row (say (Err OtherKind)) (9 ∷ [])
    ∷ row (say (Err WrongBlocks)) (10 ∷ [])
    ∷ row (say (Ok (record { format = Etc2Rgba1; width = 4; height = 3 }))) (good 2)
    -- every format has its own number, and its blocks their 8 or 16 bytes: S2, S5, S13, S15 and zeros
    ∷ one 0 (4 ∷ 0 ∷ 0 ∷ 2 ∷ replicate 4 0) 0xFF020202
    ∷ one 1 (4 ∷ 0 ∷ 0 ∷ 2 ∷ replicate 4 0) 0xFF000000
    ∷ one 1 (replicate 8 0) 0xFF020202
    ∷ one 2 (replicate 8 0) 0xFF000000
    ∷ one 2 (128 ∷ 0 ∷ 0 ∷ 0 ∷ 255 ∷ 255 ∷ 0 ∷ 0 ∷ []) 0
    ∷ one 3 (replicate 16 0) 0x00020202
    ∷ one 4 (128 ∷ 16 ∷ replicate 6 0) 0xFF7D0000
    ∷ one 5 (0 ∷ 16 ∷ replicate 6 0) 0xFF7C0000
    ∷ one 6 (128 ∷ 16 ∷ replicate 14 0) 0xFF7D0000
    ∷ one 7 (replicate 16 0) 0xFF7F7F00
    -- fields of two bytes and more: 257 by 2 has 65 blocks; 16,384 by 0; 65,540 and 16,777,220 are too large, and so are 3 by 16,385
    ∷ row (head_of (headed 0 (1 ∷ 1 ∷ 0 ∷ 0 ∷ []) (2 ∷ 0 ∷ 0 ∷ 0 ∷ []) ++ some 520)) (0 ∷ 0 ∷ 257 ∷ 2 ∷ [])
    ∷ row (head_of (headed 7 (0 ∷ 64 ∷ 0 ∷ 0 ∷ []) (0 ∷ 0 ∷ 0 ∷ 0 ∷ []) ++ some 0)) (0 ∷ 7 ∷ 16384 ∷ 0 ∷ [])
    ∷ row (head_of (headed 0 (4 ∷ 0 ∷ 1 ∷ 0 ∷ []) (3 ∷ 0 ∷ 0 ∷ 0 ∷ []) ++ some 8)) (1 ∷ [])
    ∷ row (head_of (headed 0 (4 ∷ 0 ∷ 0 ∷ 1 ∷ []) (3 ∷ 0 ∷ 0 ∷ 0 ∷ []) ++ some 8)) (1 ∷ [])
    ∷ row (head_of (headed 0 (3 ∷ 0 ∷ 0 ∷ 0 ∷ []) (1 ∷ 64 ∷ 0 ∷ 0 ∷ []) ++ some 8)) (1 ∷ [])
    ∷ row (head_of (headed 0 (4 ∷ 0 ∷ 0 ∷ 0 ∷ []) (3 ∷ 0 ∷ 0 ∷ 1 ∷ []) ++ some 8)) (1 ∷ [])
    -- skipped records before and after the blocks
    ∷ row (head_of (head 3 ++ note ++ some 16 ++ note ++ note)) (good 3)
    ∷ row (image_of (head 0 ++ note ++ rec 8 2 (128 ∷ 0 ∷ 0 ∷ 2 ∷ replicate 4 0)) 12) (replicate 12 0xFF860202)
    -- and an empty one: what stands behind it is read
    ∷ row (head_of (head 0 ++ rec 0 0x8000 [] ++ some 8)) (good 0)
    -- no bytes at all; five bytes; a head that lacks one byte; a length of FFFFFFFF, and of 1000000 (hex)
    ∷ row (head_of []) (7 ∷ [])
    ∷ row (head_of (9 ∷ 0 ∷ 0 ∷ 0 ∷ 1 ∷ [])) (7 ∷ [])
    ∷ row (head_of (rec 9 1 (replicate 8 0))) (7 ∷ [])
    ∷ row (head_of (head 0 ++ 255 ∷ 255 ∷ 255 ∷ 255 ∷ 3 ∷ 0 ∷ [])) (7 ∷ [])
    ∷ row (head_of (head 0 ++ 0 ∷ 0 ∷ 0 ∷ 1 ∷ 3 ∷ 0 ∷ [])) (7 ∷ [])
    -- in one record 7 before 8, and 7 before 9, before the blocks and behind them
    ∷ row (head_of (rec 8 3 [])) (7 ∷ [])
    ∷ row (head_of (head 0 ++ rec 1 3 [])) (7 ∷ [])
    ∷ row (head_of (head 0 ++ some 8 ++ rec 1 3 [])) (7 ∷ [])
    -- not kind 1, not 9 long, format above 7; and 8 before 1
    ∷ row (head_of (rec 9 2 (replicate 9 0) ++ some 0)) (8 ∷ [])
    ∷ row (head_of note) (8 ∷ [])
    -- "anywhere after the first": before the head a record of kind 8000 is not skipped
    ∷ row (head_of (note ++ head 0 ++ some 8)) (8 ∷ [])
    ∷ row (read (note ++ head 0 ++ some 8) 12) (8 ∷ [])
    ∷ row (head_of (rec 8 1 (replicate 8 0) ++ some 0)) (8 ∷ [])
    ∷ row (head_of (rec 10 1 (replicate 10 0) ++ some 0)) (8 ∷ [])
    ∷ row (head_of (head 8 ++ some 8)) (8 ∷ [])
    ∷ row (head_of (headed 8 (1 ∷ 64 ∷ 0 ∷ 0 ∷ []) (3 ∷ 0 ∷ 0 ∷ 0 ∷ []))) (8 ∷ [])
    -- too large, whatever follows
    ∷ row (head_of (headed 0 (1 ∷ 64 ∷ 0 ∷ 0 ∷ []) (3 ∷ 0 ∷ 0 ∷ 0 ∷ []) ++ 1 ∷ [])) (1 ∷ [])
    -- another kind: 0, 3, 7FFF; a second kind 1; 9 before a missing block record
    ∷ row (head_of (head 0 ++ some 8 ++ rec 0 0 [])) (9 ∷ [])
    ∷ row (head_of (head 0 ++ some 8 ++ rec 0 0x8000 [] ++ rec 0 3 [])) (9 ∷ [])
    ∷ row (head_of (head 0 ++ rec 0 3 [] ++ some 8)) (9 ∷ [])
    ∷ row (head_of (head 0 ++ rec 0 0x7FFF [] ++ some 8)) (9 ∷ [])
    ∷ row (head_of (head 0 ++ head 0 ++ some 8)) (9 ∷ [])
    ∷ row (head_of (head 0 ++ some 8 ++ head 0)) (9 ∷ [])
    -- no block record, a second one, one too short, one too long
    ∷ row (head_of (head 0)) (10 ∷ [])
    ∷ row (head_of (head 0 ++ note)) (10 ∷ [])
    ∷ row (head_of (head 0 ++ some 8 ++ some 8)) (10 ∷ [])
    ∷ row (head_of (head 0 ++ some 7)) (10 ∷ [])
    ∷ row (head_of (head 0 ++ some 9)) (10 ∷ [])
    -- the first fault wins: a wrong length, then a cut record
    ∷ row (head_of (head 0 ++ some 7 ++ 1 ∷ [])) (10 ∷ [])
    -- an empty picture has a block record of no bytes
    ∷ row (head_of (headed 0 (4 ∷ 0 ∷ 0 ∷ 0 ∷ []) (replicate 4 0))) (10 ∷ [])
    -- image length 3 when it is short by one, and after 10; a refusal paints nothing
    ∷ row (read (head 0 ++ some 8) 12) (0 ∷ [])
    ∷ row (read (head 0 ++ some 8) 11) (3 ∷ [])
    ∷ row (read (head 0 ++ some 7) 11) (10 ∷ [])
    ∷ row (image_of (head 0 ++ some 8) 2) (untouched 2)
    -- the writer: 8, 1, 10, 3, in that order
    ∷ row (write 8 (sized 16385 3) [] 0) (8 ∷ [])
    ∷ row (write 7 (sized 16385 3) [] 0) (1 ∷ [])
    ∷ row (write 7 (sized 4 16385) [] 0) (1 ∷ [])
    ∷ row (write 7 (sized 4 3) (replicate 15 5) 0) (10 ∷ [])
    ∷ row (write 7 (sized 4 3) (replicate 17 5) 0) (10 ∷ [])
    ∷ row (write 7 (sized 4 3) (replicate 16 5) 36) (3 ∷ [])
    ∷ row (write 7 (sized 4 3) (replicate 16 5) 37) (0 ∷ [])
    -- what it writes, byte by byte, and what it leaves when it refuses
    ∷ row (room_of 0 (sized 4 3) (replicate 8 5) 31) (head 0 ++ some 8 ++ room 2)
    ∷ row (room_of 7 (sized 16384 0) [] 21) (headed 7 (0 ∷ 64 ∷ 0 ∷ 0 ∷ []) (replicate 4 0) ++ some 0)
    ∷ row (room_of 2 (sized 257 2) (replicate 520 5) 541) (headed 2 (1 ∷ 1 ∷ 0 ∷ 0 ∷ []) (2 ∷ 0 ∷ 0 ∷ 0 ∷ []) ++ some 520)
    ∷ row (room_of 0 (sized 4 3) (replicate 8 5) 28) (room 28)
    ∷ []

hold : T (every rows)
unfolding room answer row every rec headed head some note good one rows little in_bytes walked kept format_of head_verdict
    read_verdict sheet_of write_verdict needed painted differential wrapped kind_by_sums_lem t_bases t_distance h_bases h_distance planar_bases_lem
    planar_channel indexed rgb_pixel rgba1_pixel etc1_pixel alpha_step alpha_byte rgba8_pixel eac_value eac_byte red_pixel red_green_pixel
    size_of shows_of
hold = tt
