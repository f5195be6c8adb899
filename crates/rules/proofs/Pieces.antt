-- Pictures in pieces (M-105), as rows of one list: one test that antt computes over the very definitions that starting, a piece and ending
-- promise. A row has what is asked, and what comes of it, worked out by hand from the request's sentences; the pixels are those that
-- Specimens.antt and Pitches.antt have of the same blocks.
-- Assumes nothing.
use mathlib.Core.Path.{◌≡◌}
use mathlib.Core.Bool.{Bool, true, ◌&&◌}
use mathlib.Core.List.{List, [], ◌∷◌, ◌++◌}
use Prim.Native.Nat.{ℕ}
use lib.Dec.{T}
use lib.ListN.{length, replicate}
use Rattle.rules.specs.Places.{sized, pitched, needed, painted}
use Rattle.rules.specs.Answers.{Answer, said, verdict}
use Rattle.rules.specs.Colour.{differential, wrapped, kind_by_sums_lem}
use Rattle.rules.specs.Modes.{t_bases, t_distance, h_bases, h_distance, planar_bases_lem, planar_channel, indexed, rgb_pixel, rgba1_pixel, etc1_pixel}
use Rattle.rules.specs.Channels.{alpha_step, alpha_byte, rgba8_pixel, eac_value, eac_byte, red_pixel, red_green_pixel}
use Rattle.rules.specs.Formats.{size_of, shows_of}
use Rattle.rules.specs.Pieces.{completed, behind_last, after, image_after, start_checks, fresh, Starts, piece_verdict, if_taken, Takes, end_checks, Ends}
use Rattle.rules.specs.Pieces.{held, used, wholes, state_of, so_far, joined}
use Rattle.rules.specs.declared.Format.{Format}
use Rattle.rules.specs.declared.Format.TheVariants.{Etc1, Etc2Rgba8, EacR}
use Rattle.rules.specs.declared.Picture.{Picture}
use Rattle.rules.specs.declared.Progress.{Progress}
use Rattle.rules.specs.declared.Started.{Started}
use Rattle.rules.specs.declared.Taken.{Taken}
use Rattle.rules.proofs.Rows.{same, untouched}

-- what starting says with so many elements, and the state that it gives; what a piece over so many elements says, the state, the numbers
-- of blocks painted and of bytes unused, and the image that it leaves; what ending says; the bytes that a state keeps; and what there
-- is when some bytes have come
data Asked : Type 0 where
  starts : Picture → ℕ → Asked
  begun : Format → Picture → Asked
  piece : Progress → List ℕ → ℕ → Asked
  state : Progress → List ℕ → ℕ → Asked
  counts : Progress → List ℕ → ℕ → Asked
  image : Progress → List ℕ → ℕ → Asked
  ends : Progress → Asked
  keeps : Progress → Asked
  arrived : Format → Picture → List ℕ → Asked
  shown : Format → Picture → List ℕ → ℕ → Asked
  all : List (List ℕ) → Asked

-- a state as its number of bytes taken and its fifteen
told : Progress → List ℕ
told p = p.taken ∷ p.kept

answer : Asked → List ℕ
answer (starts p n) = verdict (start_checks p n)
answer (begun f p) = told (fresh f p)
answer (piece p e n) = piece_verdict p (untouched n)
answer (state p e n) = told (if_taken p (untouched n) (after p e) p)
answer (counts p e n) = if_taken p (untouched n) (completed p e) 0 ∷ if_taken p (untouched n) (behind_last p e) (length e) ∷ []
answer (image p e n) = if_taken p (untouched n) (image_after p e (untouched n)) (untouched n)
answer (ends p) = verdict (end_checks p)
answer (keeps p) = held p
answer (arrived f p d) = used f p d ∷ wholes f p d ∷ told (state_of f p d)
answer (shown f p d n) = so_far f p d (untouched n)
answer (all es) = joined es

-- which is all that is promised
start_no_less : (f : Format) (p : Picture) (n : ℕ) (r : Started) → Starts f p n r → (said r.answer ≡ verdict (start_checks p n)) × (r.progress ≡ fresh f p)
start_no_less f p n r o = (o.says, o.state)

piece_no_less :
    (p : Progress) (e old new : List ℕ) (r : Taken)
    → Takes p e old r new
    → (said r.answer ≡ piece_verdict p old)
    × (r.progress ≡ if_taken p old (after p e) p)
    × (r.painted ≡ if_taken p old (completed p e) 0)
    × (r.unused ≡ if_taken p old (behind_last p e) (length e))
    × (new ≡ if_taken p old (image_after p e old) old)
piece_no_less p e old new r o = (o.says, o.state, o.painted, o.unused, o.leaves)

end_no_less : (p : Progress) (a : Answer) → Ends p a → said a ≡ verdict (end_checks p)
end_no_less p a o = o

record Row : Type 0 where
  asked : Asked
  says : List ℕ

row : Asked → List ℕ → Row
row a v = record { asked = a; says = v }

every : List Row → Bool
every [] = true
every (r ∷ rs) = same (answer r.asked) r.says && every rs

-- a state of a picture: so many bytes taken, and these kept; zeros, or what a forged state has, behind them
reading : Format → Picture → ℕ → List ℕ → Progress
reading f p t k = record { format = f; picture = p; taken = t; kept = k }

-- five pixels of S2 and S1 side by side, in rows of seven
wide : Picture
wide = pitched 5 1 7

first : List ℕ
first = 4 ∷ 0 ∷ 0 ∷ 2 ∷ replicate 4 0

four : List ℕ
four = 0xFF020202 ∷ 0xFF020202 ∷ 0xFFE90202 ∷ 0xFFE90202 ∷ []

-- what is taken of it, with so many bytes of which these are kept
some : ℕ → List ℕ → Progress
some t k = reading Etc1 wide t (k ++ replicate 9 0)

-- S11's alpha over black, in blocks of sixteen bytes
alpha : ℕ → List ℕ → Progress
alpha t k = reading Etc2Rgba8 (sized 4 1) t k

rows : List Row
rows =
    -- "Starting .. refuses with 1, 12 or 3": the limit for each number, a pitch below the width, one element less than enough
    row (starts wide 5) (0 ∷ [])
    ∷ row (starts wide 4) (3 ∷ [])
    ∷ row (starts (pitched 5 2 7) 12) (0 ∷ [])
    ∷ row (starts (pitched 5 2 7) 11) (3 ∷ [])
    ∷ row (starts (pitched 5 1 4) 4) (12 ∷ [])
    ∷ row (starts (pitched 65537 1 4) 4) (1 ∷ [])
    ∷ row (starts (pitched 5 65537 4) 0) (1 ∷ [])
    ∷ row (starts (pitched 5 1 65537) 0) (1 ∷ [])
    ∷ row (starts (pitched 0 65536 65536) 0) (0 ∷ [])
    ∷ row (begun Etc1 wide) (0 ∷ replicate 15 0)
    -- seven bytes complete no block and are kept; the eighth completes one, and nothing is kept
    ∷ row (piece (some 0 (replicate 6 0)) (4 ∷ 0 ∷ 0 ∷ 2 ∷ 0 ∷ 0 ∷ 0 ∷ []) 5) (0 ∷ [])
    ∷ row (state (some 0 (replicate 6 0)) (4 ∷ 0 ∷ 0 ∷ 2 ∷ 0 ∷ 0 ∷ 9 ∷ []) 5) (7 ∷ 4 ∷ 0 ∷ 0 ∷ 2 ∷ 0 ∷ 0 ∷ 9 ∷ replicate 8 0)
    ∷ row (counts (some 0 (replicate 6 0)) (4 ∷ 0 ∷ 0 ∷ 2 ∷ 0 ∷ 0 ∷ 0 ∷ []) 5) (0 ∷ 0 ∷ [])
    ∷ row (image (some 0 (replicate 6 0)) (4 ∷ 0 ∷ 0 ∷ 2 ∷ 0 ∷ 0 ∷ 0 ∷ []) 5) (untouched 5)
    ∷ row (state (some 6 (4 ∷ 0 ∷ 0 ∷ 2 ∷ 0 ∷ 0 ∷ [])) (0 ∷ 0 ∷ []) 5) (8 ∷ replicate 15 0)
    ∷ row (counts (some 6 (4 ∷ 0 ∷ 0 ∷ 2 ∷ 0 ∷ 0 ∷ [])) (0 ∷ 0 ∷ []) 5) (1 ∷ 0 ∷ [])
    ∷ row (image (some 6 (4 ∷ 0 ∷ 0 ∷ 2 ∷ 0 ∷ 0 ∷ [])) (0 ∷ 0 ∷ []) 7) (four ++ untouched 3)
    -- a piece that ends in the next block: its last bytes are kept
    ∷ row (state (some 6 (4 ∷ 0 ∷ 0 ∷ 2 ∷ 0 ∷ 0 ∷ [])) (0 ∷ 0 ∷ 5 ∷ 6 ∷ 7 ∷ []) 5) (11 ∷ 5 ∷ 6 ∷ 7 ∷ replicate 12 0)
    ∷ row (counts (some 6 (4 ∷ 0 ∷ 0 ∷ 2 ∷ 0 ∷ 0 ∷ [])) (0 ∷ 0 ∷ 5 ∷ 6 ∷ 7 ∷ []) 5) (1 ∷ 0 ∷ [])
    -- "up to the last block; later bytes are reported as unused"; no other element than the second block's own is painted
    ∷ row (state (some 11 (0 ∷ 0 ∷ 0 ∷ 9 ∷ 9 ∷ 9 ∷ [])) (0 ∷ 0 ∷ 0 ∷ 0 ∷ 0 ∷ 1 ∷ 2 ∷ []) 5) (16 ∷ replicate 15 0)
    ∷ row (counts (some 11 (0 ∷ 0 ∷ 0 ∷ 9 ∷ 9 ∷ 9 ∷ [])) (0 ∷ 0 ∷ 0 ∷ 0 ∷ 0 ∷ 1 ∷ 2 ∷ []) 5) (1 ∷ 2 ∷ [])
    ∷ row (image (some 11 (0 ∷ 0 ∷ 0 ∷ 9 ∷ 9 ∷ 9 ∷ [])) (0 ∷ 0 ∷ 0 ∷ 0 ∷ 0 ∷ 1 ∷ 2 ∷ []) 7) (untouched 4 ++ (0xFF020202 ∷ untouched 2))
    -- two blocks at once, and three bytes behind them
    ∷ row (counts (some 3 (4 ∷ 0 ∷ 0 ∷ 9 ∷ 9 ∷ 9 ∷ [])) (2 ∷ replicate 15 0) 5) (2 ∷ 3 ∷ [])
    ∷ row (image (some 3 (4 ∷ 0 ∷ 0 ∷ 9 ∷ 9 ∷ 9 ∷ [])) (2 ∷ replicate 15 0) 7) (four ++ (0xFF020202 ∷ untouched 2))
    -- behind the first block, two bytes of the second are kept; and the second and the third at once, of which the latter is S2's
    ∷ row (state (some 8 (replicate 6 0)) (5 ∷ 6 ∷ []) 5) (10 ∷ 5 ∷ 6 ∷ replicate 13 0)
    ∷ row (image (reading Etc1 (sized 12 1) 11 (replicate 15 0)) (replicate 5 0 ++ first) 12) (untouched 4 ++ replicate 4 0xFF020202 ++ four)
    -- "0 included": an empty piece keeps what was kept; what a forged state has behind it is gone
    ∷ row (state (some 3 (4 ∷ 1 ∷ 2 ∷ 9 ∷ 9 ∷ 9 ∷ [])) [] 5) (3 ∷ 4 ∷ 1 ∷ 2 ∷ replicate 12 0)
    ∷ row (counts (some 3 (4 ∷ 1 ∷ 2 ∷ 9 ∷ 9 ∷ 9 ∷ [])) [] 5) (0 ∷ 0 ∷ [])
    ∷ row (keeps (some 3 (4 ∷ 1 ∷ 2 ∷ 9 ∷ 9 ∷ 9 ∷ []))) (4 ∷ 1 ∷ 2 ∷ [])
    ∷ row (keeps (some 11 (4 ∷ 1 ∷ 2 ∷ 9 ∷ 9 ∷ 9 ∷ []))) (4 ∷ 1 ∷ 2 ∷ [])
    ∷ row (keeps (some 99 (4 ∷ 1 ∷ 2 ∷ 9 ∷ 9 ∷ 9 ∷ []))) []
    -- a state that says it has taken more than there is has taken all
    ∷ row (state (some 99 (4 ∷ 1 ∷ 2 ∷ 9 ∷ 9 ∷ 9 ∷ [])) (1 ∷ 2 ∷ []) 5) (16 ∷ replicate 15 0)
    ∷ row (counts (some 99 (4 ∷ 1 ∷ 2 ∷ 9 ∷ 9 ∷ 9 ∷ [])) (1 ∷ 2 ∷ []) 5) (0 ∷ 2 ∷ [])
    ∷ row (image (some 99 (4 ∷ 1 ∷ 2 ∷ 9 ∷ 9 ∷ 9 ∷ [])) (1 ∷ 2 ∷ []) 5) (untouched 5)
    -- "too short, it answers 3 and nothing is taken or changed"; and of a picture that starting refuses, 1 or 12
    ∷ row (piece (some 6 (4 ∷ 0 ∷ 0 ∷ 2 ∷ 0 ∷ 0 ∷ [])) (0 ∷ 0 ∷ 5 ∷ []) 4) (3 ∷ [])
    ∷ row (state (some 6 (4 ∷ 0 ∷ 0 ∷ 2 ∷ 0 ∷ 8 ∷ [])) (0 ∷ 0 ∷ 5 ∷ []) 4) (6 ∷ 4 ∷ 0 ∷ 0 ∷ 2 ∷ 0 ∷ 8 ∷ replicate 9 0)
    ∷ row (counts (some 6 (4 ∷ 0 ∷ 0 ∷ 2 ∷ 0 ∷ 0 ∷ [])) (0 ∷ 0 ∷ 5 ∷ []) 4) (0 ∷ 3 ∷ [])
    ∷ row (image (some 6 (4 ∷ 0 ∷ 0 ∷ 2 ∷ 0 ∷ 0 ∷ [])) (0 ∷ 0 ∷ 5 ∷ []) 4) (untouched 4)
    ∷ row (piece (reading Etc1 (pitched 5 1 65537) 0 []) [] 9) (1 ∷ [])
    ∷ row (piece (reading Etc1 (pitched 5 1 4) 0 []) [] 9) (12 ∷ [])
    -- fifteen bytes of sixteen are kept, and the sixteenth completes the block
    ∷ row (state (alpha 0 (replicate 15 0)) (0x80 ∷ 0x10 ∷ replicate 12 0 ++ (7 ∷ [])) 4) (15 ∷ 0x80 ∷ 0x10 ∷ replicate 12 0 ++ (7 ∷ []))
    ∷ row (counts (alpha 15 (0x80 ∷ 0x10 ∷ replicate 13 0)) (0 ∷ 1 ∷ []) 4) (1 ∷ 1 ∷ [])
    ∷ row (image (alpha 15 (0x80 ∷ 0x10 ∷ replicate 13 0)) (0 ∷ 1 ∷ []) 4) (replicate 4 0x7D020202)
    -- "Ending answers 0 when all blocks are painted, else 2"
    ∷ row (ends (some 15 (replicate 6 0))) (2 ∷ [])
    ∷ row (ends (some 8 (replicate 6 0))) (2 ∷ [])
    ∷ row (ends (some 16 (replicate 6 0))) (0 ∷ [])
    ∷ row (ends (some 99 (replicate 6 0))) (0 ∷ [])
    ∷ row (ends (alpha 15 (replicate 15 0))) (2 ∷ [])
    ∷ row (ends (alpha 16 (replicate 15 0))) (0 ∷ [])
    ∷ row (ends (reading Etc1 (sized 0 9) 0 [])) (0 ∷ [])
    ∷ row (ends (reading Etc1 (pitched 5 1 65537) 0 [])) (1 ∷ [])
    ∷ row (ends (reading Etc1 (pitched 5 65537 4) 99 [])) (1 ∷ [])
    ∷ row (ends (reading Etc1 (pitched 5 1 4) 0 [])) (12 ∷ [])
    -- eleven bytes, three and twenty of two blocks, and a block of EAC R (S13) in a picture of one
    ∷ row (arrived Etc1 wide (first ++ (1 ∷ 2 ∷ 3 ∷ []))) (11 ∷ 1 ∷ 11 ∷ 1 ∷ 2 ∷ 3 ∷ replicate 12 0)
    ∷ row (arrived Etc1 wide (4 ∷ 1 ∷ 2 ∷ [])) (3 ∷ 0 ∷ 3 ∷ 4 ∷ 1 ∷ 2 ∷ replicate 12 0)
    ∷ row (arrived Etc1 wide (first ++ replicate 12 5)) (16 ∷ 2 ∷ 16 ∷ replicate 15 0)
    ∷ row (shown Etc1 wide (first ++ (1 ∷ 2 ∷ 3 ∷ [])) 7) (four ++ untouched 3)
    ∷ row (shown Etc1 wide (first ++ replicate 9 0) 7) (four ++ (0xFF020202 ∷ untouched 2))
    ∷ row (shown EacR (sized 1 1) (128 ∷ 16 ∷ replicate 6 0) 2) (0xFF7D0000 ∷ untouched 1)
    ∷ row (all ((1 ∷ 2 ∷ []) ∷ [] ∷ (3 ∷ []) ∷ [])) (1 ∷ 2 ∷ 3 ∷ [])
    ∷ []

hold : T (every rows)
unfolding told answer row every reading wide first four some alpha rows needed painted differential wrapped kind_by_sums_lem
    t_bases t_distance h_bases h_distance planar_bases_lem planar_channel indexed rgb_pixel rgba1_pixel etc1_pixel alpha_step
    alpha_byte rgba8_pixel eac_value eac_byte red_pixel red_green_pixel size_of shows_of
hold = tt
