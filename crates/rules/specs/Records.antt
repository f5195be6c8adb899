-- Records (M-101 of document 02), and the walk over them. Its own sentences stand in quotes above the definitions that they become.
-- Assumes nothing.
use Rattle.std.specs.Prelude.{Bool, cond, List, [], ◌∷◌, ◌++◌, ℕ, zero, suc, ◌+◌, ltb, leb, length, take, drop}
use Rattle.numbers.specs.Numbers.{little, in_bytes}

pub record Record : Type 0 where
  pub kind : ℕ
  pub payload : List ℕ

-- "A record is a payload length (four bytes), a kind (two bytes), then the payload; all numbers are little-endian": as bytes,
abbrev pub encoded : Record → List ℕ
encoded r = in_bytes 4 (length r.payload) ++ (in_bytes 2 r.kind ++ r.payload)

-- and the record that some bytes begin with, with what stands behind it
abbrev pub length_in : List ℕ → ℕ
length_in d = little 4 0 d

abbrev pub record_in : List ℕ → Record
record_in d = record { kind = little 2 4 d; payload = take (length_in d) (drop 6 d) }

abbrev pub behind : List ℕ → List ℕ
behind d = drop (6 + length_in d) d

-- "record cut short": fewer bytes than its six and its payload
abbrev pub is_cut_lem : List ℕ → Bool
is_cut_lem d = ltb (length d) (6 + length_in d)

-- what "the walk .. front to back" meets: a record and then more; the end of the bytes; or a record that is cut short
pub data Records : Type 0 where
  more : Record → Records → Records
  ended : Records
  short : Records

-- the walk, in at most so many turns
unfoldable pub walked : ℕ → List ℕ → Records
walked zero d = ended
walked (suc turns) [] = ended
walked (suc turns) (b ∷ l) =
    cond (is_cut_lem (b ∷ l)) short (more (record_in (b ∷ l)) (walked turns (behind (b ∷ l))))

-- each record has six bytes or more, so that as many turns as there are bytes reach the end, as crates/sheet/proofs/records/Walk.antt
-- shows
abbrev pub records_of : List ℕ → Records
records_of d = walked (length d) d

-- the first record that was met, and what comes after it; a record of nothing where there is none
abbrev pub first : Records → Record
first (more r rs) = r
first ended = record { kind = 0; payload = [] }
first short = record { kind = 0; payload = [] }

abbrev pub later : Records → Records
later (more r rs) = rs
later ended = ended
later short = short

-- "Kinds from 8000 hex on may stand anywhere after the first and are skipped."
abbrev pub is_skipped : Record → Bool
is_skipped r = leb 0x8000 r.kind

unfoldable pub kept : Records → Records
kept (more r rs) = cond (is_skipped r) (kept rs) (more r (kept rs))
kept ended = ended
kept short = short

-- where the payload of the first record begins that is not skipped, of records that begin at a byte: behind the six bytes of its own,
-- and behind the records before it
unfoldable pub payload_at : ℕ → Records → ℕ
payload_at at (more r rs) = cond (is_skipped r) (payload_at (at + 6 + length r.payload) rs) (at + 6)
payload_at at ended = at
payload_at at short = at
