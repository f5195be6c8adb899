-- What a census from C owes, and the counts of an older viewer: the number of its answer, and the counts in the room lent for them.
-- Assumes nothing.
use Rattle.std.specs.Prelude.{List, [], ◌∷◌, ◌++◌, ℕ, length}
use Rattle.rules.specs.Places.{blocks, bytes_of}
use Rattle.rules.specs.Answers.{Check, image_check, verdict, Outcome}
use Rattle.rules.specs.Census.{Test, counts, census_checks}
use Rattle.rules.specs.Guards.{Guard}
use Rattle.rules.specs.Answers.{Answer}
use Rattle.rules.specs.declared.Picture.{Picture}
use Rattle.capi.specs.census_lent.Lays.{laid}
use Rattle.rules.specs.Older.{older_counts_lem}

-- the checks of a census, and then refusal 3 where the room has fewer than n elements, for as many counts
abbrev pub room_checks : ℕ → Picture → ℕ → ℕ → List Check
room_checks n p bytes elements = census_checks p bytes ++ (image_check n elements ∷ [])

-- The counts that are due of bytes d, n of them, into a room: an answer and the room come out.
abbrev pub LaidInto : ℕ → List ℕ → List ℕ → Picture → List ℕ → Answer → List ℕ → Type 0
LaidInto n due d p room answer new =
    Outcome (verdict (room_checks n p (length d) (length room))) (laid due room) answer room new

-- A census, and the counts of what an older viewer shows wrong.
abbrev pub CountsInto : List Test → List ℕ → Picture → List ℕ → Answer → List ℕ → Type 0
CountsInto tests d p = LaidInto (length tests) (counts (bytes_of 8 d) (blocks p) tests) d p

abbrev pub OlderInto : Guard → List ℕ → Picture → List ℕ → Answer → List ℕ → Type 0
OlderInto g d p = LaidInto 6 (older_counts_lem g p d (blocks p)) d p
