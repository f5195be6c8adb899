-- What reads of some bits answer and where the place is after them, counted by hand from M-108's words, as rows of one list: one test
-- that antt computes over the definitions that the bit reader promises.
-- Assumes nothing.
use mathlib.Core.Bool.{Bool, true, ◌&&◌}
use mathlib.Core.List.{List, [], ◌∷◌}
use Prim.Native.Nat.{ℕ}
use lib.Dec.{T, eqb}
use Rattle.numbers.specs.Numbers.{little}
use Rattle.rules.specs.Bits.{number, refuses, bits_said, read_verdict, place_after_lem}
use Rattle.std.specs.Prelude.{Some, None}
use Rattle.rules.proofs.Rows.{same}

-- "is refused with 2"
answers : Bool
answers = same (bits_said (Some 5)) (0 ∷ 5 ∷ []) && same (bits_said None) (2 ∷ [])

-- n bits from place p on of some bytes: what is said, and the place after
record Row : Type 0 where
  bytes : List ℕ
  place : ℕ
  count : ℕ
  says : List ℕ
  after : ℕ

read : List ℕ → ℕ → ℕ → List ℕ → ℕ → Row
read d p n says after = record { bytes = d; place = p; count = n; says = says; after = after }

every : List Row → Bool
every [] = true
every (r ∷ rs) =
    same (read_verdict r.bytes r.place r.count) r.says && eqb (place_after_lem r.bytes r.place r.count) r.after && every rs

-- from the lowest bit: 1010 0110, 0100 1101, 1111 0000
three : List ℕ
three = 0x65 ∷ 0xB2 ∷ 0x0F ∷ []

-- "lowest bit first", in a byte, over two, and up to the last bit; none; "over 8 bits"; "past the lent bytes", "the place kept"
reads : List Row
reads =
    read three 0 4 (0 ∷ 5 ∷ []) 4
    ∷ read three 1 3 (0 ∷ 2 ∷ []) 4
    ∷ read three 5 1 (0 ∷ 1 ∷ []) 6
    ∷ read three 0 8 (0 ∷ 0x65 ∷ []) 8
    ∷ read three 4 8 (0 ∷ 0x26 ∷ []) 12
    ∷ read three 13 7 (0 ∷ 0x7D ∷ []) 20
    ∷ read three 16 8 (0 ∷ 0x0F ∷ []) 24
    ∷ read three 24 0 (0 ∷ 0 ∷ []) 24
    ∷ read three 3 0 (0 ∷ 0 ∷ []) 3
    ∷ read three 25 0 (2 ∷ []) 25
    ∷ read three 17 8 (2 ∷ []) 17
    ∷ read three 23 2 (2 ∷ []) 23
    ∷ read three 2 9 (2 ∷ []) 2
    ∷ read three 30 9 (2 ∷ []) 30
    ∷ read three 18446744073709551615 1 (2 ∷ []) 18446744073709551615
    ∷ read [] 0 0 (0 ∷ 0 ∷ []) 0
    ∷ read [] 0 1 (2 ∷ []) 0
    ∷ []

hold : T (answers && every reads)
unfolding answers every read three reads number refuses little
hold = tt
