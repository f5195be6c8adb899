-- The tables of BC7 as the crate texture2ddecoder 0.1.2 has them in its files src/bcn/consts.rs and src/bcn/bc7.rs, entry by entry, and
-- one test that antt computes: the definitions have the same entries. Made on 2026-11-16 by: oracle/tables --record 2026-11-16
-- Assumes nothing.
use mathlib.Core.Bool.{Bool, true, false, ◌&&◌}
use mathlib.Core.List.{List, [], ◌∷◌}
use Prim.Native.Nat.{ℕ, zero, suc, ◌/◌, ◌%◌}
use lib.Dec.{T}
use Rattle.rules.specs.Notation.{build}
use Rattle.rules.specs.Bptc.{two, three, anchor_of_two, anchor_of_three1, anchor_of_three2, weight_rows, weights_of, subset, anchor}
use Rattle.rules.specs.Bc7.{mode_table}
use Rattle.rules.proofs.Rows.{same}

-- The crate has a partition as one number: the subset of pixel i is its digit i, the lowest first, in base 2 of two subsets and in base
-- 4 of three. An anchor is a pixel's number; of subset 0 it is 0 and stands in no table. A mode's row is in the order of `mode_table`.

partitions_of_two : List ℕ
partitions_of_two =
    0xCCCC ∷ 0x8888 ∷ 0xEEEE ∷ 0xECC8 ∷ 0xC880 ∷ 0xFEEC ∷ 0xFEC8 ∷ 0xEC80 ∷
    0xC800 ∷ 0xFFEC ∷ 0xFE80 ∷ 0xE800 ∷ 0xFFE8 ∷ 0xFF00 ∷ 0xFFF0 ∷ 0xF000 ∷
    0xF710 ∷ 0x008E ∷ 0x7100 ∷ 0x08CE ∷ 0x008C ∷ 0x7310 ∷ 0x3100 ∷ 0x8CCE ∷
    0x088C ∷ 0x3110 ∷ 0x6666 ∷ 0x366C ∷ 0x17E8 ∷ 0x0FF0 ∷ 0x718E ∷ 0x399C ∷
    0xAAAA ∷ 0xF0F0 ∷ 0x5A5A ∷ 0x33CC ∷ 0x3C3C ∷ 0x55AA ∷ 0x9696 ∷ 0xA55A ∷
    0x73CE ∷ 0x13C8 ∷ 0x324C ∷ 0x3BDC ∷ 0x6996 ∷ 0xC33C ∷ 0x9966 ∷ 0x0660 ∷
    0x0272 ∷ 0x04E4 ∷ 0x4E40 ∷ 0x2720 ∷ 0xC936 ∷ 0x936C ∷ 0x39C6 ∷ 0x639C ∷
    0x9336 ∷ 0x9CC6 ∷ 0x817E ∷ 0xE718 ∷ 0xCCF0 ∷ 0x0FCC ∷ 0x7744 ∷ 0xEE22 ∷
    []

partitions_of_three : List ℕ
partitions_of_three =
    0xAA685050 ∷ 0x6A5A5040 ∷ 0x5A5A4200 ∷ 0x5450A0A8 ∷ 0xA5A50000 ∷ 0xA0A05050 ∷ 0x5555A0A0 ∷ 0x5A5A5050 ∷
    0xAA550000 ∷ 0xAA555500 ∷ 0xAAAA5500 ∷ 0x90909090 ∷ 0x94949494 ∷ 0xA4A4A4A4 ∷ 0xA9A59450 ∷ 0x2A0A4250 ∷
    0xA5945040 ∷ 0x0A425054 ∷ 0xA5A5A500 ∷ 0x55A0A0A0 ∷ 0xA8A85454 ∷ 0x6A6A4040 ∷ 0xA4A45000 ∷ 0x1A1A0500 ∷
    0x0050A4A4 ∷ 0xAAA59090 ∷ 0x14696914 ∷ 0x69691400 ∷ 0xA08585A0 ∷ 0xAA821414 ∷ 0x50A4A450 ∷ 0x6A5A0200 ∷
    0xA9A58000 ∷ 0x5090A0A8 ∷ 0xA8A09050 ∷ 0x24242424 ∷ 0x00AA5500 ∷ 0x24924924 ∷ 0x24499224 ∷ 0x50A50A50 ∷
    0x500AA550 ∷ 0xAAAA4444 ∷ 0x66660000 ∷ 0xA5A0A5A0 ∷ 0x50A050A0 ∷ 0x69286928 ∷ 0x44AAAA44 ∷ 0x66666600 ∷
    0xAA444444 ∷ 0x54A854A8 ∷ 0x95809580 ∷ 0x96969600 ∷ 0xA85454A8 ∷ 0x80959580 ∷ 0xAA141414 ∷ 0x96960000 ∷
    0xAAAA1414 ∷ 0xA05050A0 ∷ 0xA0A5A5A0 ∷ 0x96000000 ∷ 0x40804080 ∷ 0xA9A8A9A8 ∷ 0xAAAAAA44 ∷ 0x2A4A5254 ∷
    []

second_of_two : List ℕ
second_of_two =
    15 ∷ 15 ∷ 15 ∷ 15 ∷ 15 ∷ 15 ∷ 15 ∷ 15 ∷ 15 ∷ 15 ∷ 15 ∷ 15 ∷ 15 ∷ 15 ∷ 15 ∷ 15 ∷
    15 ∷ 2 ∷ 8 ∷ 2 ∷ 2 ∷ 8 ∷ 8 ∷ 15 ∷ 2 ∷ 8 ∷ 2 ∷ 2 ∷ 8 ∷ 8 ∷ 2 ∷ 2 ∷
    15 ∷ 15 ∷ 6 ∷ 8 ∷ 2 ∷ 8 ∷ 15 ∷ 15 ∷ 2 ∷ 8 ∷ 2 ∷ 2 ∷ 2 ∷ 15 ∷ 15 ∷ 6 ∷
    6 ∷ 2 ∷ 6 ∷ 8 ∷ 15 ∷ 15 ∷ 2 ∷ 2 ∷ 15 ∷ 15 ∷ 15 ∷ 15 ∷ 15 ∷ 2 ∷ 2 ∷ 15 ∷
    []

second_of_three : List ℕ
second_of_three =
    3 ∷ 3 ∷ 15 ∷ 15 ∷ 8 ∷ 3 ∷ 15 ∷ 15 ∷ 8 ∷ 8 ∷ 6 ∷ 6 ∷ 6 ∷ 5 ∷ 3 ∷ 3 ∷
    3 ∷ 3 ∷ 8 ∷ 15 ∷ 3 ∷ 3 ∷ 6 ∷ 10 ∷ 5 ∷ 8 ∷ 8 ∷ 6 ∷ 8 ∷ 5 ∷ 15 ∷ 15 ∷
    8 ∷ 15 ∷ 3 ∷ 5 ∷ 6 ∷ 10 ∷ 8 ∷ 15 ∷ 15 ∷ 3 ∷ 15 ∷ 5 ∷ 15 ∷ 15 ∷ 15 ∷ 15 ∷
    3 ∷ 15 ∷ 5 ∷ 5 ∷ 5 ∷ 8 ∷ 5 ∷ 10 ∷ 5 ∷ 10 ∷ 8 ∷ 13 ∷ 15 ∷ 12 ∷ 3 ∷ 3 ∷
    []

third_of_three : List ℕ
third_of_three =
    15 ∷ 8 ∷ 8 ∷ 3 ∷ 15 ∷ 15 ∷ 3 ∷ 8 ∷ 15 ∷ 15 ∷ 15 ∷ 15 ∷ 15 ∷ 15 ∷ 15 ∷ 8 ∷
    15 ∷ 8 ∷ 15 ∷ 3 ∷ 15 ∷ 8 ∷ 15 ∷ 8 ∷ 3 ∷ 15 ∷ 6 ∷ 10 ∷ 15 ∷ 15 ∷ 10 ∷ 8 ∷
    15 ∷ 3 ∷ 15 ∷ 10 ∷ 10 ∷ 8 ∷ 9 ∷ 10 ∷ 6 ∷ 15 ∷ 8 ∷ 15 ∷ 3 ∷ 6 ∷ 6 ∷ 8 ∷
    15 ∷ 3 ∷ 15 ∷ 15 ∷ 15 ∷ 15 ∷ 15 ∷ 15 ∷ 15 ∷ 15 ∷ 15 ∷ 15 ∷ 3 ∷ 15 ∷ 15 ∷ 8 ∷
    []

weights : List (List ℕ)
weights =
    (0 ∷ 21 ∷ 43 ∷ 64 ∷ []) ∷
    (0 ∷ 9 ∷ 18 ∷ 27 ∷ 37 ∷ 46 ∷ 55 ∷ 64 ∷ []) ∷
    (0 ∷ 4 ∷ 9 ∷ 13 ∷ 17 ∷ 21 ∷ 26 ∷ 30 ∷ 34 ∷ 38 ∷ 43 ∷ 47 ∷ 51 ∷ 55 ∷ 60 ∷ 64 ∷ []) ∷
    []

modes : List (List ℕ)
modes =
    (3 ∷ 4 ∷ 0 ∷ 0 ∷ 4 ∷ 0 ∷ 1 ∷ 0 ∷ 3 ∷ 0 ∷ []) ∷
    (2 ∷ 6 ∷ 0 ∷ 0 ∷ 6 ∷ 0 ∷ 0 ∷ 1 ∷ 3 ∷ 0 ∷ []) ∷
    (3 ∷ 6 ∷ 0 ∷ 0 ∷ 5 ∷ 0 ∷ 0 ∷ 0 ∷ 2 ∷ 0 ∷ []) ∷
    (2 ∷ 6 ∷ 0 ∷ 0 ∷ 7 ∷ 0 ∷ 1 ∷ 0 ∷ 2 ∷ 0 ∷ []) ∷
    (1 ∷ 0 ∷ 2 ∷ 1 ∷ 5 ∷ 6 ∷ 0 ∷ 0 ∷ 2 ∷ 3 ∷ []) ∷
    (1 ∷ 0 ∷ 2 ∷ 0 ∷ 7 ∷ 8 ∷ 0 ∷ 0 ∷ 2 ∷ 2 ∷ []) ∷
    (1 ∷ 0 ∷ 0 ∷ 0 ∷ 7 ∷ 7 ∷ 1 ∷ 0 ∷ 4 ∷ 0 ∷ []) ∷
    (2 ∷ 6 ∷ 0 ∷ 0 ∷ 5 ∷ 5 ∷ 1 ∷ 0 ∷ 2 ∷ 0 ∷ []) ∷
    []

-- so many digits of a number in base b, the lowest first
digits : ℕ → ℕ → ℕ → List ℕ
digits b zero n = []
digits b (suc k) n = n % b ∷ digits b k (n / b)

-- the rows of a table of partitions
rows_of : ℕ → List ℕ → List (List ℕ)
rows_of b [] = []
rows_of b (w ∷ ws) = digits b 16 w ∷ rows_of b ws

-- two tables have the same rows
alike : List (List ℕ) → List (List ℕ) → Bool
alike [] [] = true
alike [] (y ∷ ys) = false
alike (x ∷ xs) [] = false
alike (x ∷ xs) (y ∷ ys) = same x y && alike xs ys

-- every table has the crate's entries, and no more and no fewer
same_tables : Bool
same_tables =
    alike two (rows_of 2 partitions_of_two)
    && alike three (rows_of 4 partitions_of_three)
    && same anchor_of_two second_of_two
    && same anchor_of_three1 second_of_three
    && same anchor_of_three2 third_of_three
    && alike weight_rows weights
    && alike mode_table modes

-- and from partition p on, each is looked up in its own place: the subsets of sixteen pixels, the anchors of subset s, the weights
subsets : ℕ → ℕ → List (List ℕ) → Bool
subsets n p [] = true
subsets n p (r ∷ rs) = same (build 16 (λ i. subset n p i)) r && subsets n (suc p) rs

anchors : ℕ → ℕ → List ℕ → Bool
anchors n s l = same (build 64 (λ p. anchor n p s)) l

looked_up : Bool
looked_up =
    subsets 2 0 (rows_of 2 partitions_of_two)
    && subsets 3 0 (rows_of 4 partitions_of_three)
    && anchors 2 1 second_of_two
    && anchors 3 1 second_of_three
    && anchors 3 2 third_of_three
    && alike (weights_of 2 ∷ weights_of 3 ∷ weights_of 4 ∷ []) weights

hold : T (same_tables && looked_up)
unfolding same_tables looked_up partitions_of_two partitions_of_three second_of_two second_of_three third_of_three weights modes digits rows_of
    subsets anchors alike two three anchor_of_two anchor_of_three1 anchor_of_three2 subset anchor mode_table
hold = tt
