-- The census of document 01's blocks, counted by hand, as rows of one list: one test that antt computes over the definitions that
-- the censuses promise. Each block stands alone first, so that a row fails where a test is met that should not be; then all of them
-- in one picture, clipped and not, and refused. Blocks of our own are marked: two and three sums out of range at once, green and blue
-- just out of range and just in it, and T, H and planar with the bit clear.
-- Assumes nothing.
use mathlib.Core.Bool.{Bool, true, ◌&&◌}
use mathlib.Core.List.{List, [], ◌∷◌}
use mathlib.Core.Path.{◌≡◌}
use Prim.Native.Nat.{ℕ}
use lib.Dec.{T}
use lib.ListN.{drop}
use Rattle.std.specs.Prelude.{Result, Ok, Err}
use Rattle.rules.specs.Places.{pitched, sized}
use Rattle.rules.specs.Census.{Test, count_of, rgb_tests, rgba1_tests, census, rgb_said, rgba1_said, CountsRgb, CountsRgba1}
use Rattle.rules.specs.declared.Picture.{Picture}
use Rattle.rules.specs.declared.Refusal.{Refusal}
use Rattle.rules.specs.declared.Refusal.TheVariants.{TooLarge, ShortData}
use Rattle.rules.specs.declared.RgbCounts.{RgbCounts}
use Rattle.rules.specs.declared.Rgba1Counts.{Rgba1Counts}
use Rattle.rules.proofs.Rows.{same, bytes as eights}

-- what is promised
rgb_no_less : (d : List ℕ) (p : Picture) (a : Result RgbCounts Refusal) → CountsRgb d p a → rgb_said a ≡ census rgb_tests d p
rgb_no_less d p a o = o

rgba1_no_less : (d : List ℕ) (p : Picture) (a : Result Rgba1Counts Refusal) → CountsRgba1 d p a → rgba1_said a ≡ census rgba1_tests d p
rgba1_no_less d p a o = o

-- "how many blocks are individual, differential, T, H and planar", in that order; "four kinds, each split by the opaque bit"; and
-- refusals 1 and 2, which return no counts
answers : Bool
answers =
    same (rgb_said (Ok (record { individual = 5; differential = 6; t = 7; h = 8; planar = 9 }))) (0 ∷ 5 ∷ 6 ∷ 7 ∷ 8 ∷ 9 ∷ [])
    && same (rgb_said (Err TooLarge)) (1 ∷ [])
    && same (rgb_said (Err ShortData)) (2 ∷ [])
    && same
    (rgba1_said (Ok (record { opaque = record { differential = 1; t = 2; h = 3; planar = 4 }; clear = record { differential = 5; t = 6; h = 7; planar = 8 } })))
    (0 ∷ 1 ∷ 2 ∷ 3 ∷ 4 ∷ 5 ∷ 6 ∷ 7 ∷ 8 ∷ [])
    && same (rgba1_said (Err TooLarge)) (1 ∷ [])
    && same (rgba1_said (Err ShortData)) (2 ∷ [])

record Row : Type 0 where
  tests : List Test
  bytes : List ℕ
  width : ℕ
  height : ℕ
  says : List ℕ

every : List Row → Bool
every [] = true
every (r ∷ rs) = same (census r.tests r.bytes (sized r.width r.height)) r.says && every rs

counted : List Test → List ℕ → ℕ → ℕ → List ℕ → Row
counted tests bytes w h says = record { tests = tests; bytes = bytes; width = w; height = h; says = says }

-- a block alone, with its counts under RGB and under RGBA1
alone : ℕ → List ℕ → List ℕ → List Row → List Row
alone block rgb rgba1 rest =
    counted rgb_tests (eights (block ∷ [])) 4 4 (0 ∷ rgb) ∷ counted rgba1_tests (eights (block ∷ [])) 4 4 (0 ∷ rgba1) ∷ rest

-- S1, S6, S2, S3, S4, S7; all sums out of range; T, H and planar with the bit clear; S5 twice
mixed : List ℕ
mixed =
    eights
    (0
    ∷ 0xF800000200000000
    ∷ 0x0400000200000000
    ∷ 0x0004000200000000
    ∷ 0x000004020000003F
    ∷ 0xF900000200000000
    ∷ 0x0404040200000000
    ∷ 0x0400000000000000
    ∷ 0x0004040000000000
    ∷ 0x0000040000000000
    ∷ 0x80000000FFFF0000
    ∷ 0x80000000FFFF0000
    ∷ [])

specimens : List Row
specimens =
    alone 0 (1 ∷ 0 ∷ 0 ∷ 0 ∷ 0 ∷ []) (0 ∷ 0 ∷ 0 ∷ 0 ∷ 1 ∷ 0 ∷ 0 ∷ 0 ∷ [])
    (alone 0x0400000200000000 (0 ∷ 0 ∷ 1 ∷ 0 ∷ 0 ∷ []) (0 ∷ 1 ∷ 0 ∷ 0 ∷ 0 ∷ 0 ∷ 0 ∷ 0 ∷ [])
    (alone 0x0004000200000000 (0 ∷ 0 ∷ 0 ∷ 1 ∷ 0 ∷ []) (0 ∷ 0 ∷ 1 ∷ 0 ∷ 0 ∷ 0 ∷ 0 ∷ 0 ∷ [])
    (alone 0x000004020000003F (0 ∷ 0 ∷ 0 ∷ 0 ∷ 1 ∷ []) (0 ∷ 0 ∷ 0 ∷ 1 ∷ 0 ∷ 0 ∷ 0 ∷ 0 ∷ [])
    (alone 0x80000000FFFF0000 (1 ∷ 0 ∷ 0 ∷ 0 ∷ 0 ∷ []) (0 ∷ 0 ∷ 0 ∷ 0 ∷ 1 ∷ 0 ∷ 0 ∷ 0 ∷ [])
    (alone 0xF800000200000000 (0 ∷ 1 ∷ 0 ∷ 0 ∷ 0 ∷ []) (1 ∷ 0 ∷ 0 ∷ 0 ∷ 0 ∷ 0 ∷ 0 ∷ 0 ∷ [])
    (alone 0xF900000200000000 (0 ∷ 0 ∷ 1 ∷ 0 ∷ 0 ∷ []) (0 ∷ 1 ∷ 0 ∷ 0 ∷ 0 ∷ 0 ∷ 0 ∷ 0 ∷ [])
    (alone 0x0404040200000000 (0 ∷ 0 ∷ 1 ∷ 0 ∷ 0 ∷ []) (0 ∷ 1 ∷ 0 ∷ 0 ∷ 0 ∷ 0 ∷ 0 ∷ 0 ∷ [])
    (alone 0x0404000200000000 (0 ∷ 0 ∷ 1 ∷ 0 ∷ 0 ∷ []) (0 ∷ 1 ∷ 0 ∷ 0 ∷ 0 ∷ 0 ∷ 0 ∷ 0 ∷ [])
    (alone 0x0400040200000000 (0 ∷ 0 ∷ 1 ∷ 0 ∷ 0 ∷ []) (0 ∷ 1 ∷ 0 ∷ 0 ∷ 0 ∷ 0 ∷ 0 ∷ 0 ∷ [])
    (alone 0x00F9000200000000 (0 ∷ 0 ∷ 0 ∷ 1 ∷ 0 ∷ []) (0 ∷ 0 ∷ 1 ∷ 0 ∷ 0 ∷ 0 ∷ 0 ∷ 0 ∷ [])
    (alone 0x0000F90200000000 (0 ∷ 0 ∷ 0 ∷ 0 ∷ 1 ∷ []) (0 ∷ 0 ∷ 0 ∷ 1 ∷ 0 ∷ 0 ∷ 0 ∷ 0 ∷ [])
    (alone 0x0024240200000000 (0 ∷ 1 ∷ 0 ∷ 0 ∷ 0 ∷ []) (1 ∷ 0 ∷ 0 ∷ 0 ∷ 0 ∷ 0 ∷ 0 ∷ 0 ∷ [])
    (alone 0x0404000000000000 (1 ∷ 0 ∷ 0 ∷ 0 ∷ 0 ∷ []) (0 ∷ 0 ∷ 0 ∷ 0 ∷ 0 ∷ 1 ∷ 0 ∷ 0 ∷ [])
    (alone 0x0400040000000000 (1 ∷ 0 ∷ 0 ∷ 0 ∷ 0 ∷ []) (0 ∷ 0 ∷ 0 ∷ 0 ∷ 0 ∷ 1 ∷ 0 ∷ 0 ∷ [])
    (alone 0x0400000000000000 (1 ∷ 0 ∷ 0 ∷ 0 ∷ 0 ∷ []) (0 ∷ 0 ∷ 0 ∷ 0 ∷ 0 ∷ 1 ∷ 0 ∷ 0 ∷ [])
    (alone 0x0004040000000000 (1 ∷ 0 ∷ 0 ∷ 0 ∷ 0 ∷ []) (0 ∷ 0 ∷ 0 ∷ 0 ∷ 0 ∷ 0 ∷ 1 ∷ 0 ∷ [])
    (alone 0x0004000000000000 (1 ∷ 0 ∷ 0 ∷ 0 ∷ 0 ∷ []) (0 ∷ 0 ∷ 0 ∷ 0 ∷ 0 ∷ 0 ∷ 1 ∷ 0 ∷ [])
    (alone 0x0000040000000000 (1 ∷ 0 ∷ 0 ∷ 0 ∷ 0 ∷ []) (0 ∷ 0 ∷ 0 ∷ 0 ∷ 0 ∷ 0 ∷ 0 ∷ 1 ∷ [])
    (counted rgb_tests mixed 16 12 (0 ∷ 6 ∷ 1 ∷ 3 ∷ 1 ∷ 1 ∷ [])
    ∷ counted rgba1_tests mixed 16 12 (0 ∷ 1 ∷ 3 ∷ 1 ∷ 1 ∷ 3 ∷ 1 ∷ 1 ∷ 1 ∷ [])
    ∷ counted rgb_tests mixed 9 5 (0 ∷ 1 ∷ 1 ∷ 2 ∷ 1 ∷ 1 ∷ [])
    ∷ counted rgba1_tests mixed 9 5 (0 ∷ 1 ∷ 2 ∷ 1 ∷ 1 ∷ 1 ∷ 0 ∷ 0 ∷ 0 ∷ [])
    ∷ counted rgb_tests mixed 0 9 (0 ∷ 0 ∷ 0 ∷ 0 ∷ 0 ∷ 0 ∷ [])
    ∷ counted rgb_tests (drop 1 mixed) 16 12 (2 ∷ [])
    ∷ counted rgba1_tests [] 65537 0 (1 ∷ [])
    ∷ counted rgba1_tests [] 65537 1 (1 ∷ [])
    ∷ [])))))))))))))))))))

-- "the census takes no pitch" (M-104): one above the limit, or below the width, is not looked at
unpitched : Bool
unpitched =
    same (census rgb_tests mixed (pitched 16 12 65537)) (0 ∷ 6 ∷ 1 ∷ 3 ∷ 1 ∷ 1 ∷ [])
    && same (census rgba1_tests mixed (pitched 16 12 0)) (0 ∷ 1 ∷ 3 ∷ 1 ∷ 1 ∷ 3 ∷ 1 ∷ 1 ∷ 1 ∷ [])

hold : T (answers && every specimens && unpitched)
unfolding answers every counted alone mixed specimens unpitched count_of
hold = tt
