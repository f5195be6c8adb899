-- The counts of what an older viewer shows wrong, by hand, as rows of one test that antt computes over the definitions.
-- Assumes nothing.
use mathlib.Core.Bool.{Bool, ◌&&◌}
use mathlib.Core.List.{List, [], ◌∷◌}
use Prim.Native.Nat.{ℕ}
use lib.Dec.{T as So}
use lib.ListN.{replicate}
use Rattle.rules.specs.Places.{sized}
use Rattle.rules.specs.Answers.{first_of}
use Rattle.rules.specs.Census.{count_of}
use Rattle.rules.specs.Checking.{farthest}
use Rattle.rules.specs.Colour.{out_of_range_lem, kind_by_sums_lem, wrapped, differential}
use Rattle.rules.specs.Counting.{sum_of, most_of}
use Rattle.rules.specs.Formats.{shows_of}
use Rattle.rules.specs.Guards.{in_range, opaque_only}
use Rattle.rules.specs.Modes.{etc1_pixel, rgb_pixel, rgba1_pixel, indexed, t_bases, t_distance, h_bases, h_distance, planar_bases_lem, planar_channel}
use Rattle.rules.proofs.Rows.{same, bytes as eights}
use Rattle.rules.specs.Older.{older_verdict}

-- the size and the blocks; what a viewer of ETC1 alone shows wrong of them, and one of RGB
tells : ℕ → ℕ → List ℕ → List ℕ → List ℕ → Bool
tells w h d etc1 rgb = same (older_verdict in_range d (sized w h)) etc1 && same (older_verdict opaque_only d (sized w h)) rgb

-- Planar and black in RGB. ETC1 shows 02 02 02 in its left half, and in its right one a blue of 28 in five bits, 231, and 2 more.
-- Zeros: RGB shows 02 02 02, and RGBA1 black. Every index 2 behind them: RGB shows black, and RGBA1 nothing.
specimens : Bool
specimens =
    tells 4 4 (eights (0x0000040200000000 ∷ [])) (0 ∷ 16 ∷ 1 ∷ 0 ∷ 0 ∷ 233 ∷ 0 ∷ []) (0 ∷ 0 ∷ 0 ∷ 1 ∷ 16 ∷ 0 ∷ 0 ∷ [])
    && tells 4 4 (eights (0 ∷ [])) (0 ∷ 0 ∷ 0 ∷ 1 ∷ 16 ∷ 0 ∷ 0 ∷ []) (0 ∷ 16 ∷ 1 ∷ 0 ∷ 0 ∷ 2 ∷ 0 ∷ [])
    && tells 4 4 (eights (0x00000000FFFF0000 ∷ [])) (0 ∷ 0 ∷ 0 ∷ 1 ∷ 16 ∷ 0 ∷ 0 ∷ []) (0 ∷ 16 ∷ 1 ∷ 0 ∷ 0 ∷ 0 ∷ 255 ∷ [])
    -- refused, and right
    && tells 4 4 (eights (0xFB33301FCCCCCCCC ∷ [])) (0 ∷ 0 ∷ 0 ∷ 1 ∷ 16 ∷ 0 ∷ 0 ∷ []) (0 ∷ 0 ∷ 0 ∷ 1 ∷ 16 ∷ 0 ∷ 0 ∷ [])
    && tells 4 4 (eights (0xFFFFFFFC0000FFFF ∷ [])) (0 ∷ 0 ∷ 0 ∷ 1 ∷ 16 ∷ 0 ∷ 0 ∷ []) (0 ∷ 0 ∷ 0 ∷ 1 ∷ 16 ∷ 0 ∷ 0 ∷ [])
    -- the second block, of which two pixels are shown, beside each other and one below the other; a third behind them is not counted
    && tells 6 1 (eights (0xF800000200000000 ∷ 0x0000040200000000 ∷ 0x0000040200000000 ∷ [])) (0 ∷ 2 ∷ 1 ∷ 1 ∷ 0 ∷ 2 ∷ 0 ∷ []) (0 ∷ 0 ∷ 0 ∷ 2 ∷ 16 ∷ 0 ∷ 0 ∷ [])
    && tells 1 6 (eights (0xF800000200000000 ∷ 0 ∷ [])) (0 ∷ 0 ∷ 0 ∷ 2 ∷ 16 ∷ 0 ∷ 0 ∷ []) (0 ∷ 2 ∷ 1 ∷ 1 ∷ 0 ∷ 2 ∷ 0 ∷ [])
    -- two blocks
    && tells 8 4 (eights (0x0000040200000000 ∷ 0x0000040200000000 ∷ [])) (0 ∷ 32 ∷ 2 ∷ 0 ∷ 0 ∷ 233 ∷ 0 ∷ []) (0 ∷ 0 ∷ 0 ∷ 2 ∷ 16 ∷ 0 ∷ 0 ∷ [])
    -- no pixel, and refusals 1 and 2 in that order
    && tells 0 9 [] (0 ∷ 0 ∷ 0 ∷ 0 ∷ 16 ∷ 0 ∷ 0 ∷ []) (0 ∷ 0 ∷ 0 ∷ 0 ∷ 16 ∷ 0 ∷ 0 ∷ [])
    && tells 65537 1 [] (1 ∷ []) (1 ∷ [])
    && tells 5 9 (replicate 47 0) (2 ∷ []) (2 ∷ [])

hold : So specimens
unfolding specimens tells first_of count_of sum_of most_of farthest out_of_range_lem kind_by_sums_lem wrapped differential
    shows_of etc1_pixel rgb_pixel rgba1_pixel indexed t_bases t_distance h_bases h_distance planar_bases_lem planar_channel
hold = tt
