-- M-112, the checker: how far the pixels of an ETC1 block are from those of a tile, and when that is near enough.
-- Assumes nothing.
use Rattle.std.specs.Prelude.{Bool, cond, not, ◌&&◌, List, [], ◌∷◌, ◌≡◌, ℕ, ◌+◌, ◌-◌, ◌/◌, ◌%◌, max, leb, length, get_or, Result}
use Rattle.std.specs.Prelude.{Ok, Err, ⊤}
use Rattle.rules.specs.Pixel.{red_of, green_of, blue_of}
use Rattle.rules.specs.Answers.{judged, block_checks}
use Rattle.rules.specs.Colour.{out_of_range_lem}
use Rattle.rules.specs.Modes.{etc1_pixel}
use Rattle.rules.specs.Counting.{sum_of, most_of, each}
use Rattle.rules.specs.declared.BakingRefusal.{BakingRefusal}
use Rattle.rules.specs.declared.BakingRefusal.TheVariants.{ShortBlock, ShortTile, NoBase, NotAccepted}

-- how far two numbers differ
abbrev pub apart : ℕ → ℕ → ℕ
apart a b = (a - b) + (b - a)

-- "each red, green and blue of each pixel differs from the tile by at most the tolerance. Alpha is ignored.": of two pixels,
unfoldable pub near : ℕ → ℕ → ℕ → Bool
near tolerance p q =
    leb (apart (red_of p) (red_of q)) tolerance
    && (leb (apart (green_of p) (green_of q)) tolerance && leb (apart (blue_of p) (blue_of q)) tolerance)

-- pixel k of a block, row by row as in a tile,
abbrev pub pixel : List ℕ → ℕ → ℕ
pixel d k = etc1_pixel d (k % 4) (k / 4)

-- and of a block d and a tile t
abbrev pub like : ℕ → List ℕ → List ℕ → Bool
like tolerance d t = each (λ k. near tolerance (pixel d k) (get_or t k 0)) 16

-- "A checker accepts exactly if the block is in range and" so
abbrev pub accepted : ℕ → List ℕ → List ℕ → Bool
accepted tolerance d t = not (out_of_range_lem d) && like tolerance d t

-- "summed absolute red, green and blue difference": of two pixels, and of a block and a tile
unfoldable pub differ : ℕ → ℕ → ℕ
differ p q = apart (red_of p) (red_of q) + apart (green_of p) (green_of q) + apart (blue_of p) (blue_of q)

abbrev pub cost : List ℕ → List ℕ → ℕ
cost d t = sum_of (λ k. differ (pixel d k) (get_or t k 0)) 16

-- the largest difference of a red, green or blue: likewise
unfoldable pub farthest : ℕ → ℕ → ℕ
farthest p q = max (apart (red_of p) (red_of q)) (max (apart (green_of p) (green_of q)) (apart (blue_of p) (blue_of q)))

abbrev pub largest : List ℕ → List ℕ → ℕ
largest d t = most_of (λ k. farthest (pixel d k) (get_or t k 0)) 16

-- "A block under 8 bytes is refused with 2, a tile under 16 elements with 3, in that order." A block that is not accepted is not
-- refused: the paper has no number for it, and 18 is ours (docs/DECISIONS.md)
unfoldable pub check_verdict : ℕ → List ℕ → List ℕ → List ℕ
check_verdict tolerance d t =
    judged (block_checks 8 (length d) (length t)) (cond (accepted tolerance d t) (0 ∷ []) (18 ∷ []))

-- the number of each answer of the checker and of the baker
abbrev pub baking_said : Result ⊤ BakingRefusal → List ℕ
baking_said (Ok u) = 0 ∷ []
baking_said (Err ShortBlock) = 2 ∷ []
baking_said (Err ShortTile) = 3 ∷ []
baking_said (Err NoBase) = 16 ∷ []
baking_said (Err NotAccepted) = 18 ∷ []

-- The promise of the checker, of a tolerance, the bytes of a block and the elements of a tile.
abbrev pub Checks : ℕ → List ℕ → List ℕ → Result ⊤ BakingRefusal → Type 0
Checks tolerance d t answer = baking_said answer ≡ check_verdict tolerance d t
