-- The numbers of a pixel, and the blocks of a picture that has n numbers to a pixel.
-- Assumes nothing.
use Rattle.std.specs.Prelude.{◌≡◌, Bool, true, false, List, [], ◌∷◌, ℕ, ◌+◌, ◌*◌, ◌/◌, ◌%◌, ◌≤◌, get_or}
use Rattle.rules.specs.Places.{column, row, needed, pitched}
use Rattle.rules.specs.Answers.{limit}
use Rattle.rules.specs.declared.Picture.{Picture}
use Rattle.rules.specs.Whole.{whole_pixel, whole_at}
use Rattle.laws.specs.Painted.{Painted}
use Rattle.pixel.specs.place.Tile.{InTile}
use Rattle.blocks.specs.Run.{InRun}

-- red, or red and green
abbrev pub lanes : Bool → ℕ
lanes false = 1
lanes true = 2

-- two numbers to a pixel are a picture of numbers, with twice as many columns
abbrev pub twice : Picture → Picture
twice p = pitched (2 * p.width) p.height (2 * p.pitch)

-- in which a block has two tiles side by side: what each holds, of the sixteen reds and greens
unfoldable pub paired : List ℕ → List ℕ → ℕ → ℕ → ℕ
paired red green side k = get_or (get_or (red ∷ green ∷ []) (k % 2) []) (k / 4 * 4 + side * 2 + k % 4 / 2) 0

-- a picture that is not too large, and an image of so many elements that has n for each of its pixels
pub record Ready (n : ℕ) (pic : Picture) (elements : ℕ) : Type 0 where
  pub narrow : pic.width ≤ limit
  pub close : pic.pitch ≤ limit
  pub fits : pic.width ≤ pic.pitch
  pub roomy : n * needed pic ≤ elements

-- the picture has the tile in column bx and row by whole, where that is said of it
abbrev pub HasWhole : Bool → Picture → ℕ → ℕ → Type 0
HasWhole whole pic bx by = whole ≡ true → (bx * 4 + 4 ≤ pic.width) × (by * 4 + 4 ≤ pic.height)

-- one block painted, of its bytes d
abbrev pub PaintsBlock : ℕ → Bool → List ℕ → Picture → ℕ → ℕ → List ℕ → List ℕ → Type 0
PaintsBlock n signed d pic bx by old new =
    Painted (λ k. InTile pic bx by (k / n)) (λ k. whole_pixel signed (k % n) d (column pic (k / n) % 4) (row pic (k / n) % 4)) old new

-- and the blocks from number first to last - 1, of all bytes
abbrev pub PaintsBlocks : ℕ → Bool → List ℕ → Picture → ℕ → ℕ → List ℕ → List ℕ → Type 0
PaintsBlocks n signed d pic first last old new = Painted (λ k. InRun pic first last (k / n)) (whole_at signed n pic d) old new
