-- One row piece of a picture, and one tile: what placement promises to the crates above.
-- Assumes nothing.
use Rattle.std.specs.Prelude.{◌≡◌, List, ℕ, ◌+◌, ◌-◌, ◌*◌, ◌/◌, ◌%◌, ◌<◌, ◌≤◌, min, T, get_or}
use Rattle.rules.specs.Places.{column, row, inside}
use Rattle.rules.specs.declared.Picture.{Picture}
use Rattle.laws.specs.Painted.{PaintedOver}

-- element k is a pixel of row y, in the column bx of tiles: these are the row piece
pub record InPiece (pic : Picture) (bx y k : ℕ) : Type 0 where
  pub within : T (inside pic k)
  pub across : column pic k / 4 ≡ bx
  pub down : row pic k ≡ y

-- element k is a pixel of the tile in column bx and row by of tiles
pub record InTile (pic : Picture) (bx by k : ℕ) : Type 0 where
  pub within : T (inside pic k)
  pub across : column pic k / 4 ≡ bx
  pub down : row pic k / 4 ≡ by

-- the number of element k in its own tile, row by row
abbrev pub number_in : Picture → ℕ → ℕ
number_in pic k = row pic k % 4 * 4 + column pic k % 4

-- and what row i of a tile holds for it, where z stands for what a tile has past its end
abbrev pub in_row : {A : Type 0} → A → Picture → List A → ℕ → ℕ → A
in_row z pic tile i k = get_or tile (i * 4 + column pic k % 4) z

-- a tile painted over an image: every element of it that the picture has, and no other
abbrev pub PaintsTile : {A : Type 0} → List A → Picture → ℕ → ℕ → List A → List A → Type 0
PaintsTile tile pic bx by old new = (z : _) → PaintedOver z (InTile pic bx by) (λ k. get_or tile (number_in pic k) z) old new

-- how many of the four columns (or rows) of tile b a picture has that is so wide (or high)
abbrev pub shown : ℕ → ℕ → ℕ
shown side b = min 4 (side - b * 4)

-- a row fits into the pitch, and an image of n elements has every element of the picture
pub record Room (pic : Picture) (n : ℕ) : Type 0 where
  pub fits : pic.width ≤ pic.pitch
  pub reach : (k : ℕ) → T (inside pic k) → k < n
