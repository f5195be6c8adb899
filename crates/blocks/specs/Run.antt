-- A run of a picture's blocks, where a block stands, and blocks beside each other.
-- Assumes nothing.
use Rattle.std.specs.Prelude.{◌≡◌, List, ℕ, ◌+◌, ◌*◌, ◌≤◌, ◌<◌, T}
use Rattle.rules.specs.Pixel.{Shows}
use Rattle.rules.specs.Places.{inside, across, block_at, bytes_from, pixel_by}
use Rattle.rules.specs.Formats.{size_of, shows_of}
use Rattle.rules.specs.declared.Format.{Format}
use Rattle.rules.specs.declared.Picture.{Picture}
use Rattle.laws.specs.Painted.{Painted}
use Rattle.pixel.specs.place.Tile.{Room}

-- element k is a pixel of one of the blocks from number first to last - 1
pub record InRun (pic : Picture) (first last k : ℕ) : Type 0 where
  pub within : T (inside pic k)
  pub from : first ≤ block_at pic k
  pub to : block_at pic k < last

-- block b, in rows of n, stands in column bx and row by
pub record Stands (n b bx by : ℕ) : Type 0 where
  pub short : bx < n
  pub counted : by * n + bx ≡ b

-- the blocks from number first to last - 1 painted over an image, from data that begins with the first: every pixel of them, and no
-- other element
abbrev pub PaintsRun : Format → List ℕ → Picture → ℕ → ℕ → List ℕ → List ℕ → Type 0
PaintsRun f d pic first last old new =
    Painted (InRun pic first last) (pixel_by (shows_of f) (bytes_from (size_of f) first d) pic) old new

-- the number of the block in column bx and row by of blocks
abbrev pub numbered : Picture → ℕ → ℕ → ℕ
numbered pic bx by = by * across pic.width + bx

-- n blocks beside each other, from column bx on in row by, are whole in the picture, and an image of m elements has every pixel of it
pub record Whole (pic : Picture) (bx by n m : ℕ) : Type 0 where
  pub narrow : (bx + n) * 4 ≤ pic.width
  pub low : by * 4 + 4 ≤ pic.height
  pub room : Room pic m

-- these blocks painted over an image, from data that begins with the first of them; s bytes of a block show what `shows` says
abbrev pub PaintsRow : Shows → ℕ → List ℕ → Picture → ℕ → ℕ → ℕ → List ℕ → List ℕ → Type 0
PaintsRow shows s d pic bx by n old new =
    Painted (InRun pic (numbered pic bx by) (numbered pic bx by + n)) (pixel_by shows (bytes_from s (numbered pic bx by) d) pic) old new
