-- A picture by its rows of blocks: the bytes of each, the pixels of each, and all of them one after another.
-- Assumes nothing.
use Rattle.std.specs.Prelude.{cond, List, [], ◌∷◌, ◌++◌, ℕ, zero, suc, ◌+◌, ◌-◌, ◌*◌, min, ltb}
use Rattle.rules.specs.Notation.{build}
use Rattle.rules.specs.Pixel.{Shows}
use Rattle.rules.specs.Places.{sized, across, bytes_of, pixel_at}
use Rattle.rules.specs.Answers.{first_of, guarded}
use Rattle.rules.specs.Guards.{Guard}
use Rattle.rules.specs.declared.Picture.{Picture}

-- row j of blocks is so many pixels high: four, or what is left
abbrev pub high : ℕ → ℕ → ℕ
high h j = min 4 (h - j * 4)

-- row j of blocks, as a picture of its own
abbrev pub row_of : Picture → ℕ → Picture
row_of p j = sized p.width (high p.height j)

-- its bytes, where a block has s
abbrev pub row_bytes : ℕ → Picture → List ℕ → ℕ → List ℕ
row_bytes s p d j = bytes_of (across p.width * s) d j

-- the elements that it has in the whole picture
abbrev pub row_pixels : Shows → ℕ → Picture → List ℕ → ℕ → List ℕ
row_pixels shows s p d j = build (p.width * high p.height j) (λ k. pixel_at shows s p d (p.width * (j * 4) + k))

-- what g gives of 0 to n - 1, one after another
abbrev pub joined : (ℕ → List ℕ) → ℕ → List ℕ
joined g zero = []
joined g (suc n) = joined g n ++ g n

-- what a guard says of the first n blocks of some bytes
abbrev pub scanned : Guard → List ℕ → ℕ → List ℕ
scanned g d n = guarded g.number (λ i. g.bad (bytes_of 8 d i)) n

-- the first block of a row of n that it refuses, or n
abbrev pub first_in : Guard → ℕ → List ℕ → ℕ
first_in g n row = first_of (λ i. g.bad (bytes_of 8 row i)) n

-- what it says after row j of n blocks, from the bytes of that row, where it had nothing to say before: of all blocks so
-- far, the number of the first that it refuses
unfoldable pub scanned_row : Guard → ℕ → ℕ → List ℕ → List ℕ
scanned_row g n j row = cond (ltb (first_in g n row) n) (g.number ∷ (j * n + first_in g n row) ∷ []) (0 ∷ [])
