-- Where pixels and blocks stand, and what it is to paint some elements of an image and no others.
-- Assumes nothing.
use Rattle.std.specs.Prelude.{Bool, cond, ◌&&◌, ◌||◌, List, ◌≡◌, ℕ, ◌+◌, ◌-◌, ◌*◌, ◌/◌, ◌%◌, ◌<◌, ltb, eqb, length, get_or, take, drop}
use Rattle.rules.specs.Notation.{build}
use Rattle.rules.specs.Pixel.{Shows}
use Rattle.rules.specs.declared.Picture.{Picture}

-- "The picture's description, shared by all readers, gains a pitch" (M-104): how many elements a row takes
abbrev pub pitched : ℕ → ℕ → ℕ → Picture
pitched w h p = record { width = w; height = h; pitch = p }

-- and without a gap, "pitch equal to width"
abbrev pub sized : ℕ → ℕ → Picture
sized w h = pitched w h w

-- "The image is row by row", and M-104: "pixel (x, y) is element y * pitch + x."
abbrev pub element : Picture → ℕ → ℕ → ℕ
element p x y = y * p.pitch + x

-- so element k is in this column and this row
abbrev pub column : Picture → ℕ → ℕ
column p k = k % p.pitch

abbrev pub row : Picture → ℕ → ℕ
row p k = k / p.pitch

-- "The image then needs (height - 1) * pitch + width elements, or none where a side is 0." (M-104)
unfoldable pub needed : Picture → ℕ
needed p = cond (eqb p.width 0 || eqb p.height 0) 0 ((p.height - 1) * p.pitch + p.width)

-- "Elements in the gaps keep their value" (M-104), and so do those behind the last row: the others are the picture's own
abbrev pub inside : Picture → ℕ → Bool
inside p k = ltb (column p k) p.width && ltb (row p k) p.height

-- "There are ceil(width/4) * ceil(height/4) blocks."
abbrev pub across : ℕ → ℕ
across n = (n + 3) / 4

abbrev pub blocks : Picture → ℕ
blocks p = across p.width * across p.height

-- "Blocks are 4 by 4, left to right, then down": the block of pixel (x, y), and of element k
abbrev pub block_of : Picture → ℕ → ℕ → ℕ
block_of p x y = y / 4 * across p.width + x / 4

abbrev pub block_at : Picture → ℕ → ℕ
block_at p k = block_of p (column p k) (row p k)

-- the bytes of block n, where a block has s bytes
abbrev pub bytes_of : ℕ → List ℕ → ℕ → List ℕ
bytes_of s d n = take s (drop (n * s) d)

-- and where the list begins with block first
abbrev pub bytes_from : ℕ → ℕ → List ℕ → ℕ → List ℕ
bytes_from s first d n = bytes_of s d (n - first)

-- "Right and lower tiles are clipped": the tile of block n has those elements of the picture that lie in block n
abbrev pub in_tile : Picture → ℕ → ℕ → Bool
in_tile p n k = inside p k && eqb (block_at p k) n

-- "Data beyond the last block is not read": of inputs with blocks of s bytes, each block of the picture is the same in both
abbrev pub Alike : ℕ → Picture → List ℕ → List ℕ → Type 0
Alike s p d e = (m : ℕ) → m < blocks p → bytes_of s d m ≡ bytes_of s e m

-- "Two pictures of one size .. that differ in one block" (demand 2): each block but block n is the same in both
abbrev pub Beside : ℕ → Picture → ℕ → List ℕ → List ℕ → Type 0
Beside s p n d e = (m : ℕ) → m < blocks p → (m ≡ n → ⊥) → bytes_of s d m ≡ bytes_of s e m

-- the sixteen pixels of one block, row by row
abbrev pub tile : Shows → List ℕ → List ℕ
tile shows d = build 16 (λ k. shows d (k % 4) (k / 4))

-- the pixel at element k: what its own block shows at its own place, where g n are the bytes of block n
abbrev pub pixel_by : Shows → (ℕ → List ℕ) → Picture → ℕ → ℕ
pixel_by shows g p k = shows (g (block_at p k)) (column p k % 4) (row p k % 4)

-- and so for the blocks of s bytes of a list
abbrev pub pixel_at : Shows → ℕ → Picture → List ℕ → ℕ → ℕ
pixel_at shows s p d k = pixel_by shows (bytes_of s d) p k

-- the list old, with v k at each place k that P marks, and as it was at every other
unfoldable pub painted : (ℕ → Bool) → (ℕ → ℕ) → List ℕ → List ℕ
painted P v old = build (length old) (λ k. cond (P k) (v k) (get_or old k 0))

-- an image with a picture painted over it, where g n are the bytes of block n
abbrev pub picture_by : Shows → (ℕ → List ℕ) → Picture → List ℕ → List ℕ
picture_by shows g p image = painted (inside p) (pixel_by shows g p) image
