-- A picture cut between rows of blocks into bands: of each the picture, the bytes and the part of the image that are its own.
-- Assumes nothing.
use Rattle.std.specs.Prelude.{Bool, cond, List, [], ◌∷◌, ◌++◌, ℕ, ◌+◌, ◌-◌, ◌*◌, min, ltb, take, drop}
use Rattle.rules.specs.Places.{pitched, across, blocks, bytes_of}
use Rattle.rules.specs.Answers.{first_of}
use Rattle.rules.specs.Formats.{size_of}
use Rattle.rules.specs.Readers.{ReadsPicture}
use Rattle.rules.specs.Answers.{Answer}
use Rattle.rules.specs.declared.Format.{Format}
use Rattle.rules.specs.declared.Picture.{Picture}

-- n rows of blocks take so many bytes, where a block has s, and so many elements of the image
abbrev pub bytes_in : ℕ → Picture → ℕ → ℕ
bytes_in s p n = n * across p.width * s

abbrev pub elements_in : Picture → ℕ → ℕ
elements_in p n = n * 4 * p.pitch

-- the first n rows of blocks, as a picture of their own
abbrev pub top : Picture → ℕ → Picture
top p n = pitched p.width (min (n * 4) p.height) p.pitch

-- and what is below them
abbrev pub below : Picture → ℕ → Picture
below p n = pitched p.width (p.height - n * 4) p.pitch

-- A picture read in bands. Each number of the list cuts off so many rows of blocks, which a picture reader reads as a picture of their
-- own, from their own bytes into their own part of the image; what the last cut leaves is a band too. The answers of the readers, and the
-- parts of the image put together again.
pub data InBands : Format → List ℕ → List ℕ → Picture → List ℕ → List Answer → List ℕ → Type 0 where
  uncut : {f : Format} {d : List ℕ} {p : Picture} {image new : List ℕ} {a : Answer} → ReadsPicture f d p image a new
      → InBands f [] d p image (a ∷ []) new
  cut : {f : Format} {n : ℕ} {cuts d : List ℕ} {p : Picture} {image new more : List ℕ} {a : Answer} {answers : List Answer}
      → ReadsPicture f (take (bytes_in (size_of f) p n) d) (top p n) (take (elements_in p n) image) a new
      → InBands f cuts (drop (bytes_in (size_of f) p n) d) (below p n) (drop (elements_in p n) image) answers more
      → InBands f (n ∷ cuts) d p image (a ∷ answers) (new ++ more)

-- the first block of a picture that meets a test, where a block has s bytes, or as many as it has blocks
abbrev pub first_bad : (List ℕ → Bool) → ℕ → Picture → List ℕ → ℕ
first_bad bad s p d = first_of (λ i. bad (bytes_of s d i)) (blocks p)

-- The same band by band: the first of the first band that has one, to which the blocks before that band are added.
abbrev pub first_in_bands : (List ℕ → Bool) → ℕ → List ℕ → Picture → List ℕ → ℕ
first_in_bands bad s [] p d = first_bad bad s p d
first_in_bands bad s (n ∷ cuts) p d =
    let own = first_bad bad s (top p n) (take (bytes_in s p n) d) in
    let before = blocks (top p n) in
    cond (ltb own before) own (before + first_in_bands bad s cuts (below p n) (drop (bytes_in s p n) d))
