-- Colours with an alpha, and the transparent one of a block that is not opaque.
-- Assumes nothing.
use Rattle.std.specs.Prelude.{◌≡◌, ℕ, ◌<◌, Bool, false, cond, List, [], ◌∷◌, ℤ, pos, ◌+ℤ◌, ◌==◌, slice_index, slice_index_or}
use Rattle.std.specs.Int.Signed.{mag}
use Rattle.rules.specs.Notation.{clamp, minus}
use Rattle.rules.specs.Pixel.{word}
use Rattle.rules.specs.Colour.{shaded}

-- a base colour with a step added to each channel, and an alpha: `shaded` of the rules is the one with alpha 255
abbrev pub shaded_with : ℕ → List ℕ → ℤ → ℕ
shaded_with alpha c s =
    word alpha (clamp 255 (pos (slice_index c 0) +ℤ s)) (clamp 255 (pos (slice_index c 1) +ℤ s)) (clamp 255 (pos (slice_index c 2) +ℤ s))

-- the alpha of each index
abbrev pub alphas_where_lem : Bool → List ℕ
alphas_where_lem opaque = 255 ∷ 255 ∷ cond opaque 255 0 ∷ 255 ∷ []

-- the colour at index k: "high bit 1 with low bit 0 is transparent", where a block is not opaque
abbrev pub toned : Bool → ℕ → List ℕ → ℤ → ℕ
toned opaque k c s = cond opaque (shaded c s) (cond (k == 2) 0 (shaded c s))

-- four steps that are small; where a block is not opaque, the one of index 2 leaves nothing
abbrev pub Steps : Bool → List ℤ → Type 0
Steps opaque steps = ((k : ℕ) → mag (slice_index_or steps k (pos 0)) < 1024) × (opaque ≡ false → slice_index_or steps 2 (pos 0) ≡ minus 512)

-- the step of index 2
abbrev pub third_where : Bool → ℤ → ℤ
third_where opaque step = cond opaque step (minus 512)

-- four colours, of which index 2 is transparent where the block is not opaque
abbrev pub punched : Bool → List ℕ → List ℕ
punched opaque c = cond opaque c (slice_index c 0 ∷ slice_index c 1 ∷ 0 ∷ slice_index c 3 ∷ [])
