-- What a pixel's index picks of eight numbers, whatever they are.
-- Assumes nothing.
use Rattle.std.specs.Prelude.{List, ℕ, ◌+◌, ◌*◌, ◌/◌, ◌%◌, ℤ, pos, get_or}
use Rattle.rules.specs.Channels.{alpha_index}

-- the one of the pixel at place k, row by row
unfoldable pub pick_at : List ℕ → List ℤ → ℕ → ℤ
pick_at d eight k = get_or eight (alpha_index d (4 * (k % 4) + k / 4)) (pos 0)
