-- The index of each pixel of a tile, by the four colours of either half.
-- Assumes nothing.
use Rattle.std.specs.Prelude.{List, ℕ, get_or}
use Rattle.rules.specs.Baking.{of_half_lem, half_of}
use Rattle.bake.specs.nearest.Search.{nearest_of}

abbrev pub index_by : List ℕ → List ℕ → ℕ → List ℕ → ℕ → ℕ
index_by first second flip t k = nearest_of (of_half_lem first second (half_of flip k)) (get_or t k 0)
