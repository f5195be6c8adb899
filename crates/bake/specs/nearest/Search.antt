-- The baker's choices in terms of the four colours that a half has with some code.
-- Assumes nothing.
use Rattle.std.specs.Prelude.{List, ℕ, get_or}
use Rattle.rules.specs.Counting.{least_of_lem, sum_of}
use Rattle.rules.specs.Checking.{differ}
use Rattle.rules.specs.Baking.{own}

-- how far colour i is from a pixel v, and the first that is least far
abbrev pub away : List ℕ → ℕ → ℕ → ℕ
away colours v i = differ (get_or colours i 0) v

unfoldable pub nearest_of : List ℕ → ℕ → ℕ
nearest_of colours v = least_of_lem (away colours v) 4

-- the least difference of pixel j of half h with these colours, and the sum of them
abbrev pub part_of : List ℕ → ℕ → List ℕ → ℕ → ℕ → ℕ
part_of colours flip t h j = away colours (get_or t (own flip h j) 0) (nearest_of colours (get_or t (own flip h j) 0))

unfoldable pub cost_of : List ℕ → ℕ → List ℕ → ℕ → ℕ
cost_of colours flip t h = sum_of (part_of colours flip t h) 8
