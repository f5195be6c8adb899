-- The eight alphas of a block.
-- Assumes nothing.
use Rattle.std.specs.Prelude.{List, ℕ, ℤ, pos, ◌+ℤ◌, get_or}
use Rattle.rules.specs.Notation.{bits, build, clamp}
use Rattle.tables.specs.products.Products.{products_of_lem}

-- the base moved by each product of the row, clamped to a byte
abbrev pub eight_alphas_lem : ℕ → ℕ → List ℤ
eight_alphas_lem base b = build 8 (λ j. pos (clamp 255 (pos base +ℤ get_or (products_of_lem (bits 7 4 b) (bits 3 0 b)) j (pos 0))))
