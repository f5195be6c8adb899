-- The rule of the table of products.
-- Assumes nothing.
use Rattle.std.specs.Prelude.{List, [], ℕ, ℤ, pos, ◌*ℤ◌, get_or}
use Rattle.rules.specs.Notation.{build}
use Rattle.rules.specs.Channels.{alpha_steps_lem}

-- "a table of 2,048 alpha steps (16 multipliers by 16 rows by 8 indices)": multiplier times step, for the eight steps of a row
abbrev pub products_of_lem : ℕ → ℕ → List ℤ
products_of_lem m row = build 8 (λ i. pos m *ℤ get_or (get_or alpha_steps_lem row []) i (pos 0))
