-- The bounds of the rows of the table of modes.
-- Assumes nothing.
use Rattle.std.specs.Prelude.{◌≡◌, ◌+◌, ◌≤◌}
use Rattle.rules.specs.declared.Mode.{Mode}

-- the bounds of a row
pub record Sane (k : Mode) : Type 0 where
  pub some : 1 ≤ k.subsets
  pub subsets : k.subsets ≤ 3
  pub partition : k.partition ≤ 6
  pub rotation : k.rotation ≤ 2
  pub selection : k.selection ≤ 1
  pub p : k.own + k.shared ≤ 1
  pub colour : k.colour + (k.own + k.shared) ≤ 8
  pub alpha : k.alpha + (k.own + k.shared) ≤ 8
  pub index : 2 ≤ k.index
  pub index_most : k.index ≤ 4
  pub second : k.second ≤ 4
  pub second_least : (k.second ≡ 0 → ⊥) → 2 ≤ k.second
