-- Counts in the room lent for them, where they fit.
-- Assumes nothing.
use Rattle.std.specs.Prelude.{◌≡◌, cond, List, ◌++◌, ℕ, ltb, length, drop}

-- the counts come first in the room, and what lies behind them keeps its value
abbrev pub laid : List ℕ → List ℕ → List ℕ
laid counts room = counts ++ drop (length counts) room

-- what lies in the room, and the number, where counts are laid into it if they fit
pub record Lays (counts room : List ℕ) (number : ℕ) (new : List ℕ) : Type 0 where
  pub says : number ≡ cond (ltb (length room) (length counts)) 3 0
  pub leaves : new ≡ cond (ltb (length room) (length counts)) room (laid counts room)
