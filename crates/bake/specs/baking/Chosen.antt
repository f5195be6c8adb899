-- A search for the least that keeps the best so far: the form in which it is promised to the crates above, and proved.
-- Assumes nothing.
use Rattle.std.specs.Prelude.{◌≡◌, ℕ}
use Rattle.rules.specs.Counting.{least_of_lem}

-- where the best of the places 0 .. n - 1 is, and how much f is there
pub record Chosen (f : ℕ → ℕ) (n at value : ℕ) : Type 0 where
  pub place : at ≡ least_of_lem f n
  pub worth : value ≡ f at
