-- A list painted in part: the form in which runs of stores are promised to the crates above, and proved.
-- Assumes nothing.
use Rattle.std.specs.Prelude.{◌≡◌, List, ℕ, length, get_or}

-- new is old with v k at each k that is in P, where z stands for what a list has past its end. This is the form in which a run of
-- stores is proved; what the readers promise is the equation with `painted`, which `is_painted` makes of it.
pub record PaintedOver {A : Type 0} (z : A) (P : ℕ → Type 0) (v : ℕ → A) (old new : List A) : Type 0 where
  pub hit : (k : ℕ) → P k → get_or new k z ≡ v k
  pub miss : (k : ℕ) → (P k → ⊥) → get_or new k z ≡ get_or old k z
  pub same : length new ≡ length old

-- the same of numbers, which are 0 past the end
abbrev pub Painted : (ℕ → Type 0) → (ℕ → ℕ) → List ℕ → List ℕ → Type 0
Painted P v old new = PaintedOver 0 P v old new
