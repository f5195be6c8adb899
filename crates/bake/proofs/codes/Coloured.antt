-- The colours of a code, and the search among them.
-- Assumes nothing.
use mathlib.Core.Path.{◌≡◌, refl}
use mathlib.Core.List.{List, [], ◌∷◌}
use Prim.Native.Nat.{ℕ}
use lib.IntN.{ℤ, pos}
use lib.ListN.{get_or}
use Rattle.rules.specs.Notation.{build}
use Rattle.rules.specs.Colour.{steps_of, shaded, half_colours}
use Rattle.rules.specs.Baking.{shown, index_for, cost_for}
use Rattle.tables.specs.consts.Tables.{four_steps}
use Rattle.bake.specs.nearest.Search.{nearest_of, cost_of}

-- one base colour, four times, with the steps of a code
pub coloured : (base : List ℕ) (steps : List ℕ) (four : List ℤ) → four ≡ four_steps steps
    → build 4 (λ k. shaded (get_or (base ∷ base ∷ base ∷ base ∷ []) k []) (get_or four k (pos 0))) ≡ half_colours base steps
coloured base steps four e = rw e

-- the search among the colours of a code is the search with that code
pub by_code : (base : List ℕ) (flip : ℕ) (t : List ℕ) (h c : ℕ) → cost_of (half_colours base (steps_of c)) flip t h ≡ cost_for base flip t h c
unfolding cost_of cost_for shown index_for nearest_of
by_code base flip t h c = refl
