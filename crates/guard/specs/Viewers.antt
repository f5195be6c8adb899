-- The guard of each older viewer, and what a guard says of some blocks of a picture.
-- Assumes nothing.
use Rattle.std.specs.Prelude.{cond, List, [], ◌∷◌, ℕ, ◌+◌, ltb}
use Rattle.rules.specs.Places.{bytes_of}
use Rattle.rules.specs.Answers.{first_of}
use Rattle.rules.specs.Guards.{Guard, in_range, opaque_only}
use Rattle.guard.specs.declared.Viewer.{Viewer}
use Rattle.guard.specs.declared.Viewer.TheVariants.{Etc1, Opaque}

abbrev pub guard_of : Viewer → Guard
guard_of Etc1 = in_range
guard_of Opaque = opaque_only

-- the first of n blocks that a guard refuses, or n
abbrev pub first_in : Guard → ℕ → List ℕ → ℕ
first_in g n d = first_of (λ i. g.bad (bytes_of 8 d i)) n

-- what it says of them, where the first of them has the number from
abbrev pub scanned_from : Guard → ℕ → ℕ → List ℕ → List ℕ
scanned_from g from n d = cond (ltb (first_in g n d) n) (g.number ∷ (from + first_in g n d) ∷ []) (0 ∷ [])
