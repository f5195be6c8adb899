-- The place of a block among the tests of a census: the number of the one test that it meets.
-- Assumes nothing.
use Rattle.std.specs.Prelude.{Bool, true, false, not, ◌&&◌, List, [], ◌∷◌, ℕ, zero, suc, ◌+◌}
use Rattle.rules.specs.declared.Kind.{Kind}
use Rattle.rules.specs.declared.Kind.TheVariants.{Individual, Differential, T, H, Planar}
use Rattle.rules.specs.Census.{Test, more, individual_block, differential_block, t_block, h_block, planar_block_lem, rgba1_tests}

-- which of some tests a block meets
abbrev pub met : List Test → List ℕ → List Bool
met [] d = []
met (test ∷ tests) d = test d ∷ met tests d

-- how many of some tests hold; what some counts make together
abbrev pub holding : List Bool → ℕ
holding [] = 0
holding (t ∷ ts) = more t (holding ts)

abbrev pub total : List ℕ → ℕ
total [] = 0
total (c ∷ cs) = c + total cs

-- none holds; number k holds, and no other
abbrev pub none : List Bool → Bool
none [] = true
none (t ∷ ts) = not t && none ts

abbrev pub only : List Bool → ℕ → Bool
only [] k = false
only (t ∷ ts) zero = t && none ts
only (t ∷ ts) (suc k) = not t && only ts k

-- the tests of a census, eight of them: where the opaque bit does not split the blocks there are five, and three that no
-- block meets
abbrev pub never : Test
never d = false

abbrev pub eight : Bool → List Test
eight true = rgba1_tests
eight false = individual_block ∷ differential_block ∷ t_block ∷ h_block ∷ planar_block_lem ∷ never ∷ never ∷ never ∷ []

-- the place of a kind among the four that RGBA1 has; none is individual
abbrev pub fourth : Kind → ℕ
fourth Individual = 0
fourth Differential = 0
fourth T = 1
fourth H = 2
fourth Planar = 3
