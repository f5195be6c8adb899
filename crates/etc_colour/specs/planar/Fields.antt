-- The rules' fields of planar over the bytes that they stand in, which is how the leaves take them.
-- Assumes nothing.
use Rattle.std.specs.Prelude.{ℕ, zero, suc, List, [], ◌∷◌, slice_index_or}
use Rattle.rules.specs.Modes.{planar_bases_lem}

-- base colour 0 of planar stands in bytes 0 to 3, 1 in bytes 3 to 5, and 2 in bytes 5 to 7
abbrev pub planar_fields : ℕ → ℕ → ℕ → ℕ → ℕ → List ℕ
planar_fields zero a b c d = slice_index_or (planar_bases_lem (a ∷ b ∷ c ∷ d ∷ [])) 0 []
planar_fields (suc zero) d e f x = slice_index_or (planar_bases_lem (0 ∷ 0 ∷ 0 ∷ d ∷ e ∷ f ∷ [])) 1 []
planar_fields (suc (suc n)) f g h x = slice_index_or (planar_bases_lem (0 ∷ 0 ∷ 0 ∷ 0 ∷ 0 ∷ f ∷ g ∷ h ∷ [])) 2 []
