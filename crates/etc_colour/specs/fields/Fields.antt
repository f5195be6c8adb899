-- The rules' fields of T and H over the bytes that they stand in, which is how the leaves take them.
-- Assumes nothing.
use Rattle.std.specs.Prelude.{ℕ, List, [], ◌∷◌, slice_index}
use Rattle.rules.specs.Modes.{t_bases, h_bases, distances}

abbrev pub t_fields_lem : ℕ → ℕ → ℕ → ℕ → List (List ℕ)
t_fields_lem a b c d = t_bases (a ∷ b ∷ c ∷ d ∷ [])

abbrev pub h_fields_lem : ℕ → ℕ → ℕ → ℕ → List (List ℕ)
h_fields_lem a b c d = h_bases (a ∷ b ∷ c ∷ d ∷ [])

abbrev pub distance_at : ℕ → ℕ
distance_at n = slice_index distances n
