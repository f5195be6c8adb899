-- The colours of two halves, each from a base colour and four steps.
-- Assumes nothing.
use Rattle.std.specs.Prelude.{ℕ, zero, suc, Bool, List, ℤ, pos, slice_index_or}
use Rattle.rules.specs.Notation.{build}
use Rattle.etc_colour.specs.shade.Tone.{toned}

-- a base colour with each of four steps, of a block that is opaque or not
abbrev pub shades : Bool → List ℕ → List ℤ → List ℕ
shades opaque c steps = build 4 (λ k. toned opaque k c (slice_index_or steps k (pos 0)))

-- what half h has, of the two halves
abbrev pub of_half_lem : List ℤ → List ℤ → ℕ → List ℤ
of_half_lem first second zero = first
of_half_lem first second (suc h) = second
