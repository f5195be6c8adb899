-- What a census says where a check fails, and where both pass.
-- Assumes nothing.
use mathlib.Core.Path.{◌≡◌}
use mathlib.Core.Bool.{true, false}
use mathlib.Core.List.{List, [], ◌∷◌}
use Prim.Native.Nat.{ℕ, ◌*◌}
use lib.Dec.{ltb}
use lib.ListN.{length, get_or}
use Rattle.rules.specs.Notation.{build}
use Rattle.rules.specs.Places.{blocks, bytes_of}
use Rattle.rules.specs.Answers.{limit, too_large_lem}
use Rattle.rules.specs.declared.Picture.{Picture}
use Rattle.rules.specs.Census.{Test, counts, census, rgb_tests, rgba1_tests}
use Rattle.laws.specs.Sorted.{eight}

module _ (tests : List Test) (d : List ℕ) (p : Picture) where
  pub too_large : too_large_lem limit p ≡ true → 1 ∷ [] ≡ census tests d p
  too_large e = rw e

  module _ (small : too_large_lem limit p ≡ false) where
    pub too_short : ltb (length d) (blocks p * 8) ≡ true → 2 ∷ [] ≡ census tests d p
    too_short e = rw (small, e)

    pub passes : ltb (length d) (blocks p * 8) ≡ false → 0 ∷ counts (bytes_of 8 d) (blocks p) tests ≡ census tests d p
    passes e = rw (small, e)

-- the five cells of a tally, and the eight, are the counts
pub five : (block : ℕ → List ℕ) (n : ℕ) (l : List ℕ) → l ≡ counts block n (eight false) → build 5 (λ k. get_or l k 0) ≡ counts block n rgb_tests
five block n l e = rw e

pub all_eight : (block : ℕ → List ℕ) (n : ℕ) (l : List ℕ) → l ≡ counts block n (eight true) → build 8 (λ k. get_or l k 0) ≡ counts block n rgba1_tests
all_eight block n l e = rw e
