-- Worked examples of inputs that are alike, and of inputs that differ in one block: of a picture of two blocks, of two bytes each.
-- Assumes nothing.
use mathlib.Core.Path.{refl, ap}
use mathlib.Core.List.{List, [], ◌∷◌}
use Prim.Native.Nat.{ℕ, zero, suc}
use native.Mathlib.Omega.{arith}
use lib.ListN.{get_or}
use Rattle.rules.specs.Places.{sized, Alike, Beside}
use Rattle.rules.specs.declared.Picture.{Picture}

abbrev two : Picture
two = sized 5 4

-- a byte behind the last block does not count, and a byte of a block does
pub alike : Alike 2 two (1 ∷ 2 ∷ 3 ∷ 4 ∷ []) (1 ∷ 2 ∷ 3 ∷ 4 ∷ 9 ∷ [])
alike zero h = refl
alike (suc zero) h = refl
alike (suc (suc m)) h = absurd (omega arith)

pub not_alike : Alike 2 two (1 ∷ 2 ∷ 3 ∷ 4 ∷ []) (1 ∷ 2 ∷ 3 ∷ 9 ∷ []) → ⊥
not_alike p = omega (arith, ap (λ (l : List ℕ). get_or l 1 0) (p 1 (omega arith)))

-- the bytes of the one block do not count, and those of the other do
pub beside : Beside 2 two 0 (1 ∷ 2 ∷ 3 ∷ 4 ∷ []) (8 ∷ 9 ∷ 3 ∷ 4 ∷ 5 ∷ [])
beside zero h other = absurd (other refl)
beside (suc zero) h other = refl
beside (suc (suc m)) h other = absurd (omega arith)

pub not_beside : Beside 2 two 1 (1 ∷ 2 ∷ 3 ∷ 4 ∷ []) (8 ∷ 2 ∷ 3 ∷ 4 ∷ []) → ⊥
not_beside p = omega (arith, ap (λ (l : List ℕ). get_or l 0 0) (p 0 (omega arith) (λ e. omega arith)))
