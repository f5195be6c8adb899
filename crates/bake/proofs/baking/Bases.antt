-- The check of a base, spelled out.
-- Assumes nothing.
use mathlib.Core.Path.{◌≡◌, refl}
use mathlib.Core.Bool.{Bool, true, false, ◌||◌, true≢false}
use mathlib.Core.List.{List}
use Prim.Native.Nat.{ℕ}
use native.Mathlib.Omega.{arith}
use borrow.Author.Tests.{ltb-false}
use lib.Dec.{ltb}
use lib.ListN.{get_or}
use Rattle.rules.specs.Baking.{above}
use Rattle.bake.specs.baking.Four.{Four}

pub none : (a b c : Bool) → (a || (b || c)) ≡ false → (a ≡ false) × (b ≡ false) × (c ≡ false)
none true b c e = absurd (true≢false e)
none false true c e = absurd (true≢false e)
none false false c e = (refl, refl, e)

pub four : (c : List ℕ) → above c ≡ false → Four c
four c e =
    let n = none (ltb 15 (get_or c 0 0)) (ltb 15 (get_or c 1 0)) (ltb 15 (get_or c 2 0)) e in
    record {
      red = omega (arith, ltb-false 15 (get_or c 0 0) n.0);
      green = omega (arith, ltb-false 15 (get_or c 1 0) n.1);
      blue = omega (arith, ltb-false 15 (get_or c 2 0) n.2);
    }
