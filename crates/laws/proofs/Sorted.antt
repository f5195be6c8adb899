-- A block meets one test of its census alone, and its bit and the kind that its sums give it tell which.
-- Assumes nothing.
use mathlib.Core.Path.{◌≡◌, refl, sym}
use mathlib.Core.Bool.{Bool, true, false, cond, not, ◌&&◌}
use mathlib.Core.List.{List, [], ◌∷◌, ◌++◌}
use Prim.Native.Nat.{ℕ, ◌+◌}
use Rattle.rules.specs.Notation.{byte}
use Rattle.rules.specs.Colour.{differs, sum, beyond, by_beyond, kind_by_sums_lem}
use Rattle.rules.specs.declared.Kind.{Kind}
use Rattle.laws.specs.Sorted.{met, only, eight, fourth}

-- the four kinds, with a bit set, of sums that are out of range or not
four : Bool → Bool → Bool → Bool → List Bool
four o r g b = (o && (not r && (not g && not b))) ∷ (o && r) ∷ (o && (not r && g)) ∷ (o && (not r && (not g && b))) ∷ []

eight_by : Bool → Bool → Bool → Bool → Bool → List Bool
eight_by true o r g b = four o r g b ++ four (not o) r g b
eight_by false o r g b = not o ∷ (four o r g b ++ (false ∷ false ∷ false ∷ []))

-- the place, by the bit and the kind
abbrev pub place_by : Bool → Bool → Kind → ℕ
place_by split o k = cond o (cond split (fourth k) (fourth k + 1)) (cond split (fourth k + 4) 0)

sorted : (split o r g b : Bool) → only (eight_by split o r g b) (place_by split o (by_beyond r g b)) ≡ true
unfolding four eight_by
sorted true true true g b = refl
sorted true true false true b = refl
sorted true true false false true = refl
sorted true true false false false = refl
sorted true false true g b = refl
sorted true false false true b = refl
sorted true false false false true = refl
sorted true false false false false = refl
sorted false true true g b = refl
sorted false true false true b = refl
sorted false true false false true = refl
sorted false true false false false = refl
sorted false false r g b = refl

pub sorts : (split : Bool) (d : List ℕ) (o : Bool) (r : ℕ) → differs d ≡ o → r ≡ place_by split o (kind_by_sums_lem d) → only (met (eight split) d) r ≡ true
unfolding four eight_by kind_by_sums_lem
sorts true d o r e f = rw (f, sym e) (sorted true (differs d) (beyond (sum (byte d 0))) (beyond (sum (byte d 1))) (beyond (sum (byte d 2))))
sorts false d o r e f = rw (f, sym e) (sorted false (differs d) (beyond (sum (byte d 0))) (beyond (sum (byte d 1))) (beyond (sum (byte d 2))))
