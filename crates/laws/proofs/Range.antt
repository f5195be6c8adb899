-- Sums in range and out of it: an out-of-range sum is exactly a T, H or planar block, and a block whose sums are in range
-- reads the same under ETC1 and under ETC2 RGB.
-- Assumes nothing.
use mathlib.Core.Path.{◌≡◌, refl, subst}
use mathlib.Core.Bool.{Bool, true, false, cond, ◌&&◌, ◌||◌}
use mathlib.Core.List.{List}
use mathlib.Core.Logic.{◌⊎◌, inl, inr, ⊎_elim}
use Prim.Native.Nat.{ℕ, ◌+◌, ◌*◌, ◌/◌}
use native.Mathlib.Omega.{arith}
use lib.Dec.{T as So, eqb, eqb→eq}
use lib.IntN.{ℤ, pos, nat_abs, ◌+ℤ◌, ◌*ℤ◌}
use Rattle.rules.specs.Notation.{byte, bits, twos, modulo}
use Rattle.rules.specs.Colour.{base, sum, beyond, differential, wrapped, wrapping, by_beyond, kind_by_sums_lem, kind_of, out_of_range_lem, differs}
use Rattle.rules.specs.Modes.{etc1_pixel, rgb_pixel, indexed}
use Rattle.rules.specs.declared.Kind.{Kind}
use Rattle.rules.specs.declared.Kind.TheVariants.{Individual, Differential}
use Rattle.laws.specs.Kinds.{strange}
use Rattle.laws.proofs.Every.{every, below}

exact : (d r g b : Bool) → (d && (r || (g || b))) ≡ strange (cond d (by_beyond r g b) Individual)
exact false r g b = refl
exact true true g b = refl
exact true false true b = refl
exact true false false true = refl
exact true false false false = refl

-- an out-of-range sum is exactly a T, H or planar block
pub exactly : (d : List ℕ) → out_of_range_lem d ≡ strange (kind_of d)
unfolding out_of_range_lem kind_by_sums_lem
exactly d = exact (differs d) (beyond (sum (byte d 0))) (beyond (sum (byte d 1))) (beyond (sum (byte d 2)))

-- the wrapped sum of a five-bit base and a three-bit step is the sum, where that is in range: one computed test
sum_of : ℕ → ℕ → ℤ
sum_of q r = pos q +ℤ twos 3 r

wrapped_of : ℕ → ℕ → ℕ
wrapped_of q r = modulo (pos 8 *ℤ pos q +ℤ pos 8 *ℤ twos 3 r) 256 / 8

agrees : ℕ → ℕ → Bool
agrees q r = beyond (sum_of q r) || eqb (wrapped_of q r) (nat_abs (sum_of q r))

settled : (t u : Bool) → So (t || u) → t ≡ false → So u
settled true u s e = absurd (subst So e tt)
settled false u s e = s

pub in_range_lem : (b : ℕ) → beyond (sum b) ≡ false → wrapped b ≡ nat_abs (sum b)
unfolding wrapped sum_of wrapped_of agrees
in_range_lem b h =
    eqb→eq _ _
    (settled (beyond (sum b)) (eqb (wrapped b) (nat_abs (sum b)))
    (below (λ r. agrees (base b) r) 8 (below (λ q. every (λ r. agrees q r) 8) 32 tt (base b) (omega arith)) (bits 2 0 b) (omega arith))
    h)

-- so the bases are the same
bases : (d : List ℕ) → beyond (sum (byte d 0)) ≡ false → beyond (sum (byte d 1)) ≡ false → beyond (sum (byte d 2)) ≡ false → wrapping d ≡ differential d
unfolding differential
bases d r g b =
    let e = in_range_lem (byte d 0) r in
    let f = in_range_lem (byte d 1) g in
    let h = in_range_lem (byte d 2) b in
    rw (e, f, h)

-- what is known of the tests of a block in range
tests : (d r g b : Bool) → (d && (r || (g || b))) ≡ false → (d ≡ false) ⊎ ((d ≡ true) × (r ≡ false) × (g ≡ false) × (b ≡ false))
tests false r g b e = inl refl
tests true true g b e = inr (absurd (subst So e tt))
tests true false true b e = inr (absurd (subst So e tt))
tests true false false true e = inr (absurd (subst So e tt))
tests true false false false e = inr (refl, refl, refl, refl)

-- a block in range reads the same under ETC1 and under ETC2 RGB
plain : (d : List ℕ) (x y : ℕ) → differs d ≡ false → etc1_pixel d x y ≡ rgb_pixel d x y
unfolding etc1_pixel rgb_pixel indexed
plain d x y e = rw e

mixed : (d : List ℕ) (x y : ℕ) → differs d ≡ true → kind_by_sums_lem d ≡ Differential → wrapping d ≡ differential d → etc1_pixel d x y ≡ rgb_pixel d x y
unfolding etc1_pixel rgb_pixel indexed
mixed d x y e k w = rw (e, k, w)

kind : (d : List ℕ) → beyond (sum (byte d 0)) ≡ false → beyond (sum (byte d 1)) ≡ false → beyond (sum (byte d 2)) ≡ false → kind_by_sums_lem d ≡ Differential
unfolding kind_by_sums_lem
kind d r g b = rw (r, g, b)

pub agree : (d : List ℕ) (x y : ℕ) → out_of_range_lem d ≡ false → etc1_pixel d x y ≡ rgb_pixel d x y
unfolding out_of_range_lem
agree d x y h =
    ⊎_elim (λ e. plain d x y e)
    (λ e. mixed d x y e.0 (kind d e.1 e.2 e.3) (bases d e.1 e.2 e.3))
    (tests (differs d) (beyond (sum (byte d 0))) (beyond (sum (byte d 1))) (beyond (sum (byte d 2))) h)

-- a block whose kind is differential has its sums in range, and so the bases that wrap are the bases
settle : (r g b : Bool) → by_beyond r g b ≡ Differential → (r ≡ false) × (g ≡ false) × (b ≡ false)
settle true g b e = let z : ◌≡◌ {A = ℕ} 0 1 = cc in absurd (omega arith)
settle false true b e = let z : ◌≡◌ {A = ℕ} 0 1 = cc in absurd (omega arith)
settle false false true e = let z : ◌≡◌ {A = ℕ} 0 1 = cc in absurd (omega arith)
settle false false false e = (refl, refl, refl)

pub fair_by_sums : (d : List ℕ) → kind_by_sums_lem d ≡ Differential → wrapping d ≡ differential d
unfolding kind_by_sums_lem
fair_by_sums d e =
    let s = settle (beyond (sum (byte d 0))) (beyond (sum (byte d 1))) (beyond (sum (byte d 2))) e in
    bases d s.0 s.1 s.2

differs_then : (t : Bool) (k : Kind) → cond t k Individual ≡ Differential → k ≡ Differential
differs_then true k e = e
differs_then false k e = let z : ◌≡◌ {A = ℕ} 0 1 = cc in absurd (omega arith)

pub fair : (d : List ℕ) → kind_of d ≡ Differential → wrapping d ≡ differential d
fair d e = fair_by_sums d (differs_then (differs d) (kind_by_sums_lem d) e)
