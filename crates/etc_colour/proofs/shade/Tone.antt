-- The colour of an index is the rule's, or transparent.
-- Assumes nothing.
use Rattle.std.proofs.Common.{◌≡◌, ℕ, zero, suc, ◌<◌, Bool, true, false, T, eqb, List, get_or, ℤ, pos, ◌+ℤ◌, refl, subst, arith, eqb→eq}
use lib.Signed.{mag}
use Rattle.rules.specs.Notation.{clamp, minus}
use Rattle.laws.proofs.Every.{below}
use Rattle.etc_colour.specs.shade.Tone.{shaded_with, alphas_where_lem, toned, Steps}

-- a step of -512 leaves nothing of a byte
pub nothing : (n : ℕ) → n < 256 → clamp 255 (pos n +ℤ minus 512) ≡ 0
nothing n h = eqb→eq _ _ (below (λ k. eqb (clamp 255 (pos k +ℤ minus 512)) 0) 256 tt n h)

-- an alpha is a byte
pub small_alpha : (opaque : Bool) (k : ℕ) → get_or (alphas_where_lem opaque) k 0 < 256
small_alpha true zero = omega arith
small_alpha true (suc zero) = omega arith
small_alpha true (suc (suc zero)) = omega arith
small_alpha true (suc (suc (suc zero))) = omega arith
small_alpha true (suc (suc (suc (suc n)))) = omega arith
small_alpha false zero = omega arith
small_alpha false (suc zero) = omega arith
small_alpha false (suc (suc zero)) = omega arith
small_alpha false (suc (suc (suc zero))) = omega arith
small_alpha false (suc (suc (suc (suc n)))) = omega arith

-- what is made with the alpha of an index is its colour
pub tone : (opaque : Bool) (k r : ℕ) (c : List ℕ) (steps : List ℤ) → k < 4 → (opaque ≡ false → get_or steps 2 (pos 0) ≡ minus 512)
    → r ≡ shaded_with (get_or (alphas_where_lem opaque) k 0) c (get_or steps k (pos 0))
    → (get_or steps k (pos 0) ≡ minus 512 → get_or (alphas_where_lem opaque) k 0 ≡ 0 → r ≡ 0)
    → r ≡ toned opaque k c (get_or steps k (pos 0))
tone true zero r c steps h p e z = e
tone true (suc zero) r c steps h p e z = e
tone true (suc (suc zero)) r c steps h p e z = e
tone true (suc (suc (suc zero))) r c steps h p e z = e
tone true (suc (suc (suc (suc n)))) r c steps h p e z = absurd (omega arith)
tone false zero r c steps h p e z = e
tone false (suc zero) r c steps h p e z = e
tone false (suc (suc zero)) r c steps h p e z = z (p refl) refl
tone false (suc (suc (suc zero))) r c steps h p e z = e
tone false (suc (suc (suc (suc n)))) r c steps h p e z = absurd (omega arith)

-- small steps will do for an opaque block, and for another where the third leaves nothing
pub steps_opaque : (steps : List ℤ) → ((k : ℕ) → mag (get_or steps k (pos 0)) < 1024) → Steps true steps
steps_opaque steps h = (h, λ e. absurd (subst T e tt))

pub steps_clear : (steps : List ℤ) → ((k : ℕ) → mag (get_or steps k (pos 0)) < 1024) → get_or steps 2 (pos 0) ≡ minus 512 → Steps false steps
steps_clear steps h e = (h, λ z. e)
