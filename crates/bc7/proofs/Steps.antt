-- A list that is built says something of each element; and equal channels make equal pixels.
-- Assumes nothing.
use mathlib.Core.Path.{◌≡◌, ◌∙◌, sym, ap, subst}
use Prim.Native.Nat.{ℕ, ◌<◌, ◌≤◌}
use native.Mathlib.Decide.{dec_lt}
use native.Mathlib.Omega.{arith}
use lib.ListN.{get_or, get_or-eq_default}
use Rattle.rules.specs.Notation.{build}
use Rattle.rules.specs.Bc7.{rotated}
use Rattle.laws.proofs.Filled.{length_build, get_or_build}

-- what holds of each f k and of 0 holds at each place of the list
pub each : (P : ℕ → Type 0) (f : ℕ → ℕ) (n : ℕ) → ((k : ℕ) → k < n → P (f k)) → P 0 → (k : ℕ) → P (get_or (build n f) k 0)
each P f n h z k =
    elim (dec_lt k n) [
      | yes l ↦ subst P (sym (get_or_build f 0 n k l)) (h k l)
      | no l ↦ subst P (sym (get_or-eq_default (build n f) 0 (subst (λ (m : ℕ). m ≤ k) (sym (length_build f 0 n)) (omega (arith, l))))) z
    ]

pub same_rotated : (t : ℕ) {a a' r r' g g' b b' : ℕ} → a ≡ a' → r ≡ r' → g ≡ g' → b ≡ b' → rotated t a r g b ≡ rotated t a' r' g' b'
same_rotated t {a} {a'} {r} {r'} {g} {g'} {b} {b'} p q s u =
    ap (λ (x : ℕ). rotated t x r g b) p ∙ ap (λ (x : ℕ). rotated t a' x g b) q ∙ ap (λ (x : ℕ). rotated t a' r' x b) s ∙ ap (λ (x : ℕ). rotated t a' r' g' x) u
