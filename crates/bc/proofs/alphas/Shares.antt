-- Sevenths and fifths by a product and a shift, the first two bytes of a word, the eight alphas of both orders, and the word of a known channel.
-- Assumes nothing.
use mathlib.Core.Path.{◌≡◌, ◌∙◌, sym, ap}
use mathlib.Core.Bool.{Bool, true, false, cond}
use mathlib.Core.List.{List, [], ◌∷◌}
use Prim.Native.Nat.{ℕ, ◌+◌, ◌*◌, ◌/◌, ◌<◌, ◌≤◌}
use native.Mathlib.Omega.{arith}
use lib.ListN.{get_or}
use Rattle.std.specs.Int.{w64, to_le_bytes}
use Rattle.rules.specs.Notation.{bits}
use Rattle.rules.specs.Desktop.{alphas, replaced}

-- the first two bytes of a word
pub ends : (w : ℕ) (l : List ℕ) → l ≡ to_le_bytes w64 w → (get_or l 0 0 ≡ bits 7 0 w) × (get_or l 1 0 ≡ bits 15 8 w)
ends w l e = (ap (λ (b : List ℕ). get_or b 0 0) e ∙ omega arith, ap (λ (b : List ℕ). get_or b 1 0) e ∙ omega arith)

pub eight : {a b c d e f g h a' b' c' d' e' f' g' h' : ℕ} → a ≡ a' → b ≡ b' → c ≡ c' → d ≡ d' → e ≡ e' → f ≡ f' → g ≡ g' → h ≡ h'
    → a ∷ b ∷ c ∷ d ∷ e ∷ f ∷ g ∷ h ∷ [] ≡ a' ∷ b' ∷ c' ∷ d' ∷ e' ∷ f' ∷ g' ∷ h' ∷ []
eight p q r s t u v w = rw (p, q, r, s, t, u, v, w)

-- the word of a known channel
pub known : {r n : ℕ} (k p b : ℕ) → n ≡ k → r ≡ replaced k p b → r ≡ replaced n p b
known k p b e f = f ∙ ap (λ (m : ℕ). replaced m p b) (sym e)

pub shared : (s : Bool) (n : ℕ) → n ≤ 1785 → (n * cond s 9363 13108 ≤ 0x2000000) × (n * cond s 9363 13108 / 0x10000 ≡ cond s (n / 7) (n / 5))
shared true n h = (omega arith, omega arith)
shared false n h = (omega arith, omega arith)

-- two parts more, or none
pub few : (s : Bool) (p : ℕ) → p < 256 → cond s (2 * p) 0 ≤ 510
few true p h = omega arith
few false p h = omega arith

-- the eight alphas of both orders
pub listed : (s : Bool) (p q : ℕ)
    → p ∷ q
    ∷ cond s ((4 * p + q + cond s (2 * p) 0) / 7) ((4 * p + q + cond s (2 * p) 0) / 5)
    ∷ cond s ((3 * p + 2 * q + cond s (2 * p) 0) / 7) ((3 * p + 2 * q + cond s (2 * p) 0) / 5)
    ∷ cond s ((2 * p + 3 * q + cond s (2 * p) 0) / 7) ((2 * p + 3 * q + cond s (2 * p) 0) / 5)
    ∷ cond s ((p + 4 * q + cond s (2 * p) 0) / 7) ((p + 4 * q + cond s (2 * p) 0) / 5)
    ∷ cond s ((2 * p + 5 * q) / 7) 0
    ∷ cond s ((p + 6 * q) / 7) 255
    ∷ []
    ≡ alphas s p q
listed true p q = eight (omega arith) (omega arith) (omega arith) (omega arith) (omega arith) (omega arith) (omega arith) (omega arith)
listed false p q = eight (omega arith) (omega arith) (omega arith) (omega arith) (omega arith) (omega arith) (omega arith) (omega arith)
