-- Short lists, entry by entry.
-- Assumes nothing.
use mathlib.Core.Path.{◌≡◌}
use mathlib.Core.List.{List, [], ◌∷◌}
use Prim.Native.Nat.{ℕ}
use Rattle.rules.specs.Colour.{unused}

pub three : {A : Type 0} {a b c a' b' c' : A} → a ≡ a' → b ≡ b' → c ≡ c' → ◌≡◌ {A = List A} (a ∷ b ∷ c ∷ []) (a' ∷ b' ∷ c' ∷ [])
three p q r = cc

pub four : {A : Type 0} {a b c d a' b' c' d' : A} → a ≡ a' → b ≡ b' → c ≡ c' → d ≡ d' → ◌≡◌ {A = List A} (a ∷ b ∷ c ∷ d ∷ []) (a' ∷ b' ∷ c' ∷ d' ∷ [])
four p q r s = cc

-- two base colours and one that is not used, channel by channel
pub rows : {a b c e f g a' b' c' e' f' g' : ℕ} → a ≡ a' → b ≡ b' → c ≡ c' → e ≡ e' → f ≡ f' → g ≡ g'
    → ◌≡◌ {A = List (List ℕ)} ((a ∷ b ∷ c ∷ []) ∷ (e ∷ f ∷ g ∷ []) ∷ unused ∷ []) ((a' ∷ b' ∷ c' ∷ []) ∷ (e' ∷ f' ∷ g' ∷ []) ∷ unused ∷ [])
rows p q r s t u = cc
