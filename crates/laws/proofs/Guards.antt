-- Guards: what a refusal and an acceptance say of the blocks, over the number and the test; and what a guard owes, which is shown of
-- each.
-- Assumes nothing.
use mathlib.Core.Path.{◌≡◌, ◌∙◌, refl, sym, ap}
use mathlib.Core.Bool.{Bool, true, false, not, true≢false}
use mathlib.Core.List.{List, [], ◌∷◌}
use Prim.Native.Nat.{ℕ, ◌<◌, ◌≤◌}
use native.Mathlib.Omega.{arith}
use native.Mathlib.Decide.{dec_lt}
use borrow.Author.Tests.{lt-ltb, le-ltb, ne_eqb}
use lib.Dec.{lit<}
use lib.ListN.{get_or}
use Rattle.rules.specs.Answers.{accepts, first_of, guarded}
use Rattle.rules.specs.Colour.{differs}
use Rattle.rules.specs.Modes.{rgb_pixel, rgba1_pixel}
use Rattle.rules.specs.Formats.{size_of, shows_of}
use Rattle.rules.specs.Guards.{Guard, in_range, not_opaque, opaque_only}
use Rattle.laws.proofs.First.{first}
use Rattle.laws.proofs.Range as range

module _ (number : ℕ) (test : ℕ → Bool) (n : ℕ) where
  -- a block is found, or none is
  pub finds : first_of test n < n → guarded number test n ≡ number ∷ first_of test n ∷ []
  finds h = rw (lt-ltb (first_of test n) n h)

  pub finds_none : n ≤ first_of test n → guarded number test n ≡ 0 ∷ []
  finds_none h = rw (le-ltb (first_of test n) n h)

  -- and back, since a refusal's number is not 0
  module _ (is_refusal : 0 < number) where
    clash : (l : List ℕ) → accepts (number ∷ l) ≡ true → ⊥
    clash l e = true≢false (sym e ∙ ne_eqb number 0 (λ z. omega (arith, z)))

    pub accepted : accepts (guarded number test n) ≡ true → n ≤ first_of test n
    accepted e =
        elim (dec_lt (first_of test n) n) [
          | yes h ↦ absurd (clash (first_of test n ∷ []) (sym (ap accepts (finds h)) ∙ e))
          | no h ↦ omega (arith, h)
        ]

    pub none_bad : guarded number test n ≡ 0 ∷ [] → (k : ℕ) → k < n → test k ≡ false
    none_bad e k h = (first test n).none k (omega (arith, accepted (ap accepts e)))

    pub named : (i : ℕ) → guarded number test n ≡ number ∷ i ∷ [] → (i ≡ first_of test n) × (i < n)
    named i e =
        elim (dec_lt (first_of test n) n) [
          | yes h ↦
              let z : first_of test n ≡ i = ap (λ (l : List ℕ). get_or l 1 0) (sym (finds h) ∙ e) in
              (sym z, omega arith)
          | no h ↦ absurd (clash (i ∷ []) (ap accepts (sym e ∙ finds_none (omega (arith, h)))))
        ]

-- What a guard owes: it refuses, its own rule reads blocks of the size of the rule that is shown, and the two agree on every block
-- that it lets pass.
pub record Sound (g : Guard) : Type 0 where
  pub is_refusal : 0 < g.number
  pub one_size : size_of g.own ≡ size_of g.shown
  pub agree : (d : List ℕ) (x y : ℕ) → g.bad d ≡ false → shows_of g.own d x y ≡ shows_of g.shown d x y

-- strict ETC1: a block in range reads the same under ETC1 and under ETC2 RGB
pub strict_sound : Sound in_range
unfolding size_of shows_of
strict_sound = record { is_refusal = lit< tt; one_size = refl; agree = range.agree }

-- the opaque-only viewer: a block with its opaque bit set reads the same under ETC2 RGB and under RGBA1
set : (t : Bool) → not t ≡ false → t ≡ true
set true e = refl
set false e = absurd (true≢false e)

opaque_agree : (d : List ℕ) (x y : ℕ) → not_opaque d ≡ false → rgb_pixel d x y ≡ rgba1_pixel d x y
unfolding rgb_pixel rgba1_pixel
opaque_agree d x y e = rw (set (differs d) e)

pub opaque_sound : Sound opaque_only
unfolding size_of shows_of
opaque_sound = record { is_refusal = lit< tt; one_size = refl; agree = opaque_agree }
