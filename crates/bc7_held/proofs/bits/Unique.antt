-- No second answer and no second place satisfy the promise of a read.
-- Assumes nothing.
use mathlib.Core.Path.{◌≡◌, ◌∙◌, refl, sym, ap}
use mathlib.Core.List.{List}
use Prim.Native.Nat.{ℕ}
use native.Mathlib.Omega.{arith}
use lib.ListN.{get_or}
use Rattle.rules.specs.Bits.{bits_said}
use Rattle.std.specs.Prelude.{Option, Some, None}
use Rattle.bc7_held.specs.declared.bits.BitReader.{BitReader}
use Rattle.bc7_held.specs.bits.Held.{ReadsBits}

-- what is said tells the answer
pub said_tells : (a b : Option ℕ) → bits_said a ≡ bits_said b → a ≡ b
said_tells (Some v) (Some w) e = ap Some (ap (λ (l : List ℕ). get_or l 1 0) e)
said_tells (Some v) None e = absurd (let h : 0 ≡ 2 = ap (λ (l : List ℕ). get_or l 0 0) e in omega (arith, h))
said_tells None (Some w) e = absurd (let h : 2 ≡ 0 = ap (λ (l : List ℕ). get_or l 0 0) e in omega (arith, h))
said_tells None None e = refl

pub read_determined : (r : BitReader) (n : ℕ) (a b : Option ℕ) (p q : BitReader) → ReadsBits r n a p → ReadsBits r n b q → (a ≡ b) × (p ≡ q)
read_determined r n a b p q g h = (said_tells a b (g.0 ∙ sym h.0), g.1 ∙ sym h.1)
