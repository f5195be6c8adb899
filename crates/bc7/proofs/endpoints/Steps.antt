-- The law of a loop that makes endpoints one by one.
-- Assumes nothing.
use mathlib.Core.Path.{◌≡◌, ◌∙◌}
use mathlib.Core.List.{List}
use Prim.Native.Nat.{ℕ, ◌+◌, ◌<◌, ◌≤◌}
use native.Mathlib.Omega.{arith}
use lib.ListN.{length, get_or, set, length-set}
use Rattle.laws.proofs.Filled.{fills}

-- e endpoints of a channel are made
pub record Made (f : ℕ → ℕ) (count : ℕ) (out : List ℕ) (e : ℕ) : Type 0 where
  pub turns : e ≤ count
  pub size : length out ≡ 8
  pub passed : (k : ℕ) → k < e → get_or out k 0 ≡ f k

pub make : (f : ℕ → ℕ) (count : ℕ) (out : List ℕ) (e v : ℕ) → Made f count out e → e < count → count ≤ 8 → v ≡ f e → Made f count (set out e v) (e + 1)
make f count out e v p h l q =
    record {
      turns = omega arith;
      size = length-set out e v ∙ p.size;
      passed = fills f 0 out e v (omega (arith, p.size)) p.passed q;
    }
