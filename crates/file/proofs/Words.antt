-- Numbers of eight bytes.
-- Assumes nothing.
use mathlib.Core.Path.{◌≡◌, refl, ap}
use mathlib.Core.List.{List}
use Prim.Native.Nat.{ℕ, suc, ◌+◌, ◌*◌}
use native.Mathlib.Omega.{arith}
use lib.ListN.{get_or}
use Rattle.numbers.specs.Numbers.{little}

-- one byte, and those behind it
one : (n k : ℕ) (d : List ℕ) → little (suc n) k d ≡ get_or d k 0 + 256 * little n (suc k) d
unfolding little
one n k d = refl

none : (k : ℕ) (d : List ℕ) → little 0 k d ≡ 0
unfolding little
none k d = refl

pub eight_bytes : (k : ℕ) (d : List ℕ)
    → little 8 k d
    ≡ get_or d k 0 + 0x100 * get_or d (k + 1) 0 + 0x10000 * get_or d (k + 2) 0 + 0x1000000 * get_or d (k + 3) 0
    + 0x100000000 * get_or d (k + 4) 0 + 0x10000000000 * get_or d (k + 5) 0 + 0x1000000000000 * get_or d (k + 6) 0 + 0x100000000000000 * get_or d (k + 7) 0
eight_bytes k d =
    let at : (a b : ℕ) → a ≡ b → get_or d a 0 ≡ get_or d b 0 = λ a b e. ap (λ (z : ℕ). get_or d z 0) e in
    omega (
      arith,
      one 7 k d,
      one 6 (suc k) d,
      one 5 (suc (suc k)) d,
      one 4 (suc (suc (suc k))) d,
      one 3 (suc (suc (suc (suc k)))) d,
      one 2 (suc (suc (suc (suc (suc k))))) d,
      one 1 (suc (suc (suc (suc (suc (suc k)))))) d,
      one 0 (suc (suc (suc (suc (suc (suc (suc k))))))) d,
      none (suc (suc (suc (suc (suc (suc (suc (suc k)))))))) d,
      at (suc k) (k + 1) (omega arith),
      at (suc (suc k)) (k + 2) (omega arith),
      at (suc (suc (suc k))) (k + 3) (omega arith),
      at (suc (suc (suc (suc k)))) (k + 4) (omega arith),
      at (suc (suc (suc (suc (suc k))))) (k + 5) (omega arith),
      at (suc (suc (suc (suc (suc (suc k)))))) (k + 6) (omega arith),
      at (suc (suc (suc (suc (suc (suc (suc k))))))) (k + 7) (omega arith),
    )
