-- `sheet::write::front_of` meets its contract: byte by byte.
-- Assumes nothing.
use mathlib.Core.Path.{◌≡◌, refl}
use Prim.Native.Nat.{ℕ, ◌/◌}
use native.Mathlib.Omega.{arith}
use Rattle.numbers.specs.Numbers.{in_bytes}
use Rattle.sheet.proofs.write.front_of.Goals as goal

third : (n : ℕ) → n / 0x10000 ≡ n / 256 / 256
third n = omega arith

fourth : (n : ℕ) → n / 0x1000000 ≡ n / 256 / 256 / 256
fourth n = omega arith

pub returns : goal.returns
unfolding in_bytes
returns c =
    let a = c.args in
    rw (c.to_le_bytes.ensures, c.to_le_bytes-2.ensures, c.to_le_bytes-3.ensures, third a.w, fourth a.w, third a.h, fourth a.h, third a.n, fourth a.n) refl
