-- How many bytes the blocks of a picture within the limit can be.
-- Assumes nothing.
use Prim.Native.Nat.{ℕ, ◌+◌, ◌/◌, ◌≤◌}
use native.Mathlib.Omega.{arith}
use native.Mathlib.Nat.{mul-le-mul}
use Rattle.rules.specs.Places.{blocks}
use Rattle.rules.specs.declared.Picture.{Picture}
use Rattle.rules.specs.Sheets.{sheet_limit, format_of, block_bytes_lem}
use Rattle.laws.proofs.Reach.{few_bytes}

-- at most 4,096 by 4,096 blocks
few : (p : Picture) → p.width ≤ sheet_limit → p.height ≤ sheet_limit → blocks p ≤ 0x1000000
few p n l =
    let a : (p.width + 3) / 4 ≤ 4096 = omega arith in
    let b : (p.height + 3) / 4 ≤ 4096 = omega arith in
    mul-le-mul a b

-- of at most 16 bytes
pub bytes : (f : ℕ) (p : Picture) → p.width ≤ sheet_limit → p.height ≤ sheet_limit → block_bytes_lem f p ≤ 0x10000000
bytes f p n l = mul-le-mul (few p n l) (few_bytes (format_of f))
