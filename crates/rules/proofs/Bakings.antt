-- The rows of M-112: tiles with the block that is baked of them, its sum and its largest difference, as oracle/bake prints them, whose
-- search goes through every code and every choice of indices over the pixels of Android's decoder; and the checks, by hand from the
-- request's sentences. One test that antt computes over the definitions that the checker and the baker promise.
-- Assumes nothing.
use mathlib.Core.Bool.{Bool, true, not, ◌&&◌}
use mathlib.Core.List.{List, [], ◌∷◌, ◌++◌}
use mathlib.Core.Path.{◌≡◌}
use Prim.Native.Nat.{ℕ, ◌+◌, ◌-◌, ◌/◌}
use lib.Dec.{T, eqb}
use lib.ListN.{length, replicate, take}
use Rattle.std.specs.Prelude.{Result, Ok, Err, ⊤}
use Rattle.rules.specs.Answers.{left}
use Rattle.rules.specs.Notation.{build}
use Rattle.rules.specs.Colour.{code, differential, wrapped, out_of_range_lem}
use Rattle.rules.specs.Modes.{etc1_pixel}
use Rattle.rules.specs.Counting.{least_of_lem, sum_of, most_of, each, from_bits_lem}
use Rattle.rules.specs.Checking.{near, differ, farthest, cost, largest, accepted, check_verdict, baking_said, Checks}
use Rattle.rules.specs.Baking.{
  bases_of_lem,
  own,
  shown,
  index_for,
  cost_for,
  code_for,
  block_with,
  baked_block,
  bake_verdict,
  eight_over,
  Bakes,
}
use Rattle.rules.specs.declared.BakingRefusal.{BakingRefusal}
use Rattle.rules.specs.declared.BakingRefusal.TheVariants.{ShortBlock, ShortTile, NoBase, NotAccepted}
use Rattle.rules.proofs.Rows.{digits, same}

-- what is promised
check_no_less : (tolerance : ℕ) (d t : List ℕ) (a : Result ⊤ BakingRefusal) → Checks tolerance d t a → baking_said a ≡ check_verdict tolerance d t
check_no_less tolerance d t a o = o

bake_says : (first second : List ℕ) (flip : ℕ) (t : List ℕ) (a : Result ⊤ BakingRefusal) (old new : List ℕ) → Bakes first second flip t a old new
    → baking_said a ≡ bake_verdict first second flip (length old) (length t)
bake_says first second flip t a old new o = o.says

bake_leaves : (first second : List ℕ) (flip : ℕ) (t : List ℕ) (a : Result ⊤ BakingRefusal) (old new : List ℕ) → Bakes first second flip t a old new
    → new ≡ left (bake_verdict first second flip (length old) (length t)) (eight_over (baked_block first second flip t) old) old
bake_leaves first second flip t a old new o = o.leaves

-- "2", "3", "16"; and 18
answers : Bool
answers =
    same (baking_said (Ok tt)) (0 ∷ [])
    && same (baking_said (Err ShortBlock)) (2 ∷ [])
    && same (baking_said (Err ShortTile)) (3 ∷ [])
    && same (baking_said (Err NoBase)) (16 ∷ [])
    && same (baking_said (Err NotAccepted)) (18 ∷ [])

-- three channels of four bits, the bytes of a block and the elements of a tile, each as one number
unfoldable pub base : ℕ → List ℕ
base n = digits 16 3 n []

unfoldable pub eight : ℕ → List ℕ
eight n = digits 256 8 n []

unfoldable pub sixteen : ℕ → List ℕ
sixteen n = digits 0x100000000 16 n []

pub record Row : Type 0 where
  pub first : ℕ
  pub second : ℕ
  pub flip : ℕ
  pub tile : ℕ
  pub block : ℕ
  pub sum : ℕ
  pub most : ℕ

unfoldable pub bakes : ℕ → ℕ → ℕ → ℕ → ℕ → ℕ → ℕ → Row
bakes a b f t d s m = record { first = a; second = b; flip = f; tile = t; block = d; sum = s; most = m }

unfoldable pub least_sum : Row → ℕ → ℕ
least_sum r h = cost_for (bases_of_lem (base r.first) (base r.second) h) r.flip (sixteen r.tile) h (code (eight r.block) h)

-- the bytes; their sum, which is the least of either half with its code; and that they are accepted from their largest difference on
unfoldable pub every : List Row → Bool
every [] = true
every (r ∷ rs) =
    same (baked_block (base r.first) (base r.second) r.flip (sixteen r.tile)) (eight r.block)
    && eqb (cost (eight r.block) (sixteen r.tile)) r.sum
    && eqb (least_sum r 0 + least_sum r 1) r.sum
    && eqb (largest (eight r.block) (sixteen r.tile)) r.most
    && accepted r.most (eight r.block) (sixteen r.tile)
    && not (accepted (r.most - 1) (eight r.block) (sixteen r.tile))
    && every rs

unfoldable pub specimens : List Row
specimens =
    bakes 0xFB9 0x4AB 1
    0xABD5CB7222FFD2831ECAA3D053FFFF4A3EFFBB9ACBF6B9716FFFBB9713FFBA9D5C449CA49D35AADBD43DB7B37B9851689C4AC3C987AEA6AC0E38A2C6F746A9B9
    0xF4BA9B01CFA54D2D 980 108
    ∷ bakes 0xFFF 0x0F0 0
    0x6AEDB1DB4ED3F9B2F229A8BB20DC8EFE3276268F02846CBBE91E6C33AFE381311F83260654BE93F3D1D31C3D75A0DA1A0D5AA4F0489106DBEA3BB230A1F045BE
    0xF0FFF0DC06FFB6AE 2873 211
    ∷ bakes 0xFF0 0x0FF 0
    0xFDFEFB0382FEFE00C800F7FF670BFFF933F1DF0F64FFE500EE00FDFDB900C1FFA989FF00AFFFFF04AE00FFFF3F01FFFF58FFBB68CEFBFC00541AD5FFC800F2F9
    0xF0FF0F20A3A6980A 499 113
    ∷ bakes 0xF0F 0xF0F 0
    0x96FF00FF7BFF00FFFBFF00FF4CFF00FFE2FF00FFD2FF00FF22FF00FFC2FF00FFCBFF00FFAEFF00FF96FF00FF89FF00FF29FF00FFB8FF00FFECFF00FF90FF00FF
    0xFF00FF0000000000 32 2
    ∷ bakes 0x724 0x3C9 1
    0x14EF413514EF413514EF413514EF413514EF413514EF413514EF413514EF413514EF413514EF413514EF413514EF413514EF413514EF413514EF413514EF4135
    0x732C4959CCCCFFFF 3320 239
    ∷ []

-- "A block under 8 bytes is refused with 2, a tile under 16 elements with 3, in that order." The block of zeros shows FF020202; the
-- last two have a red sum out of range, and none
checked : Bool
checked =
    same (check_verdict 255 (replicate 7 0) (replicate 15 0)) (2 ∷ [])
    && same (check_verdict 255 (replicate 7 0) (replicate 16 0)) (2 ∷ [])
    && same (check_verdict 255 (replicate 8 0) (replicate 15 0)) (3 ∷ [])
    && same (check_verdict 2 (replicate 8 0) (replicate 16 0)) (0 ∷ [])
    && same (check_verdict 1 (replicate 8 0) (replicate 16 0)) (18 ∷ [])
    && same (check_verdict 0 (replicate 9 0) (replicate 17 0x020202)) (0 ∷ [])
    && same (check_verdict 0 (replicate 8 0) (replicate 15 0x020202 ++ (0x030202 ∷ []))) (18 ∷ [])
    && same (check_verdict 0 (replicate 8 0) (0x020102 ∷ replicate 15 0x020202)) (18 ∷ [])
    && same (check_verdict 0 (replicate 8 0) (replicate 8 0x020202 ++ (0x020203 ∷ replicate 7 0x020202))) (18 ∷ [])
    && same (check_verdict 255 (eight 0x0400000200000000) (replicate 16 0)) (18 ∷ [])
    && same (check_verdict 255 (eight 0xF800000200000000) (replicate 16 0)) (0 ∷ [])

-- sums and largest differences, of a block in range and of one out of it, whose pixels are ETC1's: eight FF020202 and eight FFE90202
measured : Bool
measured =
    eqb (cost (replicate 8 0) (replicate 16 0x020202)) 0
    && eqb (largest (replicate 8 0) (replicate 16 0x020202)) 0
    && eqb (largest (replicate 8 0) (replicate 15 0x020202 ++ (0x030202 ∷ []))) 1
    && eqb (largest (replicate 8 0) (0x020502 ∷ replicate 15 0x020202)) 3
    && eqb (largest (replicate 8 0) (0x020200 ∷ replicate 15 0x020202)) 2
    && eqb (cost (eight 0x0400000200000000) (replicate 16 0)) 1944
    && eqb (largest (eight 0x0400000200000000) (replicate 16 0)) 233

-- the pixels of each half: "0 puts columns 0, 1 in the first half, 1 puts rows 0, 1 there"
halves : Bool
halves =
    same (build 8 (own 0 0)) (0 ∷ 1 ∷ 4 ∷ 5 ∷ 8 ∷ 9 ∷ 12 ∷ 13 ∷ [])
    && same (build 8 (own 0 1)) (2 ∷ 3 ∷ 6 ∷ 7 ∷ 10 ∷ 11 ∷ 14 ∷ 15 ∷ [])
    && same (build 8 (own 1 0)) (0 ∷ 1 ∷ 2 ∷ 3 ∷ 4 ∷ 5 ∷ 6 ∷ 7 ∷ [])
    && same (build 8 (own 1 1)) (8 ∷ 9 ∷ 10 ∷ 11 ∷ 12 ∷ 13 ∷ 14 ∷ 15 ∷ [])

-- any codes and indices as bytes: all indices 3; and each pixel of a column another index, from 0 on
spelt : Bool
spelt =
    same (block_with (base 0x123) (base 0x456) 1 (λ h. h + 5) (λ k. 3)) (eight 0x142536B9FFFFFFFF)
    && same (block_with (base 0xFED) (base 0xCBA) 0 (λ h. 7 - h) (λ k. k / 4)) (eight 0xFCEBDAF8CCCCAAAA)

-- "It refuses with 16 a base channel above 15 or a flip above 1, then with 2 (under 8 bytes of room) or 3"
refused : Bool
refused =
    same (bake_verdict (15 ∷ 15 ∷ 15 ∷ []) (15 ∷ 15 ∷ 15 ∷ []) 1 8 16) (0 ∷ [])
    && same (bake_verdict (16 ∷ 0 ∷ 0 ∷ []) (0 ∷ 0 ∷ 0 ∷ []) 0 7 15) (16 ∷ [])
    && same (bake_verdict (0 ∷ 16 ∷ 0 ∷ []) (0 ∷ 0 ∷ 0 ∷ []) 0 8 15) (16 ∷ [])
    && same (bake_verdict (0 ∷ 0 ∷ 16 ∷ []) (0 ∷ 0 ∷ 0 ∷ []) 0 7 16) (16 ∷ [])
    && same (bake_verdict (0 ∷ 0 ∷ 0 ∷ []) (16 ∷ 0 ∷ 0 ∷ []) 0 8 16) (16 ∷ [])
    && same (bake_verdict (0 ∷ 0 ∷ 0 ∷ []) (0 ∷ 16 ∷ 0 ∷ []) 0 8 16) (16 ∷ [])
    && same (bake_verdict (0 ∷ 0 ∷ 0 ∷ []) (0 ∷ 0 ∷ 16 ∷ []) 0 8 16) (16 ∷ [])
    && same (bake_verdict (0 ∷ 0 ∷ 0 ∷ []) (0 ∷ 0 ∷ 0 ∷ []) 2 8 16) (16 ∷ [])
    && same (bake_verdict (0 ∷ 0 ∷ 0 ∷ []) (0 ∷ 0 ∷ 0 ∷ []) 0 7 15) (2 ∷ [])
    && same (bake_verdict (0 ∷ 0 ∷ 0 ∷ []) (0 ∷ 0 ∷ 0 ∷ []) 0 7 16) (2 ∷ [])
    && same (bake_verdict (0 ∷ 0 ∷ 0 ∷ []) (0 ∷ 0 ∷ 0 ∷ []) 0 8 15) (3 ∷ [])

-- "else it writes 8 bytes only"
written : Bool
written = same (eight_over (eight 0x0102030405060708) (replicate 8 9 ++ (10 ∷ 11 ∷ []))) (1 ∷ 2 ∷ 3 ∷ 4 ∷ 5 ∷ 6 ∷ 7 ∷ 8 ∷ 10 ∷ 11 ∷ [])

-- the first tile here, with every edit of a definition, and all of them once, in crate recorded
hold : T (answers && checked && measured && halves && spelt && refused && written && every (take 1 specimens))
unfolding answers checked measured halves spelt refused written base eight sixteen bakes least_sum every specimens differential wrapped
    out_of_range_lem etc1_pixel least_of_lem sum_of most_of each from_bits_lem
    near differ farthest check_verdict shown index_for cost_for code_for block_with
hold = tt
