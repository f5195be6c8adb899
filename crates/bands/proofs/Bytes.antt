-- The parts of some bytes after which others were read.
-- Assumes nothing.
use mathlib.Core.Path.{◌≡◌, ◌∙◌, ap}
use mathlib.Core.List.{List, ◌++◌}
use Prim.Native.Nat.{ℕ, suc, ◌+◌, ◌*◌, ◌<◌, ◌≤◌}
use native.Mathlib.Omega.{arith}
use native.Mathlib.Nat.{suc-mul, mul-le-mul_right}
use lib.ListN.{length, take, drop, length-drop}
use lib.Seq.{take-append-le, drop-append-le, drop_at, take_all}
use Rattle.rules.specs.Places.{bytes_of}

-- a part that was there is as it was
pub kept : (s i j : ℕ) (d b : List ℕ) → i < j → j * s ≤ length d → bytes_of s (d ++ b) i ≡ bytes_of s d i
kept s i j d b h l =
    let m : suc i * s ≤ j * s = mul-le-mul_right s h in
    let e : suc i * s ≡ i * s + s = suc-mul i s in
    let a : i * s ≤ length d = omega arith in
    let c : s ≤ length (drop (i * s) d) = simp length-drop (omega arith) in
    ap (take s) (drop-append-le (i * s) d b a) ∙ take-append-le s (drop (i * s) d) b c

-- and the next part is what was read
pub read : (s j : ℕ) (d b : List ℕ) → length d ≡ j * s → length b ≡ s → bytes_of s (d ++ b) j ≡ b
read s j d b e f = ap (take s) (drop_at d b (j * s) e) ∙ take_all s b (omega arith)
