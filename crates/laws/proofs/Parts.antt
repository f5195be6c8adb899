-- What a part of a lent slice holds, and what a copy over its front leaves.
-- Assumes nothing.
use mathlib.Core.Path.{◌≡◌, ◌∙◌, ap}
use mathlib.Core.List.{List, ◌++◌}
use Prim.Native.Nat.{ℕ, ◌+◌, ◌-◌, ◌*◌}
use native.Mathlib.Omega.{arith}
use lib.ListN.{length, take, drop, length-drop}
use lib.Seq.{take_all, take-length}
use Rattle.rules.specs.Places.{bytes_of}

-- `&d[n..]` is the list without its first n elements
pub rest : (n : ℕ) (d : List ℕ) → take (length d - n) (drop n d) ≡ drop n d
rest n d = take_all (length d - n) (drop n d) (simp length-drop (omega arith))

-- `&d[n * s..n * s + s]` is block n
pub part : (s n : ℕ) (d : List ℕ) → take (n * s + s - n * s) (drop (n * s) d) ≡ bytes_of s d n
part s n d = let e : n * s + s - n * s ≡ s = omega arith in rw e

-- a copy of a whole list
pub copied : (src old new : List ℕ) (n : ℕ) → length src ≡ n → new ≡ take (length src) src ++ drop (length src) old → new ≡ src ++ drop n old
copied src old new n l e =
    e ∙ ap (λ (z : List ℕ). z ++ drop (length src) old) (take-length src) ∙ ap (λ (z : ℕ). src ++ drop z old) l
