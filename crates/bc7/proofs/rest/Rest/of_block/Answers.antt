-- Sixteen bytes by eight and eight.
-- Assumes nothing.
use mathlib.Core.Path.{◌≡◌, ◌∙◌}
use mathlib.Core.List.{List}
use Prim.Native.Nat.{ℕ, ◌+◌, ◌-◌, ◌*◌, ◌^◌, ◌≤◌}
use native.Mathlib.Omega.{arith}
use lib.ListN.{length, take, drop}
use Rattle.numbers.specs.Numbers.{little}
use Rattle.numbers.proofs.Little.{inside, moved}
use Rattle.bc7.proofs.rest.Rest.of_block.Goals as goal

-- the second eight bytes, as a part of the list
second : (d : List ℕ) (n : ℕ) → 8 ≤ n → little 8 0 (take n (drop 8 d)) ≡ little 8 8 d
second d n h = inside 8 0 n (drop 8 d) (omega arith) ∙ moved 8 0 8 d

together : (d : List ℕ) → little 8 8 d * 2 ^ 64 + little 8 0 d ≡ little 16 0 d
unfolding little
together d = omega arith

pub returns : goal.returns
returns c =
    let d = c.args.d.now in
    let e : c.half_word-hi.result ≡ little 8 8 d = c.half_word-hi.ensures ∙ second d (length d - 8) (omega arith) in
    let f : c.half_word-lo.result ≡ little 8 0 d = c.half_word-lo.ensures in
    rw (e, f) (together d)
