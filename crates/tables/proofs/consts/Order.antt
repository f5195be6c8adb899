-- What the tables hold at each entry, of any list that is one of them: the law that their callers lean on.
-- Assumes nothing.
use mathlib.Core.Path.{◌≡◌, ◌∙◌, ap}
use mathlib.Core.Bool.{cond}
use mathlib.Core.List.{List, []}
use Prim.Native.Nat.{ℕ, ◌+◌, ◌-◌, ◌*◌, ◌/◌, ◌%◌, ◌<◌}
use native.Mathlib.Omega.{arith}
use borrow.Author.Tests.{lt-ltb, le-ltb}
use lib.Dec.{ltb}
use lib.IntN.{ℤ}
use lib.ListN.{get_or}
use Rattle.rules.specs.Colour.{steps_of}
use Rattle.laws.proofs.Filled.{get_or_build}
use Rattle.tables.specs.consts.Tables.{write_order_lem, signed_steps, four_steps, clear_four}

-- row n of the steps
abbrev row : ℕ → List ℤ
row n = cond (ltb n 8) (clear_four (steps_of n)) (four_steps (steps_of (n - 8)))

-- the place of pixel i
pub order_at : (o : List ℕ) → o ≡ write_order_lem → (i : ℕ) → i < 16 → get_or o i 0 ≡ 4 * (i % 4) + i / 4
unfolding write_order_lem
order_at o e i h = ap (λ (l : List ℕ). get_or l i 0) e ∙ get_or_build (λ i. 4 * (i % 4) + i / 4) 0 16 i h

-- the steps of a code, in a block that is not opaque and in one that is
pub clear_at : (t : List (List ℤ)) → t ≡ signed_steps → (code : ℕ) → code < 8 → get_or t code [] ≡ clear_four (steps_of code)
unfolding signed_steps
clear_at t e code h =
    ap (λ (l : List (List ℤ)). get_or l code []) e
    ∙ get_or_build row [] 16 code (omega arith)
    ∙ rw (lt-ltb code 8 h)

pub steps_at : (t : List (List ℤ)) → t ≡ signed_steps → (code : ℕ) → code < 8 → get_or t (8 + code) [] ≡ four_steps (steps_of code)
unfolding signed_steps
steps_at t e code h =
    let n : 8 + code - 8 ≡ code = omega arith in
    ap (λ (l : List (List ℤ)). get_or l (8 + code) []) e
    ∙ get_or_build row [] 16 (8 + code) (omega arith)
    ∙ rw (le-ltb (8 + code) 8 (omega arith), n)
