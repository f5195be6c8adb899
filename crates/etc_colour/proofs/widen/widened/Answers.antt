-- Of five, six and seven bits: nothing is lost on the left, and the bits that stand again fit below.
-- Assumes nothing.
use Rattle.std.proofs.Common.{◌≡◌, ℕ, ◌+◌, ◌-◌, ◌*◌, ◌/◌, ◌%◌, ◌^◌, ◌<◌, ◌≤◌, sym, ap, subst, arith}
use native.Mathlib.Decide.{ℕ_discrete}
use Rattle.etc_colour.proofs.widen.widened.Goals as goal

record Narrow (b v : ℕ) : Type 0 where
  pub kept : v * 2 ^ (8 - b) % 256 ≡ 2 ^ (8 - b) * v
  pub below : 2 ^ (8 - b) * v + v / 2 ^ (2 * b - 8) < 256

five : (v : ℕ) → v < 2 ^ 5 → Narrow 5 v
five v h = record { kept = omega arith; below = omega arith }

six : (v : ℕ) → v < 2 ^ 6 → Narrow 6 v
six v h = record { kept = omega arith; below = omega arith }

seven : (v : ℕ) → v < 2 ^ 7 → Narrow 7 v
seven v h = record { kept = omega arith; below = omega arith }

narrow : (b v : ℕ) → 5 ≤ b → b ≤ 7 → v < 2 ^ b → Narrow b v
narrow b v h k l =
    elim (ℕ_discrete b 5) [
      | yes e ↦ subst (λ (n : ℕ). v < 2 ^ n → Narrow n v) (sym e) (five v) l
      | no n ↦ elim (ℕ_discrete b 6) [
        | yes e ↦ subst (λ (n : ℕ). v < 2 ^ n → Narrow n v) (sym e) (six v) l
        | no m ↦ let e : b ≡ 7 = omega arith in subst (λ (n : ℕ). v < 2 ^ n → Narrow n v) (sym e) (seven v) l
      ]
    ]

pub overflow_add-result : goal.overflow_add-result
overflow_add-result g c =
    let r = c.requires in
    let n = narrow g.row.BITS c.args.v r.0 r.1 r.2 in
    omega (arith, n.kept, n.below)

pub returns : goal.returns
returns g c =
    let r = c.requires in
    ap (λ (n : ℕ). n + c.args.v / 2 ^ (2 * g.row.BITS - 8)) (narrow g.row.BITS c.args.v r.0 r.1 r.2).kept
