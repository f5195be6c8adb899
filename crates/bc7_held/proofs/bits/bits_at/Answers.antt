-- The bits lie in two bytes: `in_two`.
-- Assumes nothing.
use mathlib.Core.Path.{◌≡◌, sym, ap, ◌∙◌}
use mathlib.Core.Bool.{Bool, cond}
use mathlib.Core.List.{[], ◌∷◌}
use Prim.Native.Nat.{ℕ, ◌+◌, ◌*◌, ◌/◌, ◌%◌, ◌^◌}
use native.Mathlib.Omega.{arith}
use lib.ListN.{get_or}
use Rattle.rules.specs.Bits.{field_at}
use Rattle.laws.proofs.Number.{in_two}
use Rattle.laws.proofs.Refuse.{allowed}
use Rattle.bc7_held.proofs.bits.bits_at.Goals as goal

pub returns : goal.returns
returns c =
    let a = c.args in
    let d = a.s.now in
    let w : c.from.result ≡ get_or d (a.place / 8 + 1) 0 * 256 + get_or d (a.place / 8) 0 =
    omega (arith, c.from.ensures, c.from_le_bytes-pair.ensures, c.byte_or_0.ensures, c.byte_or_0-2.ensures) in
    let v : c.part.result ≡ field_at d a.place a.n =
    c.part.ensures
    ∙ ap (λ (m : ℕ). m / 2 ^ (a.place % 8) % 2 ^ a.n) w
    ∙ sym (in_two d (λ k. (c.type_inv.s k).fits) a.place a.n (allowed _ _ _ (sym c.refused.ensures ∙ c.if-refused.false)).0) in
    ap (λ (x : ℕ). 0 ∷ x ∷ []) v
    ∙ sym (ap (λ (t : Bool). cond t (2 ∷ []) (0 ∷ field_at d a.place a.n ∷ [])) (sym c.refused.ensures ∙ c.if-refused.false))
