-- The product and the sum fit, and the two steps of the clamp are the rule's one.
-- Assumes nothing.
use Rattle.std.proofs.Common.{◌≡◌, suc, ◌+◌, ◌*◌, ◌^◌, ◌<◌, Bool, true, false, cond, ℤ, pos, ◌+ℤ◌, ◌*ℤ◌, refl, ap, ◌∙◌, arith, w16}
use lib.Signed.{mag, lt_z}
use mir.ValLaws.{to_z-of_z}
use Rattle.laws.proofs.Signed.{held, held_small, mag_mul, mag_sum, times_le, on_held}
use Rattle.eac.proofs.values.eac_whole.Goals as goal

-- first to the least and then to the most
two : (l h z : ℤ) → lt_z h l ≡ false → (t : Bool) → cond (lt_z h (cond t l z)) h (cond t l z) ≡ cond t l (cond (lt_z h z) h z)
two l h z e true = ap (λ (b : Bool). cond b h l) e
two l h z e false = refl

held-cond : (t : Bool) (y z : ℤ) → held w16 y ≡ y → held w16 z ≡ z → held w16 (cond t y z) ≡ cond t y z
held-cond true y z e f = e
held-cond false y z e f = f

pub returns : goal.returns
returns c =
    let sum : ℤ = c.args.base +ℤ pos c.args.m *ℤ c.args.s in
    let low : held w16 c.args.low ≡ c.args.low = to_z-of_z w16 c.args.low c.ranges.low in
    let high : held w16 c.args.high ≡ c.args.high = to_z-of_z w16 c.args.high c.ranges.high in
    let fit : mag c.args.base + c.args.m * suc (mag c.args.s) + 1 < 2 ^ 15 =
    omega (arith, times_le c.args.m 120 (suc (mag c.args.s)) 16 (omega arith) (omega arith)) in
    let sum_held : held w16 sum ≡ sum =
    held_small w16 sum (omega (arith, fit, mag_sum c.args.base (pos c.args.m *ℤ c.args.s), mag_mul c.args.m c.args.s)) in
    let told : held w16 (held w16 c.args.base +ℤ held w16 (held w16 (pos c.args.m) *ℤ held w16 c.args.s)) ≡ sum =
    on_held w16 c.args.base (pos c.args.m) c.args.s c.args.m refl c.ranges.base (record { sfits = omega arith }) c.ranges.s fit in
    let first : held w16 c.max.result ≡ cond (lt_z sum c.args.low) c.args.low sum =
    ap (held w16) (rw (low, c.from.ensures, told) at c.max.ensures.value)
    ∙ held-cond (lt_z sum c.args.low) c.args.low sum low sum_held in
    let l = c.args.low in
    let h = c.args.high in
    ap (held w16)
    (rw (high, first) at c.min.ensures.value
    ∙ two l h sum c.requires.3 (lt_z sum l))
    ∙ held-cond (lt_z sum l) l (cond (lt_z h sum) h sum) low
    (held-cond (lt_z h sum) h sum high sum_held)
