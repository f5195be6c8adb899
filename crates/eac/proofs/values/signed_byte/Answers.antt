-- What the code makes of a byte is its signed base: one test that antt computes over all 256.
-- Assumes nothing.
use Rattle.std.proofs.Common.{◌≡◌, ℕ, ◌<◌, Bool, false, T, eqb, ℤ, pos, negsuc, ap, ◌∙◌, arith, eqb→eq, w16, to_z}
use mir.Syntax.{w8}
use mir.Val.{of_z}
use Rattle.std.specs.Int.{int_max}
use Rattle.rules.specs.Channels.{signed_base}
use Rattle.laws.proofs.Every.{below}
use Rattle.eac.proofs.values.signed_byte.Goals as goal

-- two signed numbers are equal: a test, and what it says
alike : ℤ → ℤ → Bool
alike (pos m) (pos n) = eqb m n
alike (pos m) (negsuc n) = false
alike (negsuc m) (pos n) = false
alike (negsuc m) (negsuc n) = eqb m n

equal : (y z : ℤ) → T (alike y z) → y ≡ z
unfolding alike
equal (pos m) (pos n) t = ap pos (eqb→eq m n t)
equal (pos m) (negsuc n) t = absurd t
equal (negsuc m) (pos n) t = absurd t
equal (negsuc m) (negsuc n) t = ap negsuc (eqb→eq m n t)

-- what the code makes of a byte: of its two's complement and -127 the larger
abbrev narrow : ℤ → ℤ
narrow y = to_z w8 (of_z w8 y)

abbrev wide : ℤ → ℤ
wide y = to_z w16 (of_z w16 y)

abbrev made : ℕ → ℤ
made b = wide (int_max (wide (narrow (to_z w8 b))) (negsuc 126))

right : (b : ℕ) → b < 256 → made b ≡ signed_base b
unfolding alike
right b h = equal (made b) (signed_base b) (below (λ k. alike (made k) (signed_base k)) 256 tt b h)

pub returns : goal.returns
returns c =
    let read = c.from.ensures ∙ ap narrow c.cast_signed.ensures in
    ap wide (c.max.ensures.value ∙ ap (λ (y : ℤ). int_max (wide y) (negsuc 126)) read) ∙ right c.args.b (omega arith)
