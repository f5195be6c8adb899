-- Laws of whole values: how far they reach, the byte of each, and its sixteen bits.
-- Assumes nothing.
use Rattle.std.proofs.Common.{◌≡◌, ℕ, suc, ◌+◌, ◌-◌, ◌/◌, ◌<◌, Bool, true, false, T, List, ℤ, pos, negsuc, ◌+ℤ◌, ◌*ℤ◌, nat_abs, sym, refl, ap, ◌∙◌, arith, le-ltb, lt-ltb}
use native.Mathlib.Decide.{dec_lt}
use lib.IntN.{+ℤ_assoc, +ℤ_comm}
use lib.Signed.{mag, non_neg}
use Rattle.rules.specs.Notation.{byte, bits, minus, clamp}
use Rattle.rules.specs.Channels.{signed_base, multiplier, alpha_step, eac_value, eac_byte}
use Rattle.rules.specs.Whole.{least, most, between, middle, added, byte_from, eac_whole_lem}
use Rattle.laws.proofs.Signed.{neg, nat}

-- what is clamped to a range, with as much added as makes its least 0: the number that it is, and that it is small
pub record Raised (up : ℕ) (v : ℤ) : Type 0 where
  pub value : ℕ
  pub is : pos up +ℤ v ≡ pos value
  pub few : value < 2048
  pub small : mag v < 2048

raised_signed : (z : ℤ) → Raised 1023 (between (minus 1023) (pos 1023) z)
raised_signed (pos n) =
    elim (dec_lt 1023 n) [
      | yes h ↦ rw (lt-ltb 1023 n h) (record { value = 2046; is = refl; few = omega arith; small = omega arith })
      | no h ↦ rw (le-ltb 1023 n (omega (arith, h))) (record { value = 1023 + n; is = refl; few = omega (arith, h); small = omega (arith, h) })
    ]
raised_signed (negsuc n) =
    elim (dec_lt 1022 n) [
      | yes h ↦ rw (lt-ltb 1022 n h) (record { value = 0; is = refl; few = omega arith; small = omega arith })
      | no h ↦ rw (le-ltb 1022 n (omega (arith, h)))
          (record { value = 1023 - suc n; is = nat 1023 (suc n) (omega (arith, h)); few = omega arith; small = omega (arith, h) })
    ]

raised_unsigned : (z : ℤ) → Raised 0 (between (pos 0) (pos 2047) z)
raised_unsigned (pos n) =
    elim (dec_lt 2047 n) [
      | yes h ↦ rw (le-ltb n 0 (omega arith), lt-ltb 2047 n h) (record { value = 2047; is = refl; few = omega arith; small = omega arith })
      | no h ↦ rw (le-ltb n 0 (omega arith), le-ltb 2047 n (omega (arith, h))) (record { value = 0 + n; is = refl; few = omega (arith, h); small = omega (arith, h) })
    ]
raised_unsigned (negsuc n) = record { value = 0; is = refl; few = omega arith; small = omega arith }

pub raised : (signed : Bool) (z : ℤ) → Raised (added signed) (between (least signed) (most signed) z)
raised true z = raised_signed z
raised false z = raised_unsigned z

pub not_negative : (up n : ℕ) (v : ℤ) → pos up +ℤ v ≡ pos n → T (non_neg (pos up +ℤ v))
not_negative up n v e = rw e tt

-- the byte of a clamped value, and a byte that is clamped by itself
byte_signed : (z : ℤ) → clamp 2047 (z +ℤ pos 1023) / 8 ≡ nat_abs (between (minus 1023) (pos 1023) z +ℤ pos 1023) / 8
byte_signed (pos n) =
    elim (dec_lt 1023 n) [
      | yes h ↦ rw (lt-ltb 1023 n h) (omega (arith, h))
      | no h ↦ rw (le-ltb 1023 n (omega (arith, h))) (omega (arith, h))
    ]
byte_signed (negsuc n) =
    elim (dec_lt 1022 n) [
      | yes h ↦ rw (lt-ltb 1022 n h, neg 1023 (suc n) (omega (arith, h))) refl
      | no h ↦ rw (le-ltb 1022 n (omega (arith, h)), nat 1023 (suc n) (omega (arith, h))) (omega (arith, h))
    ]

byte_unsigned : (z : ℤ) → clamp 2047 z / 8 ≡ nat_abs (between (pos 0) (pos 2047) z +ℤ pos 0) / 8
byte_unsigned (pos n) =
    elim (dec_lt 2047 n) [
      | yes h ↦ rw (le-ltb n 0 (omega arith), lt-ltb 2047 n h) (omega (arith, h))
      | no h ↦ rw (le-ltb n 0 (omega arith), le-ltb 2047 n (omega (arith, h))) (omega (arith, h))
    ]
byte_unsigned (negsuc n) = refl

later : (a b c : ℤ) → (a +ℤ b) +ℤ c ≡ (a +ℤ c) +ℤ b
later a b c = +ℤ_assoc a b c ∙ ap (λ (z : ℤ). a +ℤ z) (+ℤ_comm b c) ∙ sym (+ℤ_assoc a c b)

-- "their bytes don't change": for every block, and every place in it
pub bytes_stay : (signed : Bool) (d : List ℕ) (x y : ℕ) → eac_byte signed d x y ≡ byte_from signed (eac_whole_lem signed d x y)
unfolding eac_byte eac_value eac_whole_lem
bytes_stay true d x y =
    let m = pos 8 *ℤ signed_base (byte d 0) in
    let s = pos (multiplier (bits 7 4 (byte d 1))) *ℤ alpha_step d x y in
    ap (λ (z : ℤ). clamp 2047 z / 8) (later m (pos 1023) s) ∙ byte_signed (m +ℤ s)
bytes_stay false d x y =
    byte_unsigned (middle false (byte d 0) +ℤ pos (multiplier (bits 7 4 (byte d 1))) *ℤ alpha_step d x y)
