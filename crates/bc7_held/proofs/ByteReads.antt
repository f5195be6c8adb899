-- Reads of eight bits put together.
-- Assumes nothing.
use mathlib.Core.Path.{◌≡◌, ◌∙◌, refl, sym, ap}
use mathlib.Core.List.{List}
use Prim.Native.Nat.{ℕ, ◌+◌, ◌*◌}
use native.Mathlib.Nat.{add_comm}
use native.Mathlib.Omega.{arith}
use Rattle.rules.specs.Bits.{field_at}
use Rattle.laws.proofs.Number.{joined}

-- four bytes are 32 bits
put : (f g h a b c d : ℕ) → f ≡ g * 256 + a → g ≡ h * 256 + b → h ≡ d * 256 + c → a + b * 256 + c * 65536 + d * 16777216 ≡ f
put f g h a b c d p q r = omega arith

four_from : (d : List ℕ) (p : ℕ)
    → field_at d p 8 + field_at d (p + 8) 8 * 256 + field_at d (p + 16) 8 * 65536 + field_at d (p + 24) 8 * 16777216 ≡ field_at d p 32
four_from d p =
    let e : p + 8 + 8 ≡ p + 16 = omega arith in
    let f : p + 16 + 8 ≡ p + 24 = omega arith in
    put (field_at d p 32) (field_at d (p + 8) 24) (field_at d (p + 16) 16) _ _ _ (field_at d (p + 24) 8) (joined d p 8 24)
    (joined d (p + 8) 8 16 ∙ ap (λ (x : ℕ). field_at d x 16 * 256 + field_at d (p + 8) 8) e)
    (joined d (p + 16) 8 8 ∙ ap (λ (x : ℕ). field_at d x 8 * 256 + field_at d (p + 16) 8) f)

-- the same by the places of the bytes
four : (d : List ℕ) (p q r s : ℕ) → q ≡ p + 8 → r ≡ p + 16 → s ≡ p + 24
    → field_at d p 8 + field_at d q 8 * 256 + field_at d r 8 * 65536 + field_at d s 8 * 16777216 ≡ field_at d p 32
four d p q r s e f g = rw (e, f, g) (four_from d p)

-- eight bytes, put together from the lowest on, are 64 bits
put_two : (a b c d e f g h lo hi w : ℕ) → a + b * 256 + c * 65536 + d * 16777216 ≡ lo → e + f * 256 + g * 65536 + h * 16777216 ≡ hi → w ≡ hi * 4294967296 + lo
    → a + b * 256 + c * 65536 + d * 16777216 + e * 4294967296 + f * 1099511627776 + g * 281474976710656 + h * 72057594037927936 ≡ w
put_two a b c d e f g h lo hi w p q r = omega arith

pub eight : (d : List ℕ) (p : ℕ)
    → field_at d p 8 + field_at d (p + 8) 8 * 256 + field_at d (p + 16) 8 * 65536 + field_at d (p + 24) 8 * 16777216 + field_at d (p + 32) 8 * 4294967296
    + field_at d (p + 40) 8 * 1099511627776 + field_at d (p + 48) 8 * 281474976710656 + field_at d (p + 56) 8 * 72057594037927936 ≡ field_at d p 64
eight d p =
    put_two _ _ _ _ _ _ _ _ (field_at d p 32) (field_at d (p + 32) 32) _ (four d p (p + 8) (p + 16) (p + 24) refl refl refl)
    (four d (p + 32) (p + 40) (p + 48) (p + 56) (omega arith) (omega arith) (omega arith)) (joined d p 32 32)

-- two words
pub both : (lo hi a b f k : ℕ) → lo ≡ a → hi ≡ b → f ≡ b * k + a → lo + hi * k ≡ f
both lo hi a b f k p q r = rw (p, q) (sym (r ∙ add_comm (b * k) a))
