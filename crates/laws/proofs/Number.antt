-- Laws of the number that bytes make: bytes skipped, two bytes that hold a field, and fields read one after the other.
-- Assumes nothing.
use mathlib.Core.Path.{◌≡◌, ◌∙◌, refl, sym, ap}
use mathlib.Core.List.{List, [], ◌∷◌}
use Prim.Native.Nat.{ℕ, zero, suc, ◌+◌, ◌-◌, ◌*◌, ◌/◌, ◌%◌, ◌^◌, ◌<◌, ◌≤◌}
use native.Mathlib.Nat.{mul_comm, mul_assoc, one-mul, add_comm, zero-add, suc-add, div-one, zero-div}
use native.Mathlib.Omega.{arith}
use lib.Dec.{lit<}
use lib.ListN.{length, get_or, drop}
use lib.Seq.{get_or-drop}
use lib.Pow.{shr-shr, mod-pow-add, pow-add, low, high}
use Rattle.numbers.specs.Numbers.{little}
use Rattle.numbers.proofs.Little as little-laws
use Rattle.rules.specs.Bits.{number, field_at}
use Rattle.laws.proofs.Order.{low_field}

-- every element is a byte
abbrev pub Bytes : List ℕ → Type 0
Bytes d = (k : ℕ) → get_or d k 0 < 256

-- no bytes, and one byte more
none : number [] ≡ 0
unfolding number little
none = refl

cons : (x : ℕ) (d : List ℕ) → number (x ∷ d) ≡ number d * 256 + x
unfolding number little
cons x d = omega (arith, little-laws.past (length d) (x ∷ []) d 1 refl)

-- whole bytes are skipped by a shift
pub skipped : (k : ℕ) (d : List ℕ) → Bytes d → number d / 2 ^ (8 * k) ≡ number (drop k d)
skipped zero d b = div-one (number d)
skipped (suc k) [] b = ap (λ (m : ℕ). m / 2 ^ (8 * suc k)) none ∙ zero-div (2 ^ (8 * suc k)) ∙ sym none
skipped (suc k) (x ∷ d) b =
    let e : 8 * suc k ≡ 8 + 8 * k = omega arith in
    ap (λ (m : ℕ). m / 2 ^ (8 * suc k)) (cons x d)
    ∙ ap (λ (m : ℕ). (number d * 256 + x) / 2 ^ m) e
    ∙ sym (shr-shr (number d * 256 + x) 8 (8 * k))
    ∙ ap (λ (m : ℕ). m / 2 ^ (8 * k)) (high (number d) 8 (b 0))
    ∙ skipped k d (λ j. b (suc j))

-- the first two bytes, and the rest
pub pair : (d : List ℕ) → number d ≡ number (drop 2 d) * 65536 + (get_or d 1 0 * 256 + get_or d 0 0)
pair [] = omega (arith, none)
pair (x ∷ []) = omega (arith, none, cons x [])
pair (x ∷ (y ∷ d)) = omega (arith, cons x (y ∷ d), cons y d)

-- n bits at place p lie in the two bytes from p / 8 on
pub in_two : (d : List ℕ) → Bytes d → (p n : ℕ) → n ≤ 8 → field_at d p n ≡ (get_or d (p / 8 + 1) 0 * 256 + get_or d (p / 8) 0) / 2 ^ (p % 8) % 2 ^ n
in_two d b p n h =
    let q = p / 8 in
    let r = p % 8 in
    let e : 8 * q + r ≡ p = omega arith in
    let r8 : r < 8 = omega arith in
    let z : get_or (drop q d) 1 0 ≡ get_or d (q + 1) 0 = get_or-drop q d 1 0 in
    let y : get_or (drop q d) 0 0 ≡ get_or d q 0 = get_or-drop q d 0 0 ∙ ap (λ (m : ℕ). get_or d m 0) (omega arith) in
    let w = get_or d (q + 1) 0 * 256 + get_or d q 0 in
    let s : number (drop q d) ≡ number (drop 2 (drop q d)) * 65536 + w = pair (drop q d) ∙ rw (z, y) in
    ap (λ (m : ℕ). number d / 2 ^ m % 2 ^ n) (sym e)
    ∙ ap (λ (m : ℕ). m % 2 ^ n) (sym (shr-shr (number d) (8 * q) r))
    ∙ ap (λ (m : ℕ). m / 2 ^ r % 2 ^ n) (skipped q d b ∙ s)
    ∙ low_field 16 (number (drop 2 (drop q d))) w r n (omega (arith, b q, b (q + 1))) (omega arith)

-- a field of m bits and then one of n are one field of n + m bits
pub joined : (d : List ℕ) (p m n : ℕ) → field_at d p (n + m) ≡ field_at d (p + m) n * 2 ^ m + field_at d p m
joined d p m n = mod-pow-add (number d / 2 ^ p) n m ∙ ap (λ (x : ℕ). x % 2 ^ n * 2 ^ m + field_at d p m) (shr-shr (number d) p m)

-- the first n bytes, and those behind them
split : (n m k : ℕ) (d : List ℕ) → little (n + m) k d ≡ little n k d + 2 ^ (8 * n) * little m (n + k) d
unfolding little
split zero m k d = omega (arith, ap (λ (z : ℕ). little z k d) (zero-add m), ap (λ (z : ℕ). little m z d) (zero-add k), one-mul (little m k d))
split (suc n) m k d =
    let e : little (suc n + m) k d ≡ little (suc (n + m)) k d = ap (λ (z : ℕ). little z k d) (suc-add n m) in
    let f : little m (n + suc k) d ≡ little m (suc n + k) d = ap (λ (z : ℕ). little m z d) (omega arith) in
    let p : 8 * suc n ≡ 8 + 8 * n = omega arith in
    let q : 2 ^ (8 * suc n) ≡ 256 * 2 ^ (8 * n) = ap (λ (z : ℕ). 2 ^ z) p ∙ pow-add 2 8 (8 * n) in
    let r : 2 ^ (8 * suc n) * little m (suc n + k) d ≡ 256 * (2 ^ (8 * n) * little m (n + suc k) d) =
    ap (λ (z : ℕ). z * little m (suc n + k) d) q ∙ mul_assoc 256 (2 ^ (8 * n)) (little m (suc n + k) d) ∙ ap (λ (z : ℕ). 256 * (2 ^ (8 * n) * z)) (sym f) in
    omega (arith, e, split n m (suc k) d, r)

-- n bytes are below 2 ^ (8 * n)
small : (n k : ℕ) (d : List ℕ) → Bytes d → little n k d < 2 ^ (8 * n)
unfolding little
small zero k d b = lit< tt
small (suc n) k d b =
    let p : 8 * suc n ≡ 8 + 8 * n = omega arith in
    let q : 2 ^ (8 * suc n) ≡ 256 * 2 ^ (8 * n) = ap (λ (z : ℕ). 2 ^ z) p ∙ pow-add 2 8 (8 * n) in
    omega (arith, b k, small n (suc k) d b, q)

-- so the first n bytes are the lowest bits of them all
pub first_bytes : (n : ℕ) (d : List ℕ) → Bytes d → n ≤ length d → field_at d 0 (8 * n) ≡ little n 0 d
unfolding number
first_bytes n d b h =
    let e : length d ≡ n + (length d - n) = omega arith in
    ap (λ (m : ℕ). m % 2 ^ (8 * n)) (div-one (little (length d) 0 d) ∙ ap (λ (m : ℕ). little m 0 d) e ∙ split n (length d - n) 0 d ∙ add_comm (little n 0 d) _
    ∙ ap (λ (m : ℕ). m + little n 0 d) (mul_comm (2 ^ (8 * n)) (little (length d - n) (n + 0) d)))
    ∙ low (little (length d - n) (n + 0) d) (8 * n) (small n 0 d b)
