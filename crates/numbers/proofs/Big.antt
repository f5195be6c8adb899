-- Numbers whose greatest byte is first: byte by byte, and back.
-- Assumes nothing.
use mathlib.Core.Path.{◌≡◌, ◌∙◌, refl, sym, ap}
use mathlib.Core.List.{List, [], ◌∷◌, ◌++◌, append_assoc}
use Prim.Native.Nat.{ℕ, zero, suc, ◌+◌, ◌*◌, ◌/◌, ◌%◌, ◌<◌}
use native.Mathlib.Omega.{arith}
use native.Mathlib.Nat.{add-zero, zero-add, div-div-eq-div-mul}
use lib.ListN.{length, get_or, length-append}
use lib.Seq.{get_or_at}
use Rattle.numbers.specs.Numbers.{big, big_bytes}
use Rattle.numbers.proofs.Little.{top, less}

pub two : (k : ℕ) (d : List ℕ) → big 2 k d ≡ 256 * get_or d k 0 + get_or d (k + 1) 0
unfolding big
two k d = omega (arith, ap (λ (z : ℕ). get_or d z 0) (add-zero k))

pub four : (k : ℕ) (d : List ℕ) → big 4 k d ≡ 0x10000 * big 2 k d + big 2 (k + 2) d
unfolding big
four k d =
    let e : get_or d (k + 2 + 0) 0 ≡ get_or d (k + 2) 0 = ap (λ (z : ℕ). get_or d z 0) (omega arith) in
    let f : get_or d (k + 2 + 1) 0 ≡ get_or d (k + 3) 0 = ap (λ (z : ℕ). get_or d z 0) (omega arith) in
    omega arith

pub four_bytes : (k : ℕ) (d : List ℕ)
    → big 4 k d ≡ 0x1000000 * get_or d k 0 + 0x10000 * get_or d (k + 1) 0 + 0x100 * get_or d (k + 2) 0 + get_or d (k + 3) 0
four_bytes k d =
    let e : get_or d (k + 2 + 1) 0 ≡ get_or d (k + 3) 0 = ap (λ (z : ℕ). get_or d z 0) (omega arith) in
    omega (arith, four k d, two k d, two (k + 2) d)

-- the four bytes of a number, each by one division
pub fourth : (x : ℕ) → big_bytes 4 x ≡ x / 0x1000000 % 256 ∷ x / 0x10000 % 256 ∷ x / 256 % 256 ∷ x % 256 ∷ []
unfolding big_bytes
fourth x =
    let a : x / 256 / 256 ≡ x / 0x10000 = div-div-eq-div-mul x 256 256 in
    let b : x / 256 / 256 / 256 ≡ x / 0x1000000 = ap (λ (z : ℕ). z / 256) a ∙ div-div-eq-div-mul x 0x10000 256 in
    ap (λ (z : ℕ). z % 256 ∷ x / 256 / 256 % 256 ∷ x / 256 % 256 ∷ x % 256 ∷ []) b
    ∙ ap (λ (z : ℕ). x / 0x1000000 % 256 ∷ z % 256 ∷ x / 256 % 256 ∷ x % 256 ∷ []) a

pub long : (n x : ℕ) → length (big_bytes n x) ≡ n
unfolding big_bytes
long zero x = refl
long (suc n) x = length-append (big_bytes n (x / 256)) (x % 256 ∷ []) ∙ omega (arith, long n (x / 256))

-- a number that was put is read back
pub back : (n x : ℕ) (l : List ℕ) → x < top n → big n 0 (big_bytes n x ++ l) ≡ x
unfolding big big_bytes
back zero x l h = omega arith
back (suc n) x l h =
    let front = big_bytes n (x / 256) in
    let b = x % 256 in
    let e : (front ++ (b ∷ [])) ++ l ≡ front ++ (b ∷ l) = append_assoc front (b ∷ []) l in
    let f : big n 0 ((front ++ (b ∷ [])) ++ l) ≡ x / 256 = ap (big n 0) e ∙ back n (x / 256) (b ∷ l) (less x (top n) h) in
    let g : get_or ((front ++ (b ∷ [])) ++ l) (0 + n) 0 ≡ b =
    ap (λ (z : List ℕ). get_or z (0 + n) 0) e ∙ get_or_at front b l 0 (0 + n) (long n (x / 256) ∙ sym (zero-add n)) in
    omega arith
