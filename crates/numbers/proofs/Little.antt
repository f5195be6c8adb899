-- Numbers whose least byte is first: byte by byte, in a part of a list, and back.
-- Assumes nothing.
use mathlib.Core.Path.{◌≡◌, ◌∙◌, refl, sym, ap}
use mathlib.Core.List.{List, [], ◌∷◌, ◌++◌}
use Prim.Native.Nat.{ℕ, zero, suc, ◌+◌, ◌*◌, ◌/◌, ◌%◌, ◌≤◌, ◌<◌}
use native.Mathlib.Omega.{arith}
use native.Mathlib.Nat.{add-zero}
use native.Mathlib.Numerals.{add-one}
use lib.ListN.{length, take, drop, get_or}
use lib.Seq.{get_or-take, get_or-drop, drop_at}
use Rattle.numbers.specs.Numbers.{little, in_bytes}

pub two : (k : ℕ) (d : List ℕ) → little 2 k d ≡ get_or d k 0 + 256 * get_or d (k + 1) 0
unfolding little
two k d = omega (arith, ap (λ (z : ℕ). get_or d z 0) (add-one k))

pub four : (k : ℕ) (d : List ℕ) → little 4 k d ≡ little 2 k d + 0x10000 * little 2 (k + 2) d
unfolding little
four k d =
    let e : get_or d (k + 2) 0 ≡ get_or d (suc (suc k)) 0 = ap (λ (z : ℕ). get_or d z 0) (omega arith) in
    let f : get_or d (suc (k + 2)) 0 ≡ get_or d (suc (suc (suc k))) 0 = ap (λ (z : ℕ). get_or d z 0) (omega arith) in
    omega arith

pub four_bytes : (k : ℕ) (d : List ℕ)
    → little 4 k d ≡ get_or d k 0 + 0x100 * get_or d (k + 1) 0 + 0x10000 * get_or d (k + 2) 0 + 0x1000000 * get_or d (k + 3) 0
four_bytes k d =
    let e : get_or d (k + 2 + 1) 0 ≡ get_or d (k + 3) 0 = ap (λ (z : ℕ). get_or d z 0) (omega arith) in
    omega (arith, four k d, two k d, two (k + 2) d)

-- read behind n bytes
pub moved : (n k at : ℕ) (d : List ℕ) → little n k (drop at d) ≡ little n (at + k) d
unfolding little
moved zero k at d = refl
moved (suc n) k at d =
    let e : at + suc k ≡ suc (at + k) = omega arith in
    let a : get_or (drop at d) k 0 ≡ get_or d (at + k) 0 = get_or-drop at d k 0 in
    let b : little n (suc k) (drop at d) ≡ little n (suc (at + k)) d = moved n (suc k) at d ∙ ap (λ (z : ℕ). little n z d) e in
    omega arith

-- read in the first m bytes
pub inside : (n k m : ℕ) (d : List ℕ) → k + n ≤ m → little n k (take m d) ≡ little n k d
unfolding little
inside zero k m d h = refl
inside (suc n) k m d h =
    let a : get_or (take m d) k 0 ≡ get_or d k 0 = get_or-take m d k 0 (omega arith) in
    let b : little n (suc k) (take m d) ≡ little n (suc k) d = inside n (suc k) m d (omega arith) in
    omega arith

-- read behind a first part of the list
pub past : (n : ℕ) (p d : List ℕ) (k : ℕ) → length p ≡ k → little n k (p ++ d) ≡ little n 0 d
past n p d k e =
    ap (λ (z : ℕ). little n z (p ++ d)) (sym (add-zero k)) ∙ sym (moved n 0 k (p ++ d)) ∙ ap (little n 0) (drop_at p d k e)

-- how many numbers n bytes can say
abbrev pub top : ℕ → ℕ
top zero = 1
top (suc n) = 256 * top n

split : (x y : ℕ) → y ≡ x / 256 → x % 256 + 256 * y ≡ x
split x y e = omega arith

pub less : (x t : ℕ) → x < 256 * t → x / 256 < t
less x t h = omega arith

-- a number that was put is read back
pub back : (n x : ℕ) (l : List ℕ) → x < top n → little n 0 (in_bytes n x ++ l) ≡ x
unfolding little in_bytes
back zero x l h = omega arith
back (suc n) x l h =
    split x (little n 1 (in_bytes (suc n) x ++ l))
    (past n (x % 256 ∷ []) (in_bytes n (x / 256) ++ l) 1 refl ∙ back n (x / 256) l (less x (top n) h))
