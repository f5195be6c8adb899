-- The digits of a word to a base, the lowest first.
-- Assumes nothing.
use mathlib.Core.Path.{◌≡◌, ◌∙◌, refl, sym, ap}
use Prim.Native.Nat.{ℕ, zero, suc, ◌+◌, ◌*◌, ◌/◌, ◌%◌, ◌^◌}
use native.Mathlib.Omega.{arith}
use native.Mathlib.Nat.{div-div-eq-div-mul, pow-suc}
use native.Mathlib.Numerals.{add-one}
use mathlib.Core.List.{List}
use lib.ListN.{get_or}
use lib.Pow.{shr-shr, pow-add}
use Rattle.rules.specs.Notation.{build}
use Rattle.rules.specs.Desktop.{colour_index, alpha_index_in}
use Rattle.laws.proofs.Filled.{build_same}

-- a word that loses a digit each turn
pub lost : (w n i : ℕ) → w / n ^ i / n ≡ w / n ^ (i + 1)
lost w n i = div-div-eq-div-mul w (n ^ i) n ∙ ap (λ (m : ℕ). w / m) (sym (ap (λ (j : ℕ). n ^ j) (add-one i) ∙ pow-suc n i))

four : (k : ℕ) → 4 ^ k ≡ 2 ^ (2 * k)
four zero = refl
four (suc k) =
    let e : 2 ^ (2 * suc k) ≡ 2 ^ (2 * k + 2) = ap (λ (j : ℕ). 2 ^ j) (omega arith) in
    omega (arith, four k, pow-suc 4 k, pow-add 2 (2 * k) 2)

eight : (k : ℕ) → 8 ^ k ≡ 2 ^ (3 * k)
eight zero = refl
eight (suc k) =
    let e : 2 ^ (3 * suc k) ≡ 2 ^ (3 * k + 3) = ap (λ (j : ℕ). 2 ^ j) (omega arith) in
    omega (arith, eight k, pow-suc 8 k, pow-add 2 (3 * k) 3)

-- digits of two bits and of three, above the low bits of a word
twos : (w k : ℕ) → w / 0x100000000 / 4 ^ k % 4 ≡ colour_index w k
twos w k = ap (λ (m : ℕ). w / 0x100000000 / m % 4) (four k) ∙ ap (λ (m : ℕ). m % 4) (shr-shr w 32 (2 * k))

threes : (w k : ℕ) → w / 0x10000 / 8 ^ k % 8 ≡ alpha_index_in w k
threes w k = ap (λ (m : ℕ). w / 0x10000 / m % 8) (eight k) ∙ ap (λ (m : ℕ). m % 8) (shr-shr w 16 (3 * k))

-- what they pick
pub of_four : (set : List ℕ) (w : ℕ)
    → build 16 (λ k. get_or set (w / 0x100000000 / 4 ^ k % 4) 0) ≡ build 16 (λ k. get_or set (colour_index w k) 0)
of_four set w = build_same 0 _ _ 16 (λ k h. ap (λ (i : ℕ). get_or set i 0) (twos w k))

pub of_eight : (set : List ℕ) (w : ℕ)
    → build 16 (λ k. get_or set (w / 0x10000 / 8 ^ k % 8) 0) ≡ build 16 (λ k. get_or set (alpha_index_in w k) 0)
of_eight set w = build_same 0 _ _ 16 (λ k h. ap (λ (i : ℕ). get_or set i 0) (threes w k))

pub of_eight_and_four : (tops rest : List ℕ) (a w : ℕ)
    → build 16 (λ k. get_or tops (a / 0x10000 / 8 ^ k % 8) 0 + get_or rest (w / 0x100000000 / 4 ^ k % 4) 0)
    ≡ build 16 (λ k. get_or tops (alpha_index_in a k) 0 + get_or rest (colour_index w k) 0)
of_eight_and_four tops rest a w =
    build_same 0 _ _ 16
    (λ k h. ap (λ (i : ℕ). get_or tops i 0 + get_or rest (w / 0x100000000 / 4 ^ k % 4) 0) (threes a k)
    ∙ ap (λ (i : ℕ). get_or tops (alpha_index_in a k) 0 + get_or rest i 0) (twos w k))

pub of_eight_and_eight : (tops rest : List ℕ) (a b : ℕ)
    → build 16 (λ k. get_or tops (a / 0x10000 / 8 ^ k % 8) 0 + get_or rest (b / 0x10000 / 8 ^ k % 8) 0)
    ≡ build 16 (λ k. get_or tops (alpha_index_in a k) 0 + get_or rest (alpha_index_in b k) 0)
of_eight_and_eight tops rest a b =
    build_same 0 _ _ 16
    (λ k h. ap (λ (i : ℕ). get_or tops i 0 + get_or rest (b / 0x10000 / 8 ^ k % 8) 0) (threes a k)
    ∙ ap (λ (i : ℕ). get_or tops (alpha_index_in a k) 0 + get_or rest i 0) (threes b k))
