-- The fields of an index word, and the place of a pixel.
-- Assumes nothing.
use mathlib.Core.Path.{◌≡◌, ◌∙◌, sym, ap}
use Prim.Native.Nat.{ℕ, ◌+◌, ◌-◌, ◌*◌, ◌/◌, ◌%◌, ◌^◌, ◌<◌, ◌≤◌}
use native.Mathlib.Nat.{mul-add, mul-one}
use native.Mathlib.Omega.{arith}
use lib.Dec.{eqb, eqb→eq}
use lib.Pow.{shr-shr, field, mod-mod-pow, low}
use Rattle.laws.proofs.Every.{below}

-- a word that loses b bits each turn
pub shifted : (n b i : ℕ) → n / 2 ^ (b * i) / 2 ^ b ≡ n / 2 ^ (b * (i + 1))
shifted n b i = shr-shr n (b * i) b ∙ ap (λ (m : ℕ). n / 2 ^ m) (sym (mul-add b i 1 ∙ ap (λ (m : ℕ). b * i + m) (mul-one b)))

-- b bits from bit i on, of the low n bits of a word
pub low_field : (n h l i b : ℕ) → l < 2 ^ n → i + b ≤ n → (h * 2 ^ n + l) / 2 ^ i % 2 ^ b ≡ l / 2 ^ i % 2 ^ b
low_field n h l i b p q =
    let w = h * 2 ^ n + l in
    let s : n - i ≡ (n - i - b) + b = omega arith in
    let t : (n - i) + i ≡ n = omega arith in
    sym (mod-mod-pow (w / 2 ^ i) (n - i - b) b)
    ∙ ap (λ (m : ℕ). w / 2 ^ i % 2 ^ m % 2 ^ b) (sym s)
    ∙ ap (λ (m : ℕ). m % 2 ^ b) (sym (field w (n - i) i))
    ∙ ap (λ (m : ℕ). w % 2 ^ m / 2 ^ i % 2 ^ b) t
    ∙ ap (λ (m : ℕ). m / 2 ^ i % 2 ^ b) (low h n p)

-- rows and columns changed about: twice is nothing
abbrev pub place : ℕ → ℕ
place k = 4 * (k % 4) + k / 4

pub place_only : (i k : ℕ) → k < 16 → place k ≡ i → k ≡ place i
place_only i k h e = sym (eqb→eq _ _ (below (λ k. eqb (place (place k)) k) 16 tt k h)) ∙ ap place e
