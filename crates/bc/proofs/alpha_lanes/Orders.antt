-- The lanes of the alphas are the alphas, in either order.
-- Assumes nothing.
use mathlib.Core.Path.{◌≡◌, ◌∙◌}
use mathlib.Core.Bool.{Bool, true, false, cond}
use Prim.Native.Nat.{ℕ, zero, suc, ◌+◌, ◌*◌, ◌/◌, ◌%◌, ◌<◌, ◌≤◌}
use native.Mathlib.Omega.{arith}
use lib.ListN.{get_or}
use Rattle.rules.specs.Notation.{build}
use Rattle.rules.specs.Desktop.{alphas}
use Rattle.laws.proofs.Filled.{get_or_build}
use Rattle.bc.proofs.bc1.Colours.{sums}
use Rattle.bc.proofs.alphas.Shares.{shared}
use Rattle.bc.specs.alpha_lanes.Lanes.{alpha_lane_lem}

-- the lanes of one order
abbrev pub lanes : Bool → ℕ → ℕ → ℕ → ℕ
lanes s a b k = alpha_lane_lem a b (cond s a 0) (cond s b 0) (cond s 9363 13108) (cond s 0 255) (k % 8)

fits : (n : ℕ) → n < 65536 → n % 65536 ≡ n
fits n h = omega arith

few : (s : Bool) (t e : ℕ) → t ≤ 1785 → e ≤ 255 → cond s (t / 7) (t / 5) + e < 65536
few true t e h i = omega arith
few false t e h i = omega arith

-- a sum of four products, divided
made : (s : Bool) (m n m' n' e : ℕ) → m + n + (m' + n') ≤ 1785 → e ≤ 255
    → (((m % 65536 + n % 65536) % 65536 + (m' % 65536 + n' % 65536) % 65536) % 65536 * cond s 9363 13108 / 65536 + e) % 65536
    ≡ cond s ((m + n + (m' + n')) / 7) ((m + n + (m' + n')) / 5) + e
made s m n m' n' e h i =
    rw (sums m n (omega arith), sums m' n' (omega arith), fits (m + n + (m' + n')) (omega arith), (shared s (m + n + (m' + n')) h).1)
    (fits (cond s ((m + n + (m' + n')) / 7) ((m + n + (m' + n')) / 5) + e) (few s (m + n + (m' + n')) e h i))

one : (s : Bool) (a b : ℕ) → a < 256 → b < 256 → (k : ℕ) → k < 8 → lanes s a b k ≡ get_or (alphas s a b) k 0
unfolding alpha_lane_lem
one true a b p q zero h = made true (a * 5) (b * 0) (a * 2) (b * 0) 0 (omega arith) (omega arith) ∙ omega arith
one true a b p q (suc zero) h = made true (a * 0) (b * 5) (a * 0) (b * 2) 0 (omega arith) (omega arith) ∙ omega arith
one true a b p q (suc (suc zero)) h = made true (a * 4) (b * 1) (a * 2) (b * 0) 0 (omega arith) (omega arith) ∙ omega arith
one true a b p q (suc (suc (suc zero))) h = made true (a * 3) (b * 2) (a * 2) (b * 0) 0 (omega arith) (omega arith) ∙ omega arith
one true a b p q (suc (suc (suc (suc zero)))) h = made true (a * 2) (b * 3) (a * 2) (b * 0) 0 (omega arith) (omega arith) ∙ omega arith
one true a b p q (suc (suc (suc (suc (suc zero))))) h = made true (a * 1) (b * 4) (a * 2) (b * 0) 0 (omega arith) (omega arith) ∙ omega arith
one true a b p q (suc (suc (suc (suc (suc (suc zero)))))) h = made true (a * 0) (b * 0) (a * 2) (b * 5) 0 (omega arith) (omega arith) ∙ omega arith
one true a b p q (suc (suc (suc (suc (suc (suc (suc zero))))))) h = made true (a * 0) (b * 0) (a * 1) (b * 6) 0 (omega arith) (omega arith) ∙ omega arith
one true a b p q (suc (suc (suc (suc (suc (suc (suc (suc k)))))))) h = absurd (omega arith)
one false a b p q zero h = made false (a * 5) (b * 0) (0 * 2) (0 * 0) 0 (omega arith) (omega arith) ∙ omega arith
one false a b p q (suc zero) h = made false (a * 0) (b * 5) (0 * 0) (0 * 2) 0 (omega arith) (omega arith) ∙ omega arith
one false a b p q (suc (suc zero)) h = made false (a * 4) (b * 1) (0 * 2) (0 * 0) 0 (omega arith) (omega arith) ∙ omega arith
one false a b p q (suc (suc (suc zero))) h = made false (a * 3) (b * 2) (0 * 2) (0 * 0) 0 (omega arith) (omega arith) ∙ omega arith
one false a b p q (suc (suc (suc (suc zero)))) h = made false (a * 2) (b * 3) (0 * 2) (0 * 0) 0 (omega arith) (omega arith) ∙ omega arith
one false a b p q (suc (suc (suc (suc (suc zero))))) h = made false (a * 1) (b * 4) (0 * 2) (0 * 0) 0 (omega arith) (omega arith) ∙ omega arith
one false a b p q (suc (suc (suc (suc (suc (suc zero)))))) h = made false (a * 0) (b * 0) (0 * 2) (0 * 5) 0 (omega arith) (omega arith) ∙ omega arith
one false a b p q (suc (suc (suc (suc (suc (suc (suc zero))))))) h = made false (a * 0) (b * 0) (0 * 1) (0 * 6) 255 (omega arith) (omega arith) ∙ omega arith
one false a b p q (suc (suc (suc (suc (suc (suc (suc (suc k)))))))) h = absurd (omega arith)

pub in_order : (s : Bool) (a b : ℕ) → a < 256 → b < 256 → (k : ℕ) → k < 8 → get_or (build 16 (lanes s a b)) k 0 ≡ get_or (alphas s a b) k 0
in_order s a b p q k h = get_or_build (lanes s a b) 0 16 k (omega arith) ∙ one s a b p q k h
