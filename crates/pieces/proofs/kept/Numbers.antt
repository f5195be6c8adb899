-- Bytes and blocks: from G bytes to L, in blocks of s, of which there are B.
-- Assumes nothing.
use mathlib.Core.Path.{◌≡◌, ◌∙◌, ap}
use Prim.Native.Nat.{ℕ, suc, ◌+◌, ◌-◌, ◌*◌, ◌/◌, ◌%◌, ◌<◌, ◌≤◌}
use native.Mathlib.Omega.{arith}
use native.Mathlib.Nat.{div-add-mod', div-mul-le_self, le-div_iff_mul-le, mul_comm, mul-sub, mul-le-mul_right, suc-mul}

-- a difference of products
pub sub_times : (a b s : ℕ) → (a - b) * s ≡ a * s - b * s
sub_times a b s = mul_comm (a - b) s ∙ mul-sub s a b ∙ ap (λ (x : ℕ). x - s * b) (mul_comm s a) ∙ ap (λ (x : ℕ). a * s - x) (mul_comm s b)

module _ (s B G L : ℕ) (some : 0 < s) (up : G ≤ L) (top : L ≤ B * s) where
  pub blocks_up : G / s ≤ L / s
  blocks_up = (le-div_iff_mul-le some).1 (omega (arith, div-mul-le_self G s))

  -- the bytes that are at hand go to the new blocks, and the rest is kept
  pub shared : (L / s - G / s) * s + L % s ≡ G % s + (L - G)
  shared =
      let a : L / s * s + L % s ≡ L = div-add-mod' L s in
      let b : G / s * s + G % s ≡ G = div-add-mod' G s in
      let c : G / s * s ≤ L / s * s = mul-le-mul_right s blocks_up in
      let d : (L / s - G / s) * s ≡ L / s * s - G / s * s = sub_times (L / s) (G / s) s in
      omega arith

-- a run of blocks is its first and those after it
pub peel : (first last s : ℕ) → first < last → (last - first) * s ≡ (last - (first + 1)) * s + s
peel first last s h = let e : last - first ≡ suc (last - (first + 1)) = omega arith in ap (λ (x : ℕ). x * s) e ∙ suc-mul (last - (first + 1)) s
