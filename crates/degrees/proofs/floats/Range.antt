-- The range of the rules, by the two comparisons that code makes: both hold exactly at the numbers that lie in -n to n, at no NaN
-- and at no infinity.
-- Assumes nothing.
use mathlib.Core.Path.{◌≡◌, refl, sym, ◌∙◌, ap}
use mathlib.Core.Bool.{Bool, true, false, ◌&&◌, ◌||◌}
use Prim.Native.Nat.{ℕ, ◌+◌, ◌*◌, ◌^◌, ◌<◌, ◌≤◌}
use native.Mathlib.Nat.{mul-one, mul-pos, le_of_lt}
use native.Mathlib.Omega.{arith}
use borrow.Author.Tests.{lt-ltb, le-leb, lt-leb, eq-eqb, ne_eqb, ltb-true, ltb-false, eqb-true, eqb-false}
use lib.Dec.{leb, ltb, eqb}
use lib.IntN.{ℤ, pos}
use lib.Ieee.{Float, nan, inf, fin, up, down, neg, le}
use lib.Ieee.Fits.{down_pos}
use Rattle.rules.specs.Floats.{within}

-- less or equal is at most, whichever way round the equality is tested
pub at_most : (a b : ℕ) (q : Bool) → (a ≡ b → q ≡ true) → ((a ≡ b → ⊥) → q ≡ false) → (ltb a b || q) ≡ leb a b
at_most a b q y n = go (ltb a b) refl (eqb a b) refl
  where
    go : (u : Bool) → ltb a b ≡ u → (v : Bool) → eqb a b ≡ v → (ltb a b || q) ≡ leb a b
    go true h v k =
        let l : a ≤ b = le_of_lt (ltb-true a b h) in
        rw (h, le-leb a b l)
    go false h true k =
        let l : a ≤ b = omega (arith, eqb-true a b k) in
        rw (h, y (eqb-true a b k), le-leb a b l)
    go false h false k =
        let l : b < a = omega (arith, ltb-false a b h, eqb-false a b k) in
        rw (h, n (eqb-false a b k), lt-leb a b l)

-- two comparisons of which one holds say what the other says
right : (x y l : Bool) → x ≡ l → y ≡ true → (x && y) ≡ l
right true y l p q = q ∙ p
right false y l p q = p

left : (x y l : Bool) → x ≡ true → y ≡ l → (x && y) ≡ l
left x y l p q = rw p q

-- the limit n is the float m * 2 ^ k, and the number is a * 2 ^ d, of either sign
module _ (n m k : ℕ) (some : 0 < n) (is : m * 2 ^ k ≡ n) (a : ℕ) (d : ℤ) where
  limit : m * 2 ^ k * down d ≡ n * down d
  limit = ap (λ (z : ℕ). z * down d) is

  above : 0 < m * 2 ^ k * down d
  above = rw limit (mul-pos some (down_pos d))

  -- a number is never beyond the limit of the other sign
  holds : (s : ℕ) (q : Bool) → m * 2 ^ k * down d ≤ s → (ltb 0 s || q) ≡ true
  holds s q h = let l : 0 < s = omega (arith, above) in rw (lt-ltb 0 s l)

  one_side :
      (q : Bool)
      → (a * up d * 1 ≡ m * 2 ^ k * down d → q ≡ true)
      → ((a * up d * 1 ≡ m * 2 ^ k * down d → ⊥) → q ≡ false)
      → (ltb (a * up d * 1) (m * 2 ^ k * down d) || q) ≡ leb (a * up d) (n * down d)
  one_side q y z = at_most (a * up d * 1) (m * 2 ^ k * down d) q y z ∙ rw (limit, mul-one (a * up d))

  negative : (le (fin true m (pos k)) (fin true a d) && le (fin true a d) (fin false m (pos k))) ≡ leb (a * up d) (n * down d)
  unfolding le
  negative =
      let x = a * up d * 1 in
      let l = m * 2 ^ k * down d in
      right _ _ _ (one_side (eqb l x && true) (λ h. rw (eq-eqb l x (sym h))) (λ h. rw (ne_eqb l x (λ e. h (sym e)))))
      (holds (x + l) _ (omega arith))

  positive : (le (fin true m (pos k)) (fin false a d) && le (fin false a d) (fin false m (pos k))) ≡ leb (a * up d) (n * down d)
  unfolding le
  positive =
      let x = a * up d * 1 in
      let l = m * 2 ^ k * down d in
      left _ _ _ (holds (l + x) _ (omega arith))
      (one_side (eqb x l && true) (λ h. rw (eq-eqb x l h)) (λ h. rw (ne_eqb x l h)))

pub spans : (n m k : ℕ) → 0 < n → m * 2 ^ k ≡ n → (x : Float) → (le (neg (fin false m (pos k))) x && le x (fin false m (pos k))) ≡ within n x
unfolding le neg
spans n m k h e nan = refl
spans n m k h e (inf true) = refl
spans n m k h e (inf false) = refl
spans n m k h e (fin true a d) = negative n m k h e a d
spans n m k h e (fin false a d) = positive n m k h e a d
