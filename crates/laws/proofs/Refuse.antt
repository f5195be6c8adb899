-- When a read is refused, and when it is not.
-- Assumes nothing.
use mathlib.Core.Path.{◌≡◌, refl}
use mathlib.Core.Bool.{Bool, true, false, ◌||◌, true≢false}
use mathlib.Core.List.{List}
use Prim.Native.Nat.{ℕ, ◌+◌, ◌*◌, ◌<◌, ◌≤◌}
use lib.Dec.{ltb}
use lib.ListN.{length}
use borrow.Author.Tests.{lt-ltb, le-ltb, ltb-false}
use Rattle.rules.specs.Bits.{refuses}

or-true : (a : Bool) → (a || true) ≡ true
or-true true = refl
or-true false = refl

or-false : (a b : Bool) → (a || b) ≡ false → (a ≡ false) × (b ≡ false)
or-false true b e = absurd (true≢false e)
or-false false b e = (refl, e)

module _ (d : List ℕ) (p n : ℕ) where
  pub too_wide : 8 < n → refuses d p n ≡ true
  unfolding refuses
  too_wide h = rw (lt-ltb 8 n h)

  pub past : length d * 8 < p + n → refuses d p n ≡ true
  unfolding refuses
  past h = rw (lt-ltb (length d * 8) (p + n) h) (or-true (ltb 8 n))

  pub too_far : 18446744073709551615 < p + n → refuses d p n ≡ true
  unfolding refuses
  too_far h = rw (lt-ltb 18446744073709551615 (p + n) h) (rw (or-true (ltb (length d * 8) (p + n))) (or-true (ltb 8 n)))

  pub within : n ≤ 8 → p + n ≤ length d * 8 → p + n ≤ 18446744073709551615 → refuses d p n ≡ false
  unfolding refuses
  within h i j = rw (le-ltb 8 n h, le-ltb (length d * 8) (p + n) i, le-ltb 18446744073709551615 (p + n) j)

  -- and what a read that is not refused knows
  pub allowed : refuses d p n ≡ false → (n ≤ 8) × (p + n ≤ length d * 8) × (p + n ≤ 18446744073709551615)
  unfolding refuses
  allowed e =
      let s = or-false (ltb 8 n) _ e in
      let t = or-false (ltb (length d * 8) (p + n)) _ s.1 in
      (ltb-false 8 n s.0, ltb-false (length d * 8) (p + n) t.0, ltb-false 18446744073709551615 (p + n) t.1)
