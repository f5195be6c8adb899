-- Over the whole tables, each by one computed test: every pixel's subset exists, pixel 0 is in subset 0, and each anchor lies in its own subset.
-- Assumes nothing.
use mathlib.Core.Path.{◌≡◌}
use mathlib.Core.Bool.{Bool}
use mathlib.Core.List.{[]}
use Prim.Native.Nat.{ℕ, suc, ◌<◌}
use lib.Dec.{T, ltb, eqb, eqb→eq, ltb→lt}
use Rattle.rules.specs.Bptc.{two, three, anchor_of_two, anchor_of_three1, anchor_of_three2, subset, anchor}
use Rattle.rules.specs.Bc7.{mode_table, mode_at, end_place}
use Rattle.laws.proofs.Every.{both, both_left, both_right, every, below}

-- a test at each number of subsets 1 to 3, each of the 64 partitions and each of k more numbers
abbrev overall : (ℕ → ℕ → ℕ → Bool) → (ℕ → ℕ) → Bool
overall f k = every (λ m. every (λ p. every (f (suc m) p) (k m)) 64) 3

at_each : (f : ℕ → ℕ → ℕ → Bool) (k : ℕ → ℕ) → T (overall f k) → (m p i : ℕ) → m < 3 → p < 64 → i < k m → T (f (suc m) p i)
at_each f k t m p i h j l = below (f (suc m) p) (k m) (below (λ p. every (f (suc m) p) (k m)) 64 (below (λ m. every (λ p. every (f (suc m) p) (k m)) 64) 3 t m h) p j) i l

exists_test : ℕ → ℕ → ℕ → Bool
exists_test n p i = ltb (subset n p i) n

pub subset_exists : (m p i : ℕ) → m < 3 → p < 64 → i < 16 → subset (suc m) p i < suc m
unfolding subset two three exists_test
subset_exists m p i h j l = ltb→lt _ _ (at_each exists_test (λ _. 16) tt m p i h j l)

own_test : ℕ → ℕ → ℕ → Bool
own_test n p s = both (eqb (subset n p (anchor n p s)) s) (ltb (anchor n p s) 16)

pub anchor_own : (m p s : ℕ) → m < 3 → p < 64 → s < suc m → subset (suc m) p (anchor (suc m) p s) ≡ s
unfolding subset two three anchor anchor_of_two anchor_of_three1 anchor_of_three2 own_test
anchor_own m p s h j l = eqb→eq _ _ (both_left (eqb (subset (suc m) p (anchor (suc m) p s)) s) (ltb (anchor (suc m) p s) 16) (at_each own_test suc tt m p s h j l))

pub anchor_below : (m p s : ℕ) → m < 3 → p < 64 → s < suc m → anchor (suc m) p s < 16
unfolding subset two three anchor anchor_of_two anchor_of_three1 anchor_of_three2 own_test
anchor_below m p s h j l = ltb→lt _ _ (both_right (eqb (subset (suc m) p (anchor (suc m) p s)) s) (ltb (anchor (suc m) p s) 16) (at_each own_test suc tt m p s h j l))

first-test : ℕ → ℕ → ℕ → Bool
first-test n p i = eqb (subset n p 0) 0

pub first_pixel : (m p : ℕ) → m < 3 → p < 64 → subset (suc m) p 0 ≡ 0
unfolding subset two three first-test
first_pixel m p h j = eqb→eq _ _ (at_each first-test (λ _. 1) tt m p 0 h j (lib.Dec.lit< tt))

-- each mode's fields fill 128 bits
filled_test : ℕ → Bool
filled_test m = eqb (end_place m (mode_at m)) 128

pub fields_fill : (m : ℕ) → m < 8 → end_place m (mode_at m) ≡ 128
unfolding mode_table filled_test
fields_fill m h = eqb→eq _ _ (below filled_test 8 tt m h)
