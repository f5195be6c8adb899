-- What a layout says of each pixel: its subset, and whether it is an anchor. A law of packed numbers, at any partition.
-- Assumes nothing.
use mathlib.Core.Path.{◌≡◌}
use Prim.Native.Nat.{ℕ, suc, ◌*◌, ◌/◌, ◌%◌, ◌^◌, ◌<◌}
use lib.Dec.{T, eqb, eqb→eq}
use Rattle.rules.specs.Bptc.{two, three, anchor_of_two, anchor_of_three1, anchor_of_three2, subset, anchor}
use Rattle.rules.specs.Bc7.{is_anchor}
use Rattle.laws.proofs.Every.{both, both_left, both_right, every, below}
use Rattle.bc7.specs.bptc.Layout.{packed, layout_of}
use mathlib.Core.Bool.{Bool}

said : ℕ → ℕ → ℕ → Bool
said m p i = both (eqb (layout_of (suc m) p / 2 ^ (2 * i) % 4) (subset (suc m) p i)) (eqb (layout_of (suc m) p / 4294967296 / 2 ^ i % 2) (is_anchor (suc m) p i))

at_each : (m p i : ℕ) → m < 3 → p < 64 → i < 16 → T (said m p i)
unfolding subset two three anchor anchor_of_two anchor_of_three1 anchor_of_three2 said packed layout_of
at_each m p i h j l = below (said m p) 16 (below (λ p. every (said m p) 16) 64 (below (λ m. every (λ p. every (said m p) 16) 64) 3 tt m h) p j) i l

pub subset_said : (m p i : ℕ) → m < 3 → p < 64 → i < 16 → layout_of (suc m) p / 2 ^ (2 * i) % 4 ≡ subset (suc m) p i
unfolding said
subset_said m p i h j l = eqb→eq _ _ (both_left (eqb (layout_of (suc m) p / 2 ^ (2 * i) % 4) (subset (suc m) p i)) (eqb (layout_of (suc m) p / 4294967296 / 2 ^ i % 2) (is_anchor (suc m) p i))
    (at_each m p i h j l))

pub anchor_said : (m p i : ℕ) → m < 3 → p < 64 → i < 16 → layout_of (suc m) p / 4294967296 / 2 ^ i % 2 ≡ is_anchor (suc m) p i
unfolding said
anchor_said m p i h j l = eqb→eq _ _ (both_right (eqb (layout_of (suc m) p / 2 ^ (2 * i) % 4) (subset (suc m) p i)) (eqb (layout_of (suc m) p / 4294967296 / 2 ^ i % 2) (is_anchor (suc m) p i))
    (at_each m p i h j l))
