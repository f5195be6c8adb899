-- `census::tally::tally` meets its contract. The loop has counted the blocks before b.
use mathlib.Core.Path.{◌≡◌, refl}
use mathlib.Core.Bool.{Bool, true, false}
use mathlib.Core.List.{List, [], ◌∷◌}
use Prim.Native.Nat.{ℕ, ◌+◌, ◌-◌, ◌*◌, ◌≤◌}
use native.Mathlib.Omega.{arith}
use lib.ListN.{get_or, set, take, drop}
use Rattle.rules.specs.Places.{bytes_of}
use Rattle.laws.proofs.Parts.{part}
use Rattle.rules.specs.Census.{count_of}
use Rattle.laws.specs.Sorted.{met, only, eight}
use Rattle.census.proofs.tally.Grown.{one_more, within}
use Rattle.census.proofs.tally.tally.Invariants.{before}
use Rattle.census.proofs.tally.tally.Goals as goal

-- Assumes nothing.

module _ (split : Bool) (d : List ℕ) where
  -- one more block
  goes_on : (l : List ℕ) (b k : ℕ) → l ≡ before split d b → only (met (eight split) (take (b * 8 + 8 - b * 8) (drop (b * 8) d))) k ≡ true → set l k (get_or l k 0 + 1) ≡ before split d (b + 1)
  goes_on l b k e h = rw e (one_more (eight split) (bytes_of 8 d) b k (rw (part 8 b d) at h))

started : (split : Bool) (d : List ℕ) → 0 ∷ 0 ∷ 0 ∷ 0 ∷ 0 ∷ 0 ∷ 0 ∷ 0 ∷ [] ≡ before split d 0
unfolding count_of
started true d = refl
started false d = refl

pub loop-b-init : goal.loop-b-init
loop-b-init c = started c.args.split c.args.«data».now

pub overflow_add-tally : goal.overflow_add-tally
overflow_add-tally c =
    let a = c.args in
    let k = c.place_of-place.result in
    let e : get_or c.loop-b.tally k 0 ≤ c.loop-b.b = rw c.loop-b.invariant (within (eight a.split) (bytes_of 8 a.«data».now) c.loop-b.b k) in
    omega arith

pub loop-b-preserved : goal.loop-b-preserved
loop-b-preserved c =
    let a = c.args in
    goes_on a.split a.«data».now c.loop-b.tally c.loop-b.b c.place_of-place.result c.loop-b.invariant c.place_of-place.ensures.0
