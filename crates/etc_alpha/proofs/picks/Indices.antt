-- The indices are read off the index word from its low end.
-- Assumes nothing.
use mathlib.Core.Path.{◌≡◌}
use mathlib.Core.List.{List}
use Prim.Native.Nat.{ℕ, ◌+◌, ◌-◌, ◌*◌, ◌/◌, ◌%◌, ◌^◌, ◌<◌}
use native.Mathlib.Omega.{arith}
use lib.IntN.{ℤ, pos}
use lib.ListN.{get_or}
use Rattle.rules.specs.Channels.{index_word_lem}
use Rattle.laws.proofs.Order.{place}
use Rattle.etc_alpha.specs.picks.Picks.{pick_at}

-- what turn i reads of any eight numbers is the pick of pixel 15 - i
pub reads : (d : List ℕ) (eight : List ℤ) (i l : ℕ) → i < 16 → l ≡ index_word_lem d / 2 ^ (3 * i) → get_or eight (l % 8) (pos 0) ≡ pick_at d eight (place (15 - i))
unfolding pick_at
reads d eight i l h e =
    let n : 4 * (place (15 - i) % 4) + place (15 - i) / 4 ≡ 15 - i = omega arith in
    let t : 45 - 3 * (15 - i) ≡ 3 * i = omega arith in
    rw (n, t, e)
