-- The invariant of the loop of `etc_alpha::picks::picked`.
use mathlib.Core.Path.{◌≡◌}
use Prim.Native.Nat.{ℕ, ◌-◌, ◌*◌, ◌/◌, ◌^◌}
use lib.IntN.{pos}
use Rattle.laws.proofs.Filling.{Filling}
use Rattle.laws.proofs.Order.{place}
use Rattle.etc_alpha.specs.picks.Picks.{pick_at}
use Rattle.etc_alpha.proofs.picks.picked.Given as goal

-- the turn of place k
abbrev pub backwards : ℕ → ℕ
backwards k = 15 - place k

abbrev pub invariant-loop-i : goal.invariant-loop-i
invariant-loop-i s = (s.l ≡ s.initial.l / 2 ^ (3 * s.i)) × Filling backwards (pick_at s.d s.eight) (pos 0) 16 s.i s.out
