-- The invariant of the loop of `bc::picks::both`.
use mathlib.Core.Path.{◌≡◌}
use Prim.Native.Nat.{◌+◌, ◌/◌, ◌%◌, ◌^◌}
use lib.ListN.{get_or}
use Rattle.laws.proofs.Filling.{Filling, in_order_lem}
use Rattle.bc.proofs.picks.both.Given as goal

abbrev pub invariant-loop-i : goal.invariant-loop-i
invariant-loop-i g s =
    (s.l ≡ s.a / g.row.M ^ s.i) × (s.m ≡ s.b / g.row.N ^ s.i)
    × Filling in_order_lem (λ k. get_or s.tops (s.a / g.row.M ^ k % g.row.M) 0 + get_or s.rest (s.b / g.row.N ^ k % g.row.N) 0) 0 16 s.i s.out
