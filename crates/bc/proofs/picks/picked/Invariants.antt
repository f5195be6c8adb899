-- The invariant of the loop of `bc::picks::picked`.
use mathlib.Core.Path.{◌≡◌}
use Prim.Native.Nat.{◌/◌, ◌%◌, ◌^◌}
use lib.ListN.{get_or}
use Rattle.laws.proofs.Filling.{Filling, in_order_lem}
use Rattle.bc.proofs.picks.picked.Given as goal

abbrev pub invariant-loop-i : goal.invariant-loop-i
invariant-loop-i g s =
    (s.l ≡ s.w / g.row.N ^ s.i) × Filling in_order_lem (λ k. get_or s.set (s.w / g.row.N ^ k % g.row.N) 0) 0 16 s.i s.out
