-- The invariant of the loop of `whole::pairs`.
use mathlib.Core.List.{[]}
use Prim.Native.Nat.{◌+◌, ◌*◌, ◌/◌, ◌%◌}
use lib.ListN.{get_or}
use Rattle.laws.proofs.Filling.{Filling, in_order_lem}
use Rattle.whole.proofs.pairs.Given as goal

abbrev pub invariant-loop-i : goal.invariant-loop-i
invariant-loop-i l = Filling in_order_lem (λ k. get_or (get_or l.both (k % 2) []) (k / 4 * 4 + l.side * 2 + k % 4 / 2) 0) 0 16 l.i l.out
