-- The invariant of the loop of `bc::bc1::hues`.
use Prim.Native.Nat.{◌%◌}
use lib.ListN.{get_or}
use Rattle.laws.proofs.Filling.{Filling, in_order_lem}
use Rattle.bc.proofs.bc1.hues.Given as goal

abbrev pub invariant-loop-i : goal.invariant-loop-i
invariant-loop-i l =
    Filling in_order_lem (λ k. get_or l.c k 0 % 0x1000000) 0 4 l.i l.out
