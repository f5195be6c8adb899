-- The invariant of the loop of `bc::bc3::tops`.
use Prim.Native.Nat.{◌*◌, ◌%◌}
use lib.ListN.{get_or}
use Rattle.laws.proofs.Filling.{Filling, in_order_lem}
use Rattle.bc.proofs.bc3.tops.Given as goal

abbrev pub invariant-loop-i : goal.invariant-loop-i
invariant-loop-i l =
    Filling in_order_lem (λ k. get_or l.a k 0 % 256 * 0x1000000) 0 8 l.i l.out
