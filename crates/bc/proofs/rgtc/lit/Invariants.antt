-- The invariant of the loop of `bc::rgtc::lit`.
use Prim.Native.Nat.{◌+◌, ◌*◌, min}
use lib.ListN.{get_or}
use Rattle.laws.proofs.Filling.{Filling, in_order_lem}
use Rattle.bc.proofs.rgtc.lit.Given as goal

abbrev pub invariant-loop-i : goal.invariant-loop-i
invariant-loop-i l =
    Filling in_order_lem (λ k. min (get_or l.a k 0) l.top * l.unit + l.rest) 0 8 l.i l.out
