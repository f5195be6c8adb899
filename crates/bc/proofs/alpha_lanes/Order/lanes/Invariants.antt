-- The invariant of the loop of `bc::alpha_lanes::Order::lanes`.
use Prim.Native.Nat.{◌%◌}
use Rattle.laws.proofs.Filling.{Filling, in_order_lem}
use Rattle.bc.specs.alpha_lanes.Lanes.{alpha_lane_lem}
use Rattle.bc.proofs.alpha_lanes.Order.lanes.Given as goal

abbrev pub invariant-loop-i : goal.invariant-loop-i
invariant-loop-i l =
    Filling in_order_lem (λ k. alpha_lane_lem l.self.a l.self.b l.self.c l.self.d l.self.m l.self.g (k % 8)) 0 16 l.i l.out
