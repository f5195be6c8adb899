-- The invariant of the loop of `bc7::bptc::weigh`.
use mathlib.Core.List.{List}
use Prim.Native.Nat.{ℕ}
use lib.ListN.{get_or}
use Rattle.rules.specs.Bptc.{weights_of}
use Rattle.laws.proofs.Filling.{Filling, in_order_lem}
use Rattle.bc7.proofs.bptc.weigh.Given as goal

abbrev pub weight_by : ℕ → List ℕ → ℕ → ℕ
weight_by n indices i = get_or (weights_of n) (get_or indices i 0) 0

abbrev pub invariant-loop-i : goal.invariant-loop-i
invariant-loop-i l = Filling in_order_lem (weight_by l.n l.indices) 0 16 l.i l.out
