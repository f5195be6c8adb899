-- The invariant of the loop of `eac::narrowed`.
use Rattle.std.proofs.Common.{get_or, pos}
use Rattle.rules.specs.Whole.{sixteen}
use Rattle.laws.proofs.Filling.{Filling, in_order_lem}
use Rattle.eac.proofs.narrowed.Given as goal

abbrev pub invariant-loop-i : goal.invariant-loop-i
invariant-loop-i l = Filling in_order_lem (λ k. sixteen (get_or l.whole k (pos 0))) 0 16 l.i l.out
