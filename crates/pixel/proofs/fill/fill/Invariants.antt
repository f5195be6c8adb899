-- The invariant of the loop of `pixel::fill::fill`.
use Prim.Native.Nat.{◌+◌}
use lib.ListN.{get_or}
use Rattle.pixel.proofs.fill.Part.{BegunOver}
use Rattle.pixel.proofs.fill.fill.Given as goal

abbrev pub invariant-loop-k : goal.invariant-loop-k
invariant-loop-k g l = (z : _) → BegunOver z (λ k. get_or l.tile (l.from + k) z) l.initial.part l.part l.k
