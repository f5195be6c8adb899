-- The invariant of the loop of `pixel::fill::first_sixteen`.
use lib.ListN.{get_or}
use Rattle.laws.proofs.Filling.{Filling, in_order_lem}
use Rattle.pixel.proofs.fill.first_sixteen.Given as goal

abbrev pub invariant-loop-i : goal.invariant-loop-i
invariant-loop-i l = Filling in_order_lem (λ k. get_or l.image k 0) 0 16 l.i l.first
