-- The invariant of the loop of `etc_colour::shade::numbers`.
use Rattle.laws.proofs.Filling.{Filling, in_order_lem}
use Rattle.etc_colour.specs.shade.Pick.{number_at}
use Rattle.etc_colour.proofs.shade.numbers.Given as goal

abbrev pub invariant-loop-k : goal.invariant-loop-k
invariant-loop-k l = Filling in_order_lem (number_at l.d) 0 16 l.k l.out
