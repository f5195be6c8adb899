-- The invariant of the loop of `etc_colour::shade::picked`.
use Rattle.laws.proofs.Filling.{Filling, in_order_lem}
use Rattle.etc_colour.specs.shade.Pick.{taken}
use Rattle.etc_colour.proofs.shade.picked.Given as goal

abbrev pub invariant-loop-i : goal.invariant-loop-i
invariant-loop-i l = Filling in_order_lem (taken l.d l.colours) 0 16 l.i l.out
