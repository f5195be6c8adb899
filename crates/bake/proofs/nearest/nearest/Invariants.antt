-- The invariant of the loop of `bake::nearest::nearest`.
use Rattle.bake.specs.baking.Chosen.{Chosen}
use Rattle.bake.specs.nearest.Search.{away}
use Rattle.bake.proofs.nearest.nearest.Given as goal

abbrev pub invariant-loop-i : goal.invariant-loop-i
invariant-loop-i l = Chosen (away l.colours l.v) l.i l.b.at l.b.value
