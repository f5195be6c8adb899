-- The invariant of the loop of `bake::codes::best_code`.
use Rattle.rules.specs.Baking.{cost_for}
use Rattle.bake.specs.baking.Chosen.{Chosen}
use Rattle.bake.proofs.codes.best_code.Given as goal

abbrev pub invariant-loop-c : goal.invariant-loop-c
invariant-loop-c l = Chosen (cost_for l.base l.tile.flip l.tile.pixels.now l.h) l.c l.b.at l.b.value
