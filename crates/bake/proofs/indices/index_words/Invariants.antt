-- The invariant of the loop of `bake::indices::index_words`.
use mathlib.Core.List.{[]}
use lib.ListN.{get_or}
use Rattle.bake.specs.indices.Index.{index_by}
use Rattle.bake.proofs.indices.Spelling.{Spelt}
use Rattle.bake.proofs.indices.index_words.Given as goal

abbrev pub invariant-loop-i : goal.invariant-loop-i
invariant-loop-i l = Spelt (index_by (get_or l.halves 0 []) (get_or l.halves 1 []) l.tile.flip l.tile.pixels.now) l.i l.high l.low
