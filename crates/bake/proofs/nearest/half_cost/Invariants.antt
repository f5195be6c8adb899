-- The invariant of the loop of `bake::nearest::half_cost`.
use mathlib.Core.Path.{◌≡◌}
use Prim.Native.Nat.{◌*◌, ◌≤◌}
use Rattle.rules.specs.Counting.{sum_of}
use Rattle.bake.specs.nearest.Search.{part_of}
use Rattle.bake.proofs.nearest.half_cost.Given as goal

abbrev pub invariant-loop-j : goal.invariant-loop-j
invariant-loop-j l = (l.sum ≡ sum_of (part_of l.colours l.tile.flip l.tile.pixels.now l.h) l.j) × (l.sum ≤ 765 * l.j)
