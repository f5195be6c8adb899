-- The invariant of the loop of `pixel::place::place_rows`.
use Rattle.pixel.proofs.place.Tile.{Turned}
use Rattle.pixel.proofs.place.place_rows.Given as goal

abbrev pub invariant-loop-i : goal.invariant-loop-i
invariant-loop-i g l = Turned l.pic l.bx l.by l.m l.tile l.initial.image l.image l.i
