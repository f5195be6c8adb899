-- The invariant and the measure of the loop of `picture::paint::paint`.
use Prim.Native.Nat.{◌-◌, ◌≤◌}
use Rattle.rules.specs.Places.{bytes_from, pixel_by}
use Rattle.rules.specs.Formats.{size_of, shows_of}
use Rattle.laws.specs.Painted.{Painted}
use Rattle.blocks.specs.Run.{InRun, Stands}
use Rattle.picture.proofs.paint.paint.Given as goal

abbrev pub invariant-loop-b : goal.invariant-loop-b
invariant-loop-b l =
    (l.first ≤ l.b)
    × (l.b ≤ l.last)
    × Stands l.row l.b l.spot.bx l.spot.by
    × Painted (InRun l.pic l.first l.b) (pixel_by (shows_of l.f) (bytes_from (size_of l.f) l.first l.«data») l.pic) l.initial.image l.image

abbrev pub decreases-loop-b : goal.decreases-loop-b
decreases-loop-b l = l.last - l.b
