-- The invariant of the loop of `blocks::block::run_blocks`.
use Rattle.rules.specs.Pixel.{Shows}
use Rattle.rules.specs.Places.{tile}
use mathlib.Core.Path.{◌≡◌}
use Prim.Native.Nat.{◌≤◌}
use lib.ListN.{length}
use Rattle.blocks.proofs.Beside.{Turned}
use Rattle.blocks.proofs.block.run_blocks.Given as goal

abbrev pub invariant-loop-i : goal.invariant-loop-i
invariant-loop-i g l =
    (shows : Shows) → ((d : _) (px : _) → l.size ≤ length d.now → goal.F-post g l.pixels d px → px ≡ tile shows d.now)
    → Turned shows l.size l.«data» l.at.pic l.at.bx l.at.by l.n l.initial.image l.image l.i
