-- The invariant of the loop of `etc_colour::planar::planar_block`.
use Rattle.std.proofs.Common.{◌/◌, ◌%◌}
use Rattle.rules.specs.Modes.{planar_pixel_lem, planar_bases_lem}
use Rattle.laws.proofs.Filling.{Filling, in_order_lem}
use Rattle.etc_colour.proofs.planar.planar_block.Given as goal

abbrev pub invariant-loop-i : goal.invariant-loop-i
invariant-loop-i l = Filling in_order_lem (λ k. planar_pixel_lem (planar_bases_lem l.d) (k % 4) (k / 4)) 0 16 l.i l.out
