-- The invariant of the loop of `etc_colour::shade::four_colours`.
use Rattle.std.proofs.Common.{[], get_or, pos}
use Rattle.laws.proofs.Filling.{Filling, in_order_lem}
use Rattle.etc_colour.specs.shade.Tone.{toned}
use Rattle.etc_colour.proofs.shade.four_colours.Given as goal

abbrev pub invariant-loop-i : goal.invariant-loop-i
invariant-loop-i l = Filling in_order_lem (λ k. toned l.opaque k (get_or l.bases k []) (get_or l.steps k (pos 0))) 0 4 l.i l.colours
