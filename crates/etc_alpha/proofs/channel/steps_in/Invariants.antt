-- The invariant of the loop of `etc_alpha::channel::steps_in`.
use mathlib.Core.List.{[]}
use lib.IntN.{pos}
use lib.ListN.{get_or}
use Rattle.rules.specs.Channels.{alpha_steps_lem}
use Rattle.laws.proofs.Filling.{Filling, in_order_lem}
use Rattle.etc_alpha.proofs.channel.steps_in.Given as goal

abbrev pub invariant-loop-i : goal.invariant-loop-i
invariant-loop-i l = Filling in_order_lem (λ j. get_or (get_or alpha_steps_lem l.row []) j (pos 0)) (pos 0) 8 l.i l.out
