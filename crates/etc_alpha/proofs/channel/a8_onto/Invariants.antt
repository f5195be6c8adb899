-- The invariant of the loop of `etc_alpha::channel::a8_onto`.
use Prim.Native.Nat.{◌/◌, ◌%◌}
use lib.ListN.{get_or}
use Rattle.rules.specs.Channels.{alpha_byte, with_alpha}
use Rattle.laws.proofs.Filling.{Filling, in_order_lem}
use Rattle.etc_alpha.proofs.channel.a8_onto.Given as goal

abbrev pub invariant-loop-i : goal.invariant-loop-i
invariant-loop-i l = Filling in_order_lem (λ k. with_alpha (get_or l.px k 0) (alpha_byte l.d (k % 4) (k / 4))) 0 16 l.i l.out
