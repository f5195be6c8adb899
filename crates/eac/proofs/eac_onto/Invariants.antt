-- The invariant of the loop of `eac::eac_onto`.
use Rattle.std.proofs.Common.{get_or}
use Rattle.rules.specs.Channels.{or_channel}
use Rattle.laws.proofs.Filling.{Filling, in_order_lem}
use Rattle.eac.proofs.Bytes.{byte_at}
use Rattle.eac.proofs.eac_onto.Given as goal

abbrev pub invariant-loop-i : goal.invariant-loop-i
invariant-loop-i l =
    Filling in_order_lem (λ k. or_channel l.channel (get_or l.px k 0) (byte_at l.signed l.d k)) 0 16 l.i l.out
