-- The invariant of the loop of `eac::red_green`.
use Rattle.std.proofs.Common.{get_or}
use Rattle.rules.specs.Pixel.{word}
use Rattle.laws.proofs.Filling.{Filling, in_order_lem}
use Rattle.eac.proofs.red_green.Given as goal

abbrev pub invariant-loop-i : goal.invariant-loop-i
invariant-loop-i l = Filling in_order_lem (λ k. word 255 (get_or l.red k 0) (get_or l.green k 0) 0) 0 16 l.i l.out
