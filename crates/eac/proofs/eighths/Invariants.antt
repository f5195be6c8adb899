-- The invariant of the loop of `eac::eighths`.
use Rattle.std.proofs.Common.{◌/◌, get_or, pos, ◌+ℤ◌, nat_abs}
use Rattle.laws.proofs.Filling.{Filling, in_order_lem}
use Rattle.eac.proofs.eighths.Given as goal

abbrev pub invariant-loop-i : goal.invariant-loop-i
invariant-loop-i l = Filling in_order_lem (λ j. pos (nat_abs (pos l.up +ℤ get_or l.wholes j (pos 0)) / 8)) (pos 0) 8 l.i l.eight
