-- The invariant of the loop of `bc::bc3::alpha_onto`.
use mathlib.Core.Path.{◌≡◌}
use Prim.Native.Nat.{◌*◌, ◌/◌, ◌%◌, ◌^◌}
use lib.ListN.{get_or}
use Rattle.laws.proofs.Filling.{Filling, in_order_lem}
use Rattle.rules.specs.Desktop.{bc3_alpha, replaced}
use Rattle.bc.proofs.bc3.alpha_onto.Given as goal

abbrev pub invariant-loop-i : goal.invariant-loop-i
invariant-loop-i s =
    (s.l ≡ s.initial.l / 2 ^ (3 * s.i)) × Filling in_order_lem (λ k. replaced s.channel (get_or s.px k 0) (bc3_alpha s.d (k % 4) (k / 4))) 0 16 s.i s.out
