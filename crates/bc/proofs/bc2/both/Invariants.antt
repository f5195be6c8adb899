-- The invariant of the loop of `bc::bc2::both`.
use mathlib.Core.Path.{◌≡◌}
use Prim.Native.Nat.{◌+◌, ◌*◌, ◌/◌, ◌%◌, ◌^◌}
use lib.ListN.{get_or}
use Rattle.laws.proofs.Filling.{Filling, in_order_lem}
use Rattle.rules.specs.Desktop.{colour_index}
use Rattle.bc.proofs.bc2.both.Given as goal

abbrev pub invariant-loop-i : goal.invariant-loop-i
invariant-loop-i s =
    (s.l ≡ s.initial.l / 2 ^ (4 * s.i)) × (s.m ≡ s.initial.m / 2 ^ (2 * s.i))
    × Filling in_order_lem (λ k. s.a / 2 ^ (4 * k) % 16 * 0x11000000 + get_or s.hues (colour_index s.w k) 0) 0 16 s.i s.out
