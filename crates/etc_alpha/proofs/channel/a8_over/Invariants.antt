-- The invariant of the loop of `etc_alpha::channel::a8_over`.
use mathlib.Core.List.{List}
use Prim.Native.Nat.{ℕ, ◌/◌, ◌%◌, ◌≤◌}
use lib.ListN.{get_or}
use Rattle.rules.specs.Channels.{alpha_byte, with_alpha}
use Rattle.pixel.proofs.fill.Part.{Begun}
use Rattle.etc_alpha.proofs.channel.a8_over.Given as goal

-- what element k is to be
abbrev pub rule : List ℕ → List ℕ → ℕ → ℕ
rule d image k = with_alpha (get_or image k 0) (alpha_byte d (k % 4) (k / 4))

abbrev pub invariant-loop-i : goal.invariant-loop-i
invariant-loop-i l = (l.i ≤ 16) × Begun (rule l.d l.initial.image) l.initial.image l.image l.i
