-- The invariant of the loop of `bc7::shade`.
use mathlib.Core.List.{List}
use Prim.Native.Nat.{ℕ, ◌*◌, ◌/◌, ◌%◌, ◌^◌}
use lib.ListN.{get_or}
use Rattle.rules.specs.Bc7.{rotated}
use Rattle.laws.proofs.Filling.{Filling, in_order_lem}
use Rattle.bc7.specs.Shaded.{between}
use Rattle.bc7.proofs.shade.Given as goal

abbrev pub shade_of : ℕ → ℕ → List ℕ → List ℕ → List ℕ → List ℕ → List ℕ → List ℕ → ℕ → ℕ
shade_of t layout colour alpha red green blue clear i =
    rotated t (between clear (layout / 2 ^ (2 * i) % 4) (get_or alpha i 0)) (between red (layout / 2 ^ (2 * i) % 4) (get_or colour i 0))
    (between green (layout / 2 ^ (2 * i) % 4) (get_or colour i 0)) (between blue (layout / 2 ^ (2 * i) % 4) (get_or colour i 0))

abbrev pub invariant-loop-i : goal.invariant-loop-i
invariant-loop-i l = Filling in_order_lem (shade_of l.t l.layout l.colour l.alpha l.red l.green l.blue l.clear) 0 16 l.i l.out
