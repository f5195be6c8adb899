-- The invariant of the loop of `bc7::endpoints::channel`.
use mathlib.Core.Bool.{cond}
use mathlib.Core.List.{List}
use Prim.Native.Nat.{ℕ, ◌+◌, ◌*◌, ◌/◌, ◌^◌}
use lib.Dec.{eqb}
use lib.ListN.{get_or}
use Rattle.rules.specs.Bc7.{expand}
use Rattle.bc7.proofs.endpoints.Steps.{Made}
use Rattle.bc7.proofs.endpoints.channel.Given as goal

abbrev pub end_of : List ℕ → List ℕ → ℕ → ℕ → ℕ → ℕ → ℕ → ℕ
end_of values ps at w shared pb e = expand (w + pb) (get_or values (at + e) 0 * 2 ^ pb + get_or ps (cond (eqb shared 0) e (e / 2)) 0)

abbrev pub invariant-loop-e : goal.invariant-loop-e
invariant-loop-e l = Made (end_of l.fields.values l.ps.bits.values l.at l.fields.width l.ps.shared l.ps.bits.width) l.count l.out l.e
