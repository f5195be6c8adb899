-- `bc7::rest::Rest::past` meets its contract: the two words shifted as one.
-- Assumes nothing.
use mathlib.Core.Path.{ap, ◌∙◌}
use Prim.Native.Nat.{ℕ, ◌+◌, ◌*◌, ◌/◌, ◌^◌}
use Rattle.laws.proofs.Shift.{whole_past}
use Rattle.bc7.proofs.rest.Rest.past.Goals as goal

pub returns : goal.returns
returns c =
    let a = c.args in
    ap (λ (m : ℕ). a.self.hi / 2 ^ a.n * 2 ^ 64 + m) c.next_low.ensures ∙ whole_past a.self.hi a.self.lo a.n c.requires
