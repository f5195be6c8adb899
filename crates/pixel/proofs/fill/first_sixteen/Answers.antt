-- `pixel::fill::first_sixteen` meets its contract: turn i copies element i.
-- Assumes nothing.
use native.Mathlib.Omega.{arith}
use Rattle.laws.proofs.Filling.{filled_all}
use Rattle.pixel.proofs.fill.first_sixteen.Goals as goal

pub returns : goal.returns
returns c =
    let l = c.loop-i in
    filled_all _ 0 16 l.first l.i l.invariant (omega arith)
