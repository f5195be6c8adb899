-- `pixel::fill::fill` meets its contract: turn k paints element k.
-- Assumes nothing.
use Prim.Native.Nat.{◌+◌}
use native.Mathlib.Omega.{arith}
use borrow.Author.Rules.{rules}
use lib.ListN.{get_or}
use Rattle.std.proofs.lemmas.List.{get_or_default}
use Rattle.pixel.proofs.fill.Part.{put, ended}
use Rattle.pixel.proofs.fill.fill.Goals as goal

pub loop-k-preserved : goal.loop-k-preserved
loop-k-preserved g c z =
    let a = c.args in
    let i = c.loop-k.invariant z in
    put (λ k. get_or a.tile (a.from + k) z) a.part.now c.loop-k.part c.loop-k.k _ (omega (arith, c.loop-k-test.true, i.1.same))
    (get_or_default a.tile (a.from + c.loop-k.k) _ z (search rules)) i

pub returns : goal.returns
returns g c z =
    let a = c.args in
    let i = c.loop-k.invariant z in
    ended (λ k. get_or a.tile (a.from + k) z) a.part.now c.loop-k.part c.loop-k.k (omega (arith, c.loop-k-test.false, i.1.same)) i
