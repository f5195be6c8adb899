-- `pieces::kept::Arrived::rest_of` meets its contract: turn i stores byte i, and zeros stand behind.
-- Assumes nothing.
use Rattle.std.proofs.Common.{◌≡◌, arith}
use Rattle.pieces.specs.Arrived.{all_of}
use Rattle.pieces.proofs.kept.Joined.{padded_more}
use Rattle.pieces.proofs.kept.Arrived.rest_of.Goals as goal

pub loop-i-preserved : goal.loop-i-preserved
loop-i-preserved c =
    padded_more (all_of c.args.self.now) c.args.at c.loop-i.i c.loop-i.out c.byte_at.result (omega arith) c.loop-i.invariant c.byte_at.ensures

pub returns : goal.returns
returns c =
    let e : c.loop-i.i ≡ c.args.n = omega arith in
    rw e at c.loop-i.invariant
