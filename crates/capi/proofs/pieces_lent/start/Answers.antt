-- `capi::pieces_lent::start` meets its contract: the arrays hold the fresh state.
use lib.ListN.{length}
use Rattle.capi.proofs.pieces_lent.Carried.{begun}
use Rattle.capi.proofs.pieces_lent.start.Goals as goal

-- Assumes nothing.

pub returns : goal.returns
returns c =
    let a = c.args in
    begun a.f a.pic (length a.image.now) c.from.result c.start-started.result c.start-started.ensures c.from.ensures
