-- `block_readers::read_alpha` meets its contract: where the checks pass it joins the alpha half to what stood there.
-- Assumes nothing.
use Rattle.std.proofs.Common.{◌/◌, ◌%◌, get_or}
use lib.Dec.{ltb, ltb→lt, lt→ltb}
use Rattle.rules.specs.Channels.{with_alpha, alpha_byte}
use Rattle.laws.proofs.Outcome.{done}
use Rattle.laws.proofs.Paint.{is_painted}
use Rattle.block_readers.proofs.read_alpha.Goals as goal

pub returns : goal.returns
returns c =
    let l = c.args.image.now in
    done _ _ l _ c.in_ok-verify.ensures
    (is_painted _ (λ k. ltb k 16) (λ k. with_alpha (get_or l k 0) (alpha_byte c.args.«data».now (k % 4) (k / 4))) l _
    (λ k h. ltb→lt k 16 h) (λ k h. lt→ltb k 16 h) c.a8_over.ensures)
