-- `block_readers::read_channel` meets its contract: where the checks pass it is as the alpha half is.
-- Assumes nothing.
use Rattle.std.proofs.Common.{◌∙◌, ◌/◌, ◌%◌, ℕ, List, ap, get_or, rules}
use Rattle.rules.specs.Notation.{build}
use Rattle.laws.proofs.Outcome.{done}
use Rattle.block_readers.specs.Joins.{join_of, byte_of}
use Rattle.block_readers.proofs.Block.{sixteen}
use Rattle.block_readers.proofs.read_channel.Goals as goal

pub returns : goal.returns
returns c =
    let a = c.args in
    let d = a.«data».now in
    let l = a.image.now in
    let e =
    c.onto.ensures
    ∙ ap (λ (s : List ℕ). build 16 (λ k. join_of a.j a.channel (get_or s k 0) (byte_of a.j d (k % 4) (k / 4)))) c.first_sixteen-stood.ensures in
    done _ _ l _ (search rules)
    (c.place_block.ensures ∙ sixteen _ _ l e)
