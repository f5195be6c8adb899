-- Eight reads of eight bits, each where the one before ends.
-- Assumes nothing.
use mathlib.Core.Path.{◌∙◌}
use Rattle.bc7_held.proofs.ByteReads.{eight}
use Rattle.bc7_held.proofs.word_at.Goals as goal

pub returns : goal.returns
returns c =
    c.from_le_bytes.ensures
    ∙ rw (c.byte_at.ensures, c.byte_at-2.ensures, c.byte_at-3.ensures, c.byte_at-4.ensures, c.byte_at-5.ensures, c.byte_at-6.ensures, c.byte_at-7.ensures, c.byte_at-8.ensures)
    (eight c.args.s.now c.args.place)
