-- `picture::check` meets its contract: an image of that many elements is long enough for every picture, so no check of it fails.
-- Assumes nothing.
use Rattle.std.proofs.Common.{◌∙◌, length}
use Rattle.picture.proofs.Room.{without_image, largest}
use Rattle.picture.proofs.check.Goals as goal

pub returns : goal.returns
returns c =
    let a = c.args in
    c.guarded_answer.ensures
    ∙ rw c.sized.ensures (without_image a.width a.height 0x100000000 (largest a.width a.height) a.viewer (length a.«data».now) _)
