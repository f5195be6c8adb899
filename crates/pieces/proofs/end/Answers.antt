-- `pieces::end` meets its contract: it makes the checks of a picture whose image is long enough, over the size of its format's blocks.
-- Assumes nothing.
use Rattle.std.proofs.Common.{◌∙◌, ap, ℕ}
use Rattle.rules.specs.Answers.{verdict, picture_checks}
use Rattle.rules.specs.Pieces.{size}
use Rattle.pieces.proofs.Order.{without_image}
use Rattle.pieces.proofs.end.Goals as goal

pub returns : goal.returns
returns c =
    let p = c.args.p in
    c.verify.ensures
    ∙ ap (λ (s : ℕ). verdict (picture_checks s p.picture p.taken 0x100000000)) c.size.ensures.0
    ∙ without_image (size p) p.picture p.taken
