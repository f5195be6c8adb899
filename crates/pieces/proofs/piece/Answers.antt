-- `pieces::piece` meets its contract: where no check fails, the image has every pixel of the picture.
-- Assumes nothing.
use Rattle.std.proofs.Common.{sym, ap, [], ◌∷◌, length}
use borrow.Author.Tests.{ltb-false}
use Rattle.rules.specs.Places.{needed}
use Rattle.rules.specs.Answers.{accepts}
use Rattle.rules.specs.Pieces.{start_checks}
use Rattle.laws.proofs.Judged.{passed}
use Rattle.pixel.proofs.place.Grid.{roomy}
use Rattle.checks.proofs.Checks.{within_limit}
use Rattle.pieces.proofs.piece.Goals as goal

pub take_piece-requires : goal.take_piece-requires
take_piece-requires c =
    let pic = c.args.p.picture in
    let n = length c.args.image.now in
    let k = passed (start_checks pic n) (0 ∷ []) tt (sym (ap accepts c.in_default.ensures)) in
    let w = within_limit pic k.first in
    (w.0, w.1, roomy pic n (ltb-false pic.pitch pic.width k.rest.first) (ltb-false n (needed pic) k.rest.rest.first))
