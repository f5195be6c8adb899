-- `sheet_read::read_sheet` meets its contract: the plain reader on exactly the blocks does what the sheet's reader owes.
-- Assumes nothing.
use native.Mathlib.Nat.{add-sub_cancel_left}
use Rattle.std.proofs.lemmas.Result.{err_from_is_err_and}
use Rattle.sheet.proofs.Shown.{reads, refuses}
use Rattle.sheet_read.proofs.read_sheet.Goals as goal

pub returns-in_err-found : goal.returns-in_err-found
returns-in_err-found c =
    let p = err_from_is_err_and c.from_residual.result c.from_residual.ensures.1 in
    rw (p.1, p.2) (refuses _ _ c.in_err-found.ensures _)

pub returns : goal.returns
returns c =
    let f = c.in_ok-found.found in
    let t = c.in_ok-found.ensures in
    reads _ _ _ t.shown _ _ _ (rw (add-sub_cancel_left f.start f.length) at c.read_picture.ensures)
