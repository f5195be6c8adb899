-- `sheet_read::sheet_head` meets its contract.
-- Assumes nothing.
use Rattle.std.proofs.lemmas.Result.{err_from_is_err_and}
use Rattle.sheet.proofs.Shown.{tells, tells_refusal}
use Rattle.sheet_read.proofs.sheet_head.Goals as goal

pub returns-in_err-found : goal.returns-in_err-found
returns-in_err-found c =
    let p = err_from_is_err_and c.from_residual.result c.from_residual.ensures.1 in
    rw (p.1, p.2) (tells_refusal _ _ c.in_err-found.ensures)

pub returns : goal.returns
returns c = tells _ _ _ c.in_ok-found.ensures.shown
