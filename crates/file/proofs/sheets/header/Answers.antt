-- `file::sheets::header` meets its contract.
-- Assumes nothing.
use Rattle.std.proofs.lemmas.Result.{err_from_is_err_and}
use Rattle.file.proofs.SheetHeader.{holds, refused}
use Rattle.file.proofs.sheets.header.Goals as goal

pub returns-in_err-found : goal.returns-in_err-found
returns-in_err-found c =
    let p = err_from_is_err_and c.from_residual.result c.from_residual.ensures.1 in
    rw (p.1, p.2) (refused _ _ c.in_err-found.ensures)

pub returns : goal.returns
returns c = holds _ _ _ _ c.in_ok-found.ensures
