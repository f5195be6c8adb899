-- `sheet::write::write_sheet` meets its contract.
-- Assumes nothing.
use mathlib.Core.Path.{◌∙◌, refl}
use native.Mathlib.Omega.{arith}
use lib.ListN.{length}
use Rattle.rules.specs.Places.{sized}
use Rattle.sheet.proofs.Sizes.{bytes}
use Rattle.sheet.proofs.Checks.{Accepted, passed}
use Rattle.sheet.specs.write.Front.{front_of_lem}
use Rattle.sheet.proofs.write.Copied.{twice, is_sheet_said, front_length}
use Rattle.sheet.proofs.write.Owes.{writes}
use Rattle.sheet.proofs.write.write_sheet.Goals as goal

pub put_front-requires-clause-format_bound : goal.put_front-requires-clause-format_bound
put_front-requires-clause-format_bound c =
    let a = c.args in
    let t : Accepted a.format (sized a.width a.height) a.blocks.now (length a.out.now) = passed _ _ _ _ (rw c.sized-pic.ensures at c.in_ok-verify.ensures a.blocks.now refl) in
    (omega (arith, t.known), omega (arith, t.narrow), omega (arith, t.low))

pub put_front-requires-clause-n_bound : goal.put_front-requires-clause-n_bound
put_front-requires-clause-n_bound c =
    let a = c.args in
    let t : Accepted a.format (sized a.width a.height) a.blocks.now (length a.out.now) = passed _ _ _ _ (rw c.sized-pic.ensures at c.in_ok-verify.ensures a.blocks.now refl) in
    (omega (arith, t.exact, bytes a.format (sized a.width a.height) t.narrow t.low), omega (arith, t.roomy))

pub slice_bounds-copy_from_slice-end : goal.slice_bounds-copy_from_slice-end
slice_bounds-copy_from_slice-end c =
    let a = c.args in
    let t : Accepted a.format (sized a.width a.height) a.blocks.now (length a.out.now) = passed _ _ _ _ (rw c.sized-pic.ensures at c.in_ok-verify.ensures a.blocks.now refl) in
    omega (arith, t.roomy, c.put_front.auto.out)

pub returns : goal.returns
returns c =
    let a = c.args in
    let b = a.blocks.now in
    let p = sized a.width a.height in
    writes a.format p b a.out.now _ (rw c.sized-pic.ensures at c.in_ok-verify.ensures b refl)
    (twice 21 (front_of_lem a.format p (length b)) b a.out.now _ _
    (front_length a.format p (length b)) c.put_front.ensures c.copy_from_slice.ensures.after
    ∙ is_sheet_said a.format p b a.out.now)
