-- `capi::degrees_lent::legend_at` meets its contract: each arm is the legend of its number; of any other, 0 / 0 is not a number.
use borrow.Author.Tests.{ne_eqb}
use lib.Ieee.{of_bits, div}
use Rattle.capi.proofs.degrees_lent.legend_at.Goals as goal

pub returns-in_default : goal.returns-in_default
unfolding of_bits div
returns-in_default c =
    let k = c.args.kind in
    let r = c.in_default.in_default-own.rest in
    rw (ne_eqb k 0 r.0.0.1, ne_eqb k 1 r.0.1, ne_eqb k 2 r.1)
