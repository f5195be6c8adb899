-- `whole::paint_block` meets its contract: red and green, or red alone.
-- Assumes nothing.
use Rattle.whole.proofs.paint_block.Goals as goal

pub paint_red_green-requires : goal.paint_red_green-requires
paint_red_green-requires g c =
    let p = c.requires in record { in_bounds = (rw c.if-green.true at p.green_in_bounds.0, rw c.if-green.true at p.green_in_bounds.1); bx_bound = p.bx_bound }

pub returns-then-green : goal.returns-then-green
returns-then-green g c =
    rw c.if-green.true c.paint_red_green.ensures

pub paint_red-requires : goal.paint_red-requires
paint_red-requires g c =
    let p = c.requires in record { in_bounds = (rw c.if-green.false at p.green_in_bounds.0, rw c.if-green.false at p.green_in_bounds.1); bx_bound = p.bx_bound }

pub returns : goal.returns
returns g c =
    rw c.if-green.false c.paint_red.ensures
