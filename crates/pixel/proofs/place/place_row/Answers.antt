-- `pixel::place::place_row` meets its contract: the elements of the row stand one after another, and the image has them.
-- Assumes nothing.
use Prim.Native.Nat.{◌+◌, ◌-◌, ◌*◌}
use native.Mathlib.Omega.{arith}
use borrow.Author.Rules.{scaled_Fits}
use Rattle.rules.specs.Places.{element}
use Rattle.pixel.proofs.place.Tile.{row_end, pieced}
use Rattle.pixel.proofs.place.place_row.Goals as goal

pub overflow_mul-at : goal.overflow_mul-at
overflow_mul-at g c = omega (arith, row_end c.args.pic c.args.bx c.args.y c.requires)

pub overflow_add-at : goal.overflow_add-at
overflow_add-at g c = omega (arith, row_end c.args.pic c.args.bx c.args.y c.requires)

pub overflow_add-end : goal.overflow_add-end
overflow_add-end g c = omega (arith, row_end c.args.pic c.args.bx c.args.y c.requires)

pub offset_bounds-image-at : goal.offset_bounds-image-at
offset_bounds-image-at g c =
    scaled_Fits _ _ _ (omega (arith, row_end c.args.pic c.args.bx c.args.y c.requires, c.requires.2, c.requires.3)) c.well_formed.1.1.1.1.1.1.0.1

pub slice_bounds-fill-end : goal.slice_bounds-fill-end
slice_bounds-fill-end g c = row_end c.args.pic c.args.bx c.args.y c.requires

pub returns : goal.returns
returns g c z =
    let a = c.args in
    let at = element a.pic (a.bx * 4) a.y in
    pieced a.pic a.bx a.y a.n c.requires.2 c.requires.3 c.requires.1 a.tile a.i (at + a.n - at) a.image.now _ c.requires.4 (omega arith)
    (c.fill.ensures z)
