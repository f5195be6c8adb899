-- `whole::paint_whole` meets its contract: turn bx paints block bx of the row, which the picture has whole.
-- Assumes nothing.
use mathlib.Core.Path.{◌≡◌, sym, ap, subst}
use Prim.Native.Nat.{ℕ, ◌+◌, ◌*◌, ◌<◌, ◌≤◌}
use native.Mathlib.Omega.{arith}
use lib.ListN.{length, length-take, length-drop}
use Rattle.whole.specs.Lanes.{lanes, Ready}
use Rattle.whole.proofs.Rows.{Turned, start, turn, from_first, fits, small}
use Rattle.whole.proofs.paint_whole.Goals as goal

pub whole_in-n-requires : goal.whole_in-n-requires
whole_in-n-requires c =
    omega (arith, c.requires.green_in_bounds.1, c.requires.green_in_bounds.2)

pub overflow_mul-s : goal.overflow_mul-s
overflow_mul-s c = omega (arith, c.lanes_of-s.ensures.2)

pub overflow_mul-first : goal.overflow_mul-first
overflow_mul-first c =
    omega (
      arith,
      small c.args.pic c.args.by c.across-row.result c.across-row.ensures c.requires.ready.narrow c.requires.green_in_bounds.2
          c.requires.green_in_bounds.1,
    )

pub loop-bx-init : goal.loop-bx-init
loop-bx-init c =
    let a = c.args in
    (omega arith, start (lanes a.green) a.scale.span.signed a.«data».now a.pic a.by 0 a.image.now (omega arith))

pub overflow_add-from : goal.overflow_add-from
overflow_add-from c =
    let in_row : c.loop-bx.bx < c.across-row.result = omega (arith, c.loop-bx-test.true, c.whole_in-n.ensures.0, c.across-row.ensures) in
    let w = c.across-row in
    omega (
      arith,
      small c.args.pic c.args.by w.result w.ensures c.requires.ready.narrow c.requires.green_in_bounds.2
          c.requires.green_in_bounds.1,
      in_row,
      w.ensures,
      c.requires.ready.narrow,
    )

pub overflow_mul-from : goal.overflow_mul-from
overflow_mul-from c =
    let size : c.lanes_of-s.result * 8 ≡ lanes c.args.green * 8 = ap (λ (z : ℕ). z * 8) c.lanes_of-s.ensures.0 in
    let in_row : c.loop-bx.bx < c.across-row.result = omega (arith, c.loop-bx-test.true, c.whole_in-n.ensures.0, c.across-row.ensures) in
    let there : (c.args.by * c.across-row.result + c.loop-bx.bx) * (c.lanes_of-s.result * 8)
    + c.lanes_of-s.result * 8 ≤ length c.args.«data».now =
    fits c.args.pic c.args.by c.loop-bx.bx c.across-row.result (c.lanes_of-s.result * 8) (lanes c.args.green) _
    c.across-row.ensures size in_row c.requires.green_in_bounds.1 c.requires.green_in_bounds.0 in
    omega (arith, there)

pub overflow_add-end : goal.overflow_add-end
overflow_add-end c =
    let size : c.lanes_of-s.result * 8 ≡ lanes c.args.green * 8 = ap (λ (z : ℕ). z * 8) c.lanes_of-s.ensures.0 in
    let in_row : c.loop-bx.bx < c.across-row.result = omega (arith, c.loop-bx-test.true, c.whole_in-n.ensures.0, c.across-row.ensures) in
    let there : (c.args.by * c.across-row.result + c.loop-bx.bx) * (c.lanes_of-s.result * 8)
    + c.lanes_of-s.result * 8 ≤ length c.args.«data».now =
    fits c.args.pic c.args.by c.loop-bx.bx c.across-row.result (c.lanes_of-s.result * 8) (lanes c.args.green) _
    c.across-row.ensures size in_row c.requires.green_in_bounds.1 c.requires.green_in_bounds.0 in
    omega (arith, there)

pub slice_bounds-paint_block-count : goal.slice_bounds-paint_block-count
slice_bounds-paint_block-count c =
    let size : c.lanes_of-s.result * 8 ≡ lanes c.args.green * 8 = ap (λ (z : ℕ). z * 8) c.lanes_of-s.ensures.0 in
    let in_row : c.loop-bx.bx < c.across-row.result = omega (arith, c.loop-bx-test.true, c.whole_in-n.ensures.0, c.across-row.ensures) in
    let there : (c.args.by * c.across-row.result + c.loop-bx.bx) * (c.lanes_of-s.result * 8)
    + c.lanes_of-s.result * 8 ≤ length c.args.«data».now =
    fits c.args.pic c.args.by c.loop-bx.bx c.across-row.result (c.lanes_of-s.result * 8) (lanes c.args.green) _
    c.across-row.ensures size in_row c.requires.green_in_bounds.1 c.requires.green_in_bounds.0 in
    omega (arith, there)

pub slice_bounds-paint_block-start : goal.slice_bounds-paint_block-start
slice_bounds-paint_block-start c =
    let size : c.lanes_of-s.result * 8 ≡ lanes c.args.green * 8 = ap (λ (z : ℕ). z * 8) c.lanes_of-s.ensures.0 in
    let in_row : c.loop-bx.bx < c.across-row.result = omega (arith, c.loop-bx-test.true, c.whole_in-n.ensures.0, c.across-row.ensures) in
    let there : (c.args.by * c.across-row.result + c.loop-bx.bx) * (c.lanes_of-s.result * 8)
    + c.lanes_of-s.result * 8 ≤ length c.args.«data».now =
    fits c.args.pic c.args.by c.loop-bx.bx c.across-row.result (c.lanes_of-s.result * 8) (lanes c.args.green) _
    c.across-row.ensures size in_row c.requires.green_in_bounds.1 c.requires.green_in_bounds.0 in
    omega (arith, there)

pub slice_bounds-paint_block-end : goal.slice_bounds-paint_block-end
slice_bounds-paint_block-end c =
    let size : c.lanes_of-s.result * 8 ≡ lanes c.args.green * 8 = ap (λ (z : ℕ). z * 8) c.lanes_of-s.ensures.0 in
    let in_row : c.loop-bx.bx < c.across-row.result = omega (arith, c.loop-bx-test.true, c.whole_in-n.ensures.0, c.across-row.ensures) in
    let there : (c.args.by * c.across-row.result + c.loop-bx.bx) * (c.lanes_of-s.result * 8)
    + c.lanes_of-s.result * 8 ≤ length c.args.«data».now =
    fits c.args.pic c.args.by c.loop-bx.bx c.across-row.result (c.lanes_of-s.result * 8) (lanes c.args.green) _
    c.across-row.ensures size in_row c.requires.green_in_bounds.1 c.requires.green_in_bounds.0 in
    omega (arith, there)

pub paint_block-requires : goal.paint_block-requires
paint_block-requires c =
    let size : c.lanes_of-s.result * 8 ≡ lanes c.args.green * 8 = ap (λ (z : ℕ). z * 8) c.lanes_of-s.ensures.0 in
    let in_row : c.loop-bx.bx < c.across-row.result = omega (arith, c.loop-bx-test.true, c.whole_in-n.ensures.0, c.across-row.ensures) in
    let there : (c.args.by * c.across-row.result + c.loop-bx.bx) * (c.lanes_of-s.result * 8)
    + c.lanes_of-s.result * 8 ≤ length c.args.«data».now =
    fits c.args.pic c.args.by c.loop-bx.bx c.across-row.result (c.lanes_of-s.result * 8) (lanes c.args.green) _
    c.across-row.ensures size in_row c.requires.green_in_bounds.1 c.requires.green_in_bounds.0 in
    let w = c.whole_in-n.ensures in record {
      green_in_bounds = (
        simp (length-take, length-drop) (omega (arith, there, size)),
        subst (Ready (lanes c.args.green) c.args.pic) (sym c.loop-bx.invariant.1.2.same) c.requires.ready,
      );
      bx_bound = (
        omega (arith, in_row, c.across-row.ensures, c.requires.ready.narrow),
        omega (arith, c.requires.green_in_bounds.1, c.requires.green_in_bounds.2),
        λ e. (omega (arith, c.loop-bx-test.true, w.0), w.1 (omega (arith, c.loop-bx-test.true))),
      );
    }

pub loop-bx-preserved : goal.loop-bx-preserved
loop-bx-preserved c =
    let size : c.lanes_of-s.result * 8 ≡ lanes c.args.green * 8 = ap (λ (z : ℕ). z * 8) c.lanes_of-s.ensures.0 in
    let in_row : c.loop-bx.bx < c.across-row.result = omega (arith, c.loop-bx-test.true, c.whole_in-n.ensures.0, c.across-row.ensures) in
    let a = c.args in
    let l = c.loop-bx in (
      omega (arith, c.loop-bx-test.true),
      turn (lanes a.green) a.scale.span.signed a.«data».now a.pic a.by 0 l.bx c.across-row.result (c.lanes_of-s.result * 8)
          a.image.now l.image _
          c.across-row.ensures size in_row l.invariant.1 c.paint_block.ensures,
    )

pub shape_of-image : goal.shape_of-image
shape_of-image c = c.loop-bx.invariant.1.2.same

pub returns : goal.returns
returns c =
    let a = c.args in
    let e : c.loop-bx.bx ≡ c.whole_in-n.result = omega (arith, c.loop-bx-test.false, c.loop-bx.invariant.0) in
    from_first (lanes a.green) a.scale.span.signed a.«data».now a.pic a.by _ a.image.now c.loop-bx.image
    (subst (λ (m : ℕ). Turned (lanes a.green) a.scale.span.signed a.«data».now a.pic a.by 0 a.image.now c.loop-bx.image m) e
    c.loop-bx.invariant.1)
