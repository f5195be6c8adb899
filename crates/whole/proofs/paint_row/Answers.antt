-- `whole::paint_row` meets its contract: the blocks that are whole, and then turn bx paints block bx.
-- Assumes nothing.
use mathlib.Core.Path.{◌≡◌, ◌∙◌, sym, ap, subst}
use Prim.Native.Nat.{ℕ, ◌+◌, ◌*◌, ◌≤◌}
use native.Mathlib.Omega.{arith}
use lib.Dec.{T}
use lib.ListN.{length, length-take, length-drop}
use Rattle.whole.specs.Lanes.{lanes, Ready}
use Rattle.whole.proofs.Rows.{start, turn, ended, fits, small}
use Rattle.whole.proofs.paint_row.Goals as goal

pub overflow_mul-s : goal.overflow_mul-s
overflow_mul-s c = omega (arith, c.lanes_of-s.ensures.2)

pub overflow_mul-first : goal.overflow_mul-first
overflow_mul-first c =
    omega (
      arith,
      small c.args.pic c.args.by c.across-row.result c.across-row.ensures c.requires.ready.narrow c.requires.green_in_bounds.2
          c.requires.green_in_bounds.1,
    )

pub loop-bx-init : goal.loop-bx-init
loop-bx-init c =
    let a = c.args in
    start (lanes a.green) a.scale.span.signed a.«data».now a.pic a.by c.paint_whole-n.result _ c.paint_whole-n.ensures.0

pub overflow_add-at : goal.overflow_add-at
overflow_add-at c =
    let w = c.across-row in
    omega (
      arith,
      small c.args.pic c.args.by w.result w.ensures c.requires.ready.narrow c.requires.green_in_bounds.2
          c.requires.green_in_bounds.1,
      c.loop-bx-test.true,
      w.ensures,
      c.requires.ready.narrow,
    )

pub overflow_mul-at : goal.overflow_mul-at
overflow_mul-at c =
    let size : c.lanes_of-s.result * 8 ≡ lanes c.args.green * 8 = ap (λ (z : ℕ). z * 8) c.lanes_of-s.ensures.0 in
    let there : (c.args.by * c.across-row.result + c.loop-bx.bx) * (c.lanes_of-s.result * 8)
    + c.lanes_of-s.result * 8 ≤ length c.args.«data».now =
    fits c.args.pic c.args.by c.loop-bx.bx c.across-row.result (c.lanes_of-s.result * 8) (lanes c.args.green) _
    c.across-row.ensures size c.loop-bx-test.true c.requires.green_in_bounds.1 c.requires.green_in_bounds.0 in
    omega (arith, there)

pub overflow_add-end : goal.overflow_add-end
overflow_add-end c =
    let size : c.lanes_of-s.result * 8 ≡ lanes c.args.green * 8 = ap (λ (z : ℕ). z * 8) c.lanes_of-s.ensures.0 in
    let there : (c.args.by * c.across-row.result + c.loop-bx.bx) * (c.lanes_of-s.result * 8)
    + c.lanes_of-s.result * 8 ≤ length c.args.«data».now =
    fits c.args.pic c.args.by c.loop-bx.bx c.across-row.result (c.lanes_of-s.result * 8) (lanes c.args.green) _
    c.across-row.ensures size c.loop-bx-test.true c.requires.green_in_bounds.1 c.requires.green_in_bounds.0 in
    omega (arith, there)

pub slice_bounds-paint_block-count : goal.slice_bounds-paint_block-count
slice_bounds-paint_block-count c =
    let size : c.lanes_of-s.result * 8 ≡ lanes c.args.green * 8 = ap (λ (z : ℕ). z * 8) c.lanes_of-s.ensures.0 in
    let there : (c.args.by * c.across-row.result + c.loop-bx.bx) * (c.lanes_of-s.result * 8)
    + c.lanes_of-s.result * 8 ≤ length c.args.«data».now =
    fits c.args.pic c.args.by c.loop-bx.bx c.across-row.result (c.lanes_of-s.result * 8) (lanes c.args.green) _
    c.across-row.ensures size c.loop-bx-test.true c.requires.green_in_bounds.1 c.requires.green_in_bounds.0 in
    omega (arith, there)

pub slice_bounds-paint_block-start : goal.slice_bounds-paint_block-start
slice_bounds-paint_block-start c =
    let size : c.lanes_of-s.result * 8 ≡ lanes c.args.green * 8 = ap (λ (z : ℕ). z * 8) c.lanes_of-s.ensures.0 in
    let there : (c.args.by * c.across-row.result + c.loop-bx.bx) * (c.lanes_of-s.result * 8)
    + c.lanes_of-s.result * 8 ≤ length c.args.«data».now =
    fits c.args.pic c.args.by c.loop-bx.bx c.across-row.result (c.lanes_of-s.result * 8) (lanes c.args.green) _
    c.across-row.ensures size c.loop-bx-test.true c.requires.green_in_bounds.1 c.requires.green_in_bounds.0 in
    omega (arith, there)

pub slice_bounds-paint_block-end : goal.slice_bounds-paint_block-end
slice_bounds-paint_block-end c =
    let size : c.lanes_of-s.result * 8 ≡ lanes c.args.green * 8 = ap (λ (z : ℕ). z * 8) c.lanes_of-s.ensures.0 in
    let there : (c.args.by * c.across-row.result + c.loop-bx.bx) * (c.lanes_of-s.result * 8)
    + c.lanes_of-s.result * 8 ≤ length c.args.«data».now =
    fits c.args.pic c.args.by c.loop-bx.bx c.across-row.result (c.lanes_of-s.result * 8) (lanes c.args.green) _
    c.across-row.ensures size c.loop-bx-test.true c.requires.green_in_bounds.1 c.requires.green_in_bounds.0 in
    omega (arith, there)

pub paint_block-requires : goal.paint_block-requires
paint_block-requires c =
    let size : c.lanes_of-s.result * 8 ≡ lanes c.args.green * 8 = ap (λ (z : ℕ). z * 8) c.lanes_of-s.ensures.0 in
    let there : (c.args.by * c.across-row.result + c.loop-bx.bx) * (c.lanes_of-s.result * 8)
    + c.lanes_of-s.result * 8 ≤ length c.args.«data».now =
    fits c.args.pic c.args.by c.loop-bx.bx c.across-row.result (c.lanes_of-s.result * 8) (lanes c.args.green) _
    c.across-row.ensures size c.loop-bx-test.true c.requires.green_in_bounds.1 c.requires.green_in_bounds.0 in
    let e = c.across-row.ensures in record {
      green_in_bounds = (
        simp (length-take, length-drop) (omega (arith, there, size)),
        subst (Ready (lanes c.args.green) c.args.pic) (sym (c.loop-bx.invariant.2.same ∙ c.paint_whole-n.ensures.1.same)) c.requires.ready,
      );
      bx_bound = (
        omega (arith, c.loop-bx-test.true, e, c.requires.ready.narrow),
        omega (arith, c.requires.green_in_bounds.1, c.requires.green_in_bounds.2),
        λ e. absurd (subst T (sym e) tt),
      );
    }

pub loop-bx-preserved : goal.loop-bx-preserved
loop-bx-preserved c =
    let size : c.lanes_of-s.result * 8 ≡ lanes c.args.green * 8 = ap (λ (z : ℕ). z * 8) c.lanes_of-s.ensures.0 in
    let a = c.args in
    let l = c.loop-bx in
    turn (lanes a.green) a.scale.span.signed a.«data».now a.pic a.by _ l.bx c.across-row.result (c.lanes_of-s.result * 8)
    _ l.image _
    c.across-row.ensures size c.loop-bx-test.true l.invariant c.paint_block.ensures

pub shape_of-image : goal.shape_of-image
shape_of-image c = c.loop-bx.invariant.2.same ∙ c.paint_whole-n.ensures.1.same

pub returns : goal.returns
returns c =
    let a = c.args in
    let p = c.paint_whole-n in
    ended (lanes a.green) a.scale.span.signed a.«data».now a.pic a.by p.result c.loop-bx.bx c.across-row.result a.image.now _ c.loop-bx.image
    c.across-row.ensures c.loop-bx-test.false p.ensures.1 c.loop-bx.invariant
