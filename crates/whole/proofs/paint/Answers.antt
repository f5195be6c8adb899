-- `whole::paint` meets its contract: turn by paints row by of the blocks.
-- Assumes nothing.
use mathlib.Core.Bool.{Bool}
use mathlib.Core.Path.{◌∙◌, sym, ap, subst}
use native.Mathlib.Omega.{arith}
use Rattle.rules.specs.Whole.{whole_picture}
use Rattle.whole.specs.Lanes.{lanes, Ready}
use Rattle.whole.proofs.Rows.{top, next_row, bottom}
use Rattle.whole.proofs.Checked.{ready}
use Rattle.whole.proofs.paint.Goals as goal

pub loop-by-init : goal.loop-by-init
loop-by-init c =
    let a = c.args in
    top (lanes a.green) c.scale_of-scale.result.span.signed a.«data».now a.pic a.image.now

pub paint_row-requires : goal.paint_row-requires
paint_row-requires c =
    record {
      green_in_bounds = (
        c.requires.enough,
        omega (arith, c.loop-by-test.true, c.across-rows.ensures),
        c.requires.low,
      );
      ready = subst (Ready (lanes c.args.green) c.args.pic) (sym c.loop-by.invariant.1.same)
          (ready c.args.green c.args.pic _ _ _ c.requires);
    }

pub loop-by-preserved : goal.loop-by-preserved
loop-by-preserved c =
    let a = c.args in
    let l = c.loop-by in
    next_row (lanes a.green) c.scale_of-scale.result.span.signed a.«data».now a.pic l.by a.image.now l.image _
    (omega (arith, c.loop-by-test.true, c.across-rows.ensures)) l.invariant c.paint_row.ensures

pub shape_of-image : goal.shape_of-image
shape_of-image c = c.loop-by.invariant.1.same

pub returns : goal.returns
returns c =
    let z = c.scale_of-scale in
    let a = c.args in
    bottom (lanes a.green) z.result.span.signed a.«data».now a.pic c.loop-by.by a.image.now c.loop-by.image
    (omega (arith, c.loop-by-test.false, c.across-rows.ensures)) c.loop-by.invariant
    ∙ ap (λ (t : Bool). whole_picture t (lanes a.green) a.pic a.«data».now a.image.now) z.ensures
