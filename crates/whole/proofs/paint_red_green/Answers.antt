-- `whole::paint_red_green` meets its contract: its two tiles, in the picture that is twice as wide, are the block.
-- Assumes nothing.
use mathlib.Core.List.{List}
use mathlib.Core.Path.{◌∙◌, ap}
use Prim.Native.Nat.{ℕ}
use native.Mathlib.Omega.{arith}
use lib.ListN.{length}
use Rattle.rules.specs.Notation.{build}
use Rattle.laws.proofs.Parts.{rest}
use Rattle.pixel.specs.place.Tile.{Room}
use Rattle.pixel.proofs.place.Grid.{kept}
use Rattle.eac.proofs.Bytes.{middle_held}
use Rattle.whole.specs.Lanes.{twice}
use Rattle.whole.proofs.Lanes.{value_at, room_twice, both_tiles}
use borrow.Author.Rules.{rules}
use Rattle.whole.proofs.paint_red_green.Goals as goal

pub eight_wholes-red_eight-requires : goal.eight_wholes-red_eight-requires
eight_wholes-red_eight-requires g c =
    record {
      in_bounds = (omega (arith, c.requires.in_bounds.0), c.args.scale.steps);
      base_value = middle_held c.middle_of-red_base.result c.middle_of-red_base.ensures.0 c.middle_of-red_base.ensures.1;
    }

pub eight_wholes-green_eight-requires : goal.eight_wholes-green_eight-requires
eight_wholes-green_eight-requires g c =
    record {
      in_bounds = (search rules, c.args.scale.steps);
      base_value = middle_held c.middle_of-green_base.result c.middle_of-green_base.ensures.0 c.middle_of-green_base.ensures.1;
    }

pub put-requires : goal.put-requires
put-requires g c =
    let b = c.requires.bx_bound in
    let wide : Room (twice c.args.pic) (length c.args.image.now) = room_twice c.args.pic c.requires.in_bounds.1.fits _ c.requires.in_bounds.1.roomy in
    rw c.doubled-wide.ensures (omega (arith, b.0), omega (arith, b.1), wide, λ e. let w = b.2 e in (omega (arith, w.0), w.1))

pub put-requires-2 : goal.put-requires-2
put-requires-2 g c =
    let b = c.requires.bx_bound in
    let wide : Room (twice c.args.pic) (length c.args.image.now) = room_twice c.args.pic c.requires.in_bounds.1.fits _ c.requires.in_bounds.1.roomy in
    rw c.doubled-wide.ensures (
      omega (arith, b.0),
      omega (arith, b.1),
      kept (twice c.args.pic) _ _ wide (c.put.ensures 0).same,
      λ e. let w = b.2 e in (omega (arith, w.0), w.1),
    )

pub returns : goal.returns
returns g c =
    let a = c.args in
    both_tiles a.pic c.requires.in_bounds.1.fits a.scale.span.signed a.d.now c.eac_sixteens-red.result c.eac_sixteens-green.result
    c.eac_sixteens-red.ensures
    (c.eac_sixteens-green.ensures ∙ ap (λ (l : List ℕ). build 16 (value_at a.scale.span.signed l)) (rest 8 a.d.now))
    a.bx a.by _ c.pairs.result c.pairs-2.result a.image.now _ _ (omega arith)
    c.pairs.ensures c.pairs-2.ensures (rw c.doubled-wide.ensures at c.put.ensures 0) (rw c.doubled-wide.ensures at c.put-2.ensures 0)
