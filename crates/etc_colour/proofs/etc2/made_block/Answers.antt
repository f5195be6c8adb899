-- A planar block by its plane, and every other by the pick of its eight colours.
-- Assumes nothing.
use Rattle.std.proofs.Common.{sym, ap, ◌∙◌}
use Rattle.rules.specs.Places.{tile}
use Rattle.rules.specs.declared.Kind.{Kind}
use Rattle.etc_colour.specs.etc2.Colours.{made_pixel}
use Rattle.etc_colour.proofs.etc2.Colours.{not_planar, picked}
use Rattle.etc_colour.proofs.etc2.made_block.Goals as goal

pub returns-in-Planar : goal.returns-in-Planar
unfolding made_pixel
returns-in-Planar c =
    let a = c.args in
    c.planar_block.ensures ∙ ap (λ (k : Kind). tile (made_pixel k a.opaque) a.d.now) (sym c.in-Planar.is)

pub returns-in_default : goal.returns-in_default
returns-in_default c =
    let a = c.args in
    c.picked.ensures ∙ picked a.kind a.opaque a.d.now _ (not_planar a.kind c.in_default.not-Planar) c.colours_of.ensures
