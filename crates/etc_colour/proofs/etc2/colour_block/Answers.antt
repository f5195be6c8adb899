-- The kind and the opaque bit are the ones of the format.
-- Assumes nothing.
use Rattle.std.proofs.Common.{◌/◌, ◌%◌, Bool, ap, ◌∙◌}
use Rattle.rules.specs.Places.{tile}
use Rattle.rules.specs.declared.Kind.{Kind}
use Rattle.laws.proofs.Filled.{build_same}
use Rattle.etc_colour.specs.etc2.Colours.{made_pixel, kind_in_lem, opaque_in_lem, colour_pixel}
use Rattle.etc_colour.proofs.etc2.Colours.{pixel}
use Rattle.etc_colour.proofs.etc2.colour_block.Goals as goal

pub returns : goal.returns
returns c =
    let a = c.args in
    let d = a.d.now in
    c.made_block.ensures
    ∙ ap (λ (k : Kind). tile (made_pixel k c.opaque_in.result) d) c.kind_in.ensures
    ∙ ap (λ (o : Bool). tile (made_pixel (kind_in_lem a.plain a.punch d) o) d) c.opaque_in.ensures
    ∙ build_same 0 (λ k. made_pixel (kind_in_lem a.plain a.punch d) (opaque_in_lem a.punch d) d (k % 4) (k / 4)) (λ k. colour_pixel a.plain a.punch d (k % 4) (k / 4)) 16
    (λ k h. pixel d (k % 4) (k / 4) a.plain a.punch)
