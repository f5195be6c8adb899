-- The four colours of H, for each half the same.
-- Assumes nothing.
use Rattle.std.proofs.Common.{ap, ◌∙◌}
use Rattle.rules.specs.Modes.{h_bases, h_distance, h_colours_lem}
use Rattle.etc_colour.specs.shade.Tone.{punched}
use Rattle.etc_colour.proofs.shade.Pick.{halves}
use Rattle.etc_colour.specs.fields.Fields.{distance_at}
use Rattle.etc_colour.proofs.modes.Four.{h_four}
use Rattle.etc_colour.proofs.modes.h_colours.Goals as goal

pub returns : goal.returns
returns c =
    let a = c.args in
    let d = a.d.now in
    let f = c.h_fields-c in
    let n = c.h_number in
    let m = c.distance in
    let s = c.h_steps-steps in
    let e = c.four_colours-four.ensures ∙ h_four a.opaque d f.result s.result m.result f.ensures (m.ensures.0 ∙ ap distance_at n.ensures.0) s.ensures in
    c.joined.ensures ∙ halves (λ h. punched a.opaque (h_colours_lem (h_bases d) (h_distance d))) _ _ e e
