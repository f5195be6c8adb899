-- The four colours of T, for each half the same.
-- Assumes nothing.
use Rattle.std.proofs.Common.{◌∙◌}
use Rattle.rules.specs.Modes.{t_bases, t_distance, t_colours_lem}
use Rattle.etc_colour.specs.shade.Tone.{punched}
use Rattle.etc_colour.proofs.shade.Pick.{halves}
use Rattle.etc_colour.proofs.modes.Four.{t_four}
use Rattle.etc_colour.proofs.modes.t_colours.Goals as goal

pub returns : goal.returns
returns c =
    let a = c.args in
    let d = a.d.now in
    let f = c.t_fields-c in
    let m = c.distance in
    let s = c.t_steps-steps in
    let e = c.four_colours-four.ensures ∙ t_four a.opaque d f.result s.result m.result f.ensures m.ensures.0 s.ensures in
    c.joined.ensures ∙ halves (λ h. punched a.opaque (t_colours_lem (t_bases d) (t_distance d))) _ _ e e
