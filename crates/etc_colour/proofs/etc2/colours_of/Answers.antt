-- T and H by their own functions, and every other by its halves.
-- Assumes nothing.
use Rattle.std.proofs.Common.{sym, ap, ◌∙◌}
use Rattle.rules.specs.declared.Kind.{Kind}
use Rattle.etc_colour.specs.shade.Pick.{eight}
use Rattle.etc_colour.specs.shade.Tone.{punched}
use Rattle.etc_colour.specs.etc2.Colours.{steps_where, made_colours}
use Rattle.etc_colour.proofs.etc2.Colours.{of_halves}
use Rattle.etc_colour.proofs.etc2.colours_of.Goals as goal

pub returns-in-T : goal.returns-in-T
unfolding made_colours
returns-in-T c =
    let a = c.args in
    c.t_colours.ensures ∙ ap (λ (k : Kind). eight (λ h. punched a.opaque (made_colours (steps_where a.opaque) k a.d.now h))) (sym c.in-T.is)

pub returns-in-H : goal.returns-in-H
unfolding made_colours
returns-in-H c =
    let a = c.args in
    c.h_colours.ensures ∙ ap (λ (k : Kind). eight (λ h. punched a.opaque (made_colours (steps_where a.opaque) k a.d.now h))) (sym c.in-H.is)

pub returns-in_default : goal.returns-in_default
returns-in_default c =
    let a = c.args in
    c.both_halves.ensures ∙ of_halves a.kind a.opaque a.d.now c.in_default.not-T c.in_default.not-H c.requires.2
