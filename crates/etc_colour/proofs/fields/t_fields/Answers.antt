-- Each field is the one that the rule names.
-- Assumes nothing.
use Rattle.std.proofs.Common.{div-one}
use Rattle.rules.specs.Modes.{t_bases}
use Rattle.etc_colour.proofs.fields.t_fields.Goals as goal

pub returns : goal.returns
unfolding t_bases
returns c = simp div-one
