-- Each field is the one that the rule names.
-- Assumes nothing.
use Rattle.std.proofs.Common.{div-one}
use Rattle.rules.specs.Modes.{h_bases}
use Rattle.etc_colour.proofs.fields.h_fields.Goals as goal

pub returns : goal.returns
unfolding h_bases
returns c = simp div-one
