-- Each field is the one that the rule names, widened.
-- Assumes nothing.
use Rattle.std.proofs.Common.{div-one}
use Rattle.rules.specs.Modes.{planar_bases_lem}
use Rattle.laws.proofs.Rows.{three}
use Rattle.etc_colour.proofs.planar.planar_origin.Goals as goal

pub returns : goal.returns
unfolding planar_bases_lem
returns c = simp div-one (three c.widened.ensures c.widened-2.ensures c.widened-3.ensures)
