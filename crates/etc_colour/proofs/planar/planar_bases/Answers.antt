-- Each base colour stands in its own bytes.
-- Assumes nothing.
use Rattle.rules.specs.Modes.{planar_bases_lem}
use Rattle.laws.proofs.Rows.{three}
use Rattle.etc_colour.proofs.planar.planar_bases.Goals as goal

pub returns : goal.returns
unfolding planar_bases_lem
returns c = three c.planar_origin.ensures c.planar_right.ensures c.planar_below.ensures
