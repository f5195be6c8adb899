-- The kinds that ETC1 does not know.
-- Assumes nothing.
use Rattle.std.specs.Prelude.{Bool, true, false}
use Rattle.rules.specs.declared.Kind.{Kind}
use Rattle.rules.specs.declared.Kind.TheVariants.{Individual, Differential, T, H, Planar}

abbrev pub strange : Kind → Bool
strange Individual = false
strange Differential = false
strange T = true
strange H = true
strange Planar = true
