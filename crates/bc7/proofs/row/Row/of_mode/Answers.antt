-- The table is the definition's, row by row.
-- Assumes nothing.
use mathlib.Core.Path.{◌≡◌, ◌∙◌, refl, ap}
use mathlib.Core.List.{List}
use lib.ListN.{get_or}
use Rattle.rules.specs.Notation.{build}
use Rattle.rules.specs.Bc7.{mode_table, mode_at}
use Rattle.rules.specs.declared.Mode.{Mode}
use Rattle.laws.proofs.Filled.{get_or_build}
use Rattle.bc7.specs.declared.row.TheConstants.{MODES}
use Rattle.bc7.proofs.row.Row.of_mode.Goals as goal

rows : MODES ≡ build 8 mode_at
unfolding mode_table
rows = refl

pub returns : goal.returns
unfolding mode_table
returns c =
    let none = mode_at 8 in
    ap (λ (l : List Mode). get_or l c.args.m none) rows ∙ get_or_build mode_at none 8 c.args.m c.requires
