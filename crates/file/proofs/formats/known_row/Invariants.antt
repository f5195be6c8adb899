-- The invariant of the loop of `file::formats::known_row`.
use mathlib.Core.Path.{◌≡◌}
use lib.ListN.{drop}
use Rattle.rules.specs.FileFormats.{known}
use Rattle.file.proofs.formats.known_row.Given as goal

abbrev pub invariant-loop-row : goal.invariant-loop-row
invariant-loop-row l = known (drop l.row-index l.table) l.number ≡ known l.table l.number
