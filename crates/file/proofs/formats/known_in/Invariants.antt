-- The invariant of the loop of `file::formats::known_in`.
use mathlib.Core.Path.{◌≡◌}
use Prim.Native.Nat.{◌*◌}
use lib.ListN.{drop}
use Rattle.rules.specs.FileFormats.{known_flat}
use Rattle.file.proofs.formats.known_in.Given as goal

abbrev pub invariant-loop-row : goal.invariant-loop-row
invariant-loop-row l = known_flat (drop (l.row * 3) l.table) l.number ≡ known_flat l.table l.number
