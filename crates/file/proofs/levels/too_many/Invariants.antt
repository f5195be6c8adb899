-- The invariant of the loop of `file::levels::too_many`.
use mathlib.Core.Path.{◌≡◌}
use Prim.Native.Nat.{◌-◌}
use Rattle.rules.specs.FileLevels.{too_many_lem}
use Rattle.file.proofs.levels.too_many.Given as goal

abbrev pub invariant-loop : goal.invariant-loop
invariant-loop l = too_many_lem l.side (l.more - l.counter) ≡ too_many_lem l.larger l.more
