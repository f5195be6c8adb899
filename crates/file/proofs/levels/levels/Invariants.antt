-- The invariant of the loop of `file::levels::levels`.
use mathlib.Core.Path.{◌≡◌}
use Prim.Native.Nat.{◌-◌, ◌≤◌}
use Rattle.rules.specs.Answers.{limit}
use Rattle.rules.specs.FileLevels.{levels_from, levels_of}
use Rattle.file.proofs.levels.levels.Given as goal

abbrev pub invariant-loop-i : goal.invariant-loop-i
invariant-loop-i sp = (sp.s.width ≤ limit)
    × (sp.s.height ≤ limit)
    × (levels_from sp.l sp.bytes sp.n sp.left sp.found sp.i (sp.l.levels - sp.i) sp.s ≡ levels_of sp.l sp.bytes sp.n)
