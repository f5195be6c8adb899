-- The invariant of the loop of `file::keys::Pairs::rows_in`.
use mathlib.Core.Path.{◌≡◌}
use Prim.Native.Nat.{◌-◌, ◌≤◌}
use lib.ListN.{length}
use Rattle.rules.specs.Keys.{rows_in_lem}
use Rattle.rules.specs.declared.Orientation.TheVariants.{Untold}
use Rattle.file.proofs.keys.Pairs.rows_in.Given as goal

abbrev pub invariant-loop : goal.invariant-loop
invariant-loop l = (l.at ≤ l.stop)
    × (rows_in_lem l.self.second l.self.order l.self.d.now l.stop (length l.self.d.now - l.counter) l.at l.told
    ≡ rows_in_lem l.self.second l.self.order l.self.d.now l.stop (length l.self.d.now) l.start Untold)
