-- The invariant and the measure of the loop of `sheet::records::next`.
use mathlib.Core.Path.{◌≡◌}
use Prim.Native.Nat.{◌-◌, ◌≤◌}
use lib.ListN.{length, drop}
use Rattle.rules.specs.Records.{records_of, kept, payload_at}
use Rattle.sheet.proofs.records.next.Given as goal

abbrev pub invariant-loop-record : goal.invariant-loop-record
invariant-loop-record l =
    (l.at ≤ length l.d)
    × (l.from ≤ l.at)
    × (kept (records_of (drop l.from l.d)) ≡ kept (records_of (drop l.at l.d)))
    × (payload_at l.from (records_of (drop l.from l.d)) ≡ payload_at l.at (records_of (drop l.at l.d)))

abbrev pub decreases-loop-record : goal.decreases-loop-record
decreases-loop-record l = length l.d - l.at
