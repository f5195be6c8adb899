-- The records behind the head, of which those that are skipped are passed over.
-- Assumes nothing.
use mathlib.Core.Path.{◌≡◌, ◌∙◌, ap}
use mathlib.Core.List.{List}
use Prim.Native.Nat.{ℕ, ◌+◌}
use native.Mathlib.Omega.{arith}
use borrow.Author.Tests.{eq-eqb}
use lib.ListN.{length, take, drop, length-drop}
use lib.Seq.{length-take-le}
use Rattle.std.specs.Prelude.{Ok}
use Rattle.rules.specs.Records.{Records, records_of, first, kept}
use Rattle.sheet.specs.records.Turns.{Turn}
use Rattle.sheet.proofs.records.Turns.{begins}
use Rattle.rules.specs.Sheets.{after_blocks_lem, after_head}
use Rattle.sheet.specs.later.Follows.{Judges, behind, Blocked}

-- a record behind the head, where the blocks are m bytes
module _ (d : List ℕ) (from m k s n : ℕ) (t : Turn kept d from k s n) where
  long : length (take n (drop s d)) ≡ n
  long = length-take-le n (drop s d) (omega (arith, length-drop s d, t.within))

  -- where the block record is right, what stands behind it decides
  module _ (two : k ≡ 2) (exact : n ≡ m) where
    abbrev rest : Records
    rest = kept (records_of (drop (s + n) d))

    through : (then : List ℕ) → behind d from m then ≡ after_blocks_lem then rest
    through then =
        ap (after_head m then) t.meets ∙ rw (eq-eqb k 2 two, eq-eqb (length (take n (drop s d))) m (long ∙ exact))

    pub blocked : Judges (λ then. after_blocks_lem then rest) (Ok tt) → Blocked d from m s
    blocked g =
        record {
          passes = λ then. through then ∙ g then;
          payload = ap (λ (z : Records). (first z).payload) t.meets ∙ ap (λ (z : ℕ). take z (drop s d)) exact;
          within = omega (arith, t.within);
          start = begins kept d from k s n t (omega arith);
        }
