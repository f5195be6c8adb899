-- One turn of the walk over records: what it meets from a place on.
-- Assumes nothing.
use Rattle.std.specs.Prelude.{◌≡◌, List, ℕ, ◌+◌, ◌≤◌, ◌<◌, length, take, drop, Result, Ok, Err, Option, Some, None}
use Rattle.rules.specs.Records.{Record, Records, more, ended, short, records_of, kept, payload_at}
use Rattle.rules.specs.declared.Refusal.{Refusal}
use Rattle.rules.specs.declared.Refusal.TheVariants.{CutShort}
use Rattle.sheet.specs.declared.records.Record as met

-- the record of kind k whose payload is the n bytes from place s on
abbrev pub at : List ℕ → ℕ → ℕ → ℕ → Record
at d k s n = record { kind = k; payload = take n (drop s d) }

-- a record is met, of all records or of those that `see` leaves: which, and where it ends
pub record Turn (see : Records → Records) (d : List ℕ) (from k s n : ℕ) : Type 0 where
  pub meets : see (records_of (drop from d)) ≡ more (at d k s n) (see (records_of (drop (s + n) d)))
  pub within : s + n ≤ length d
  pub beyond : from < s
  -- it begins six bytes before its payload, and all before it is skipped
  pub front : ℕ
  pub six : s ≡ front + 6
  pub there : records_of (drop front d) ≡ more (at d k s n) (records_of (drop (s + n) d))
  pub passed : payload_at from (records_of (drop from d)) ≡ payload_at front (records_of (drop front d))

abbrev pub Sees : (Records → Records) → List ℕ → ℕ → Result (Option met.Record) Refusal → Type 0
Sees see d from (Ok (Some r)) = Turn see d from r.kind r.start r.length
Sees see d from (Ok None) = see (records_of (drop from d)) ≡ ended
Sees see d from (Err a) = (a ≡ CutShort) × (see (records_of (drop from d)) ≡ short)

-- what stands at a place
abbrev pub all : Records → Records
all rs = rs

abbrev pub Stands : List ℕ → ℕ → Result (Option met.Record) Refusal → Type 0
Stands d from m = Sees all d from m

-- what is met from a place on, where skipped records are passed over
abbrev pub Meets : List ℕ → ℕ → Result (Option met.Record) Refusal → Type 0
Meets d from m = Sees kept d from m
