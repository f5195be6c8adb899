-- What the walk over a whole sheet promises the readers of it.
-- Assumes nothing.
use Rattle.std.specs.Prelude.{◌≡◌, List, ℕ, ◌+◌, ◌≤◌, length, take, drop, Result, Ok, Err}
use Rattle.rules.specs.declared.Head.{Head}
use Rattle.rules.specs.Records.{records_of, later, payload_at}
use Rattle.sheet.specs.Shown.{walk, Refuses, Shown}
use Rattle.rules.specs.declared.Refusal.{Refusal}
use Rattle.sheet.specs.declared.first.Found.{Found}

-- a sheet without a fault, whose blocks are the n bytes from place s on
pub record Sheeted (d : List ℕ) (h : Head) (s n : ℕ) : Type 0 where
  pub shown : Shown d h (take n (drop s d))
  pub within : s + n ≤ length d
  pub start : payload_at 15 (later (records_of d)) ≡ s

abbrev pub Finds : List ℕ → Result Found Refusal → Type 0
Finds d (Ok f) = Sheeted d f.head f.start f.length
Finds d (Err a) = Refuses (walk d) a
