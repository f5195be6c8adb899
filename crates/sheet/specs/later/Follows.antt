-- What is promised of the records behind a sheet's head: each says what the walk says from a place on.
-- Assumes nothing.
use Rattle.std.specs.Prelude.{◌≡◌, cond, List, ℕ, ◌+◌, ◌≤◌, length, take, drop, Result, Ok, Err}
use Rattle.rules.specs.Answers.{said, accepts}
use Rattle.rules.specs.Answers.{Answer}
use Rattle.rules.specs.Records.{records_of, first, kept, payload_at}
use Rattle.rules.specs.Sheets.{after_head}
use Rattle.sheet.specs.Shown.{Passes, Refuses}
use Rattle.rules.specs.declared.Refusal.{Refusal}

-- an answer stands for a verdict: `Ok` where no fault was found, and a refusal where it is said
abbrev pub Judges : (List ℕ → List ℕ) → Answer → Type 0
Judges verdict a = (then : List ℕ) → verdict then ≡ cond (accepts (said a)) then (said a)

-- the verdict of the walk behind a head whose blocks are n bytes
abbrev pub behind : List ℕ → ℕ → ℕ → List ℕ → List ℕ
behind d from n then = after_head n then (kept (records_of (drop from d)))

-- the block record, behind a head
pub record Blocked (d : List ℕ) (from n s : ℕ) : Type 0 where
  pub passes : Passes (behind d from n)
  pub payload : (first (kept (records_of (drop from d)))).payload ≡ take n (drop s d)
  pub within : s + n ≤ length d
  pub start : payload_at from (records_of (drop from d)) ≡ s

abbrev pub Follows : List ℕ → ℕ → ℕ → Result ℕ Refusal → Type 0
Follows d from n (Ok s) = Blocked d from n s
Follows d from n (Err a) = Refuses (behind d from n) a
