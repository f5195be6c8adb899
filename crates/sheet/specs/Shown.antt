-- A sheet without a fault, and a walk that found one: what the readers' proofs and the theorems speak of.
-- Assumes nothing.
use Rattle.std.specs.Prelude.{◌≡◌, false, List, [], ℕ, ◌≤◌, ◌<◌, length}
use Rattle.rules.specs.Places.{sized}
use Rattle.rules.specs.Answers.{refusal_said, accepts}
use Rattle.rules.specs.FileFormats.{format_number}
use Rattle.rules.specs.declared.Refusal.{Refusal}
use Rattle.rules.specs.declared.Head.{Head}
use Rattle.rules.specs.declared.Picture.{Picture}
use Rattle.rules.specs.Records.{records_of}
use Rattle.rules.specs.Sheets.{sheet_limit, block_bytes_lem, format_in, size_in, walk_verdict, head_in, blocks_in}

-- what the walk over some bytes says, given what is still to be said where it finds no fault
abbrev pub walk : List ℕ → List ℕ → List ℕ
walk d then = walk_verdict then (records_of d)

-- a verdict that finds no fault, whatever is still to be said
abbrev pub Passes : (List ℕ → List ℕ) → Type 0
Passes verdict = (then : List ℕ) → verdict then ≡ then

-- and one that finds a fault: what is still to be said is never said
pub record Halts (verdict : List ℕ → List ℕ) : Type 0 where
  pub alike : (then : List ℕ) → verdict then ≡ verdict []
  pub refused : accepts (verdict []) ≡ false

-- which is refused, whatever is still to be said
abbrev pub Refuses : (List ℕ → List ℕ) → Refusal → Type 0
Refuses verdict a = (then : List ℕ) → refusal_said a ≡ verdict then

-- the size that a head names
abbrev pub size_of_head : Head → Picture
size_of_head h = sized h.width h.height

-- a head that a sheet may have
pub record Sound (h : Head) : Type 0 where
  pub known : format_number h.format < 8
  pub narrow : h.width ≤ sheet_limit
  pub low : h.height ≤ sheet_limit

-- the head that some bytes begin with
pub record Begins (d : List ℕ) (h : Head) : Type 0 where
  pub format : format_in (head_in d) ≡ format_number h.format
  pub size : size_in (head_in d) ≡ size_of_head h
  pub sound : Sound h

-- bytes d are a sheet without a fault, with head h and blocks b
pub record Shown (d : List ℕ) (h : Head) (b : List ℕ) : Type 0 where
  pub passes : Passes (walk d)
  pub begins : Begins d h
  pub blocks : blocks_in d ≡ b
  pub exact : length b ≡ block_bytes_lem (format_number h.format) (size_of_head h)
