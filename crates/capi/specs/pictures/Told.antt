-- What a caller from C is told: a reader's own promise, with the answer as document 01's number of it.
-- Assumes nothing.
use Rattle.std.specs.Prelude.{◌≡◌, ℕ, get_or}
use Rattle.rules.specs.Answers.{said}
use Rattle.rules.specs.Answers.{Answer}

-- the number of an answer, the first of what it says on paper
abbrev pub answer_number : Answer → ℕ
answer_number a = get_or (said a) 0 0

-- the block that an answer names, the second of what it says, or what stood there where it names none
abbrev pub block_or_lem : Answer → ℕ → ℕ
block_or_lem a stood = get_or (said a) 1 stood

-- what a reader that promises `Reads answer` tells a caller who is handed the number alone
pub record Told (Reads : Answer → Type 0) (number : ℕ) : Type 0 where
  pub answer : Answer
  pub reads : Reads answer
  pub says : number ≡ answer_number answer
