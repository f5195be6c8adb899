-- What a caller from C is told of files: the number of the answer, and the numbers of a file or of a level in an array that is lent.
-- Assumes nothing.
use Rattle.std.specs.Prelude.{◌≡◌, List, [], ◌∷◌, ℕ, get_or, Result, Ok, Err}
use Rattle.rules.specs.Files.{file_values, opened_said, OpensFile, found_said, FindsLevel}
use Rattle.rules.specs.declared.Refusal.{Refusal}
use Rattle.rules.specs.declared.FileFacts.{FileFacts}
use Rattle.rules.specs.declared.FileLevel.{FileLevel}

-- the nine numbers of a file, or what stood there where it is refused
abbrev pub file_or : Result FileFacts Refusal → List ℕ → List ℕ
file_or (Ok f) stood = file_values f
file_or (Err a) stood = stood

-- opening a file, with an array for the nine
pub record FileTold (d stood : List ℕ) (number : ℕ) (new : List ℕ) : Type 0 where
  pub answer : Result FileFacts Refusal
  pub opens : OpensFile d answer
  pub says : number ≡ get_or (opened_said answer) 0 0
  pub writes : new ≡ file_or answer stood

-- the four numbers of a level, likewise
abbrev pub level_or : Result FileLevel Refusal → List ℕ → List ℕ
level_or (Ok l) stood = l.width ∷ l.height ∷ l.start ∷ l.length ∷ []
level_or (Err a) stood = stood

pub record LevelTold (d : List ℕ) (n : ℕ) (stood : List ℕ) (number : ℕ) (new : List ℕ) : Type 0 where
  pub answer : Result FileLevel Refusal
  pub finds : FindsLevel d n answer
  pub says : number ≡ get_or (found_said answer) 0 0
  pub writes : new ≡ level_or answer stood
