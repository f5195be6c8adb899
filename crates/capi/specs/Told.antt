-- What a caller from C is told of sheets, and of blocks that are checked or baked; of readers crates/capi/specs says it.
-- Assumes nothing.
use Rattle.std.specs.Prelude.{◌≡◌, List, ℕ, get_or, Result, Ok, Err, ⊤}
use Rattle.std.specs.Result.{result_unwrap_or}
use Rattle.rules.specs.Answers.{answered}
use Rattle.rules.specs.FileFormats.{format_number}
use Rattle.rules.specs.Sheets.{told, TellsHead, WritesSheet}
use Rattle.rules.specs.Checking.{baking_said}
use Rattle.rules.specs.declared.BakingRefusal.{BakingRefusal}
use Rattle.rules.specs.declared.Head.{Head}
use Rattle.rules.specs.declared.Picture.{Picture}
use Rattle.rules.specs.declared.Refusal.{Refusal}
use Rattle.capi.specs.pictures.Told.{answer_number}

-- a field of the head that a sheet holds, or what stood there where it is refused
abbrev pub head_or : (Head → ℕ) → Result Head Refusal → ℕ → ℕ
head_or field (Ok h) stood = field h
head_or field (Err r) stood = stood

-- the head's reader, with three numbers for its values
pub record HeadTold (d : List ℕ) (format width height : ℕ) (number format' width' height' : ℕ) : Type 0 where
  pub sheet : Result Head Refusal
  pub tells : TellsHead d sheet
  pub says : number ≡ get_or (told sheet) 0 0
  pub the_format : format' ≡ head_or (λ h. format_number h.format) sheet format
  pub the_width : width' ≡ head_or (λ h. h.width) sheet width
  pub the_height : height' ≡ head_or (λ h. h.height) sheet height

-- the writer, with a number for the bytes that it wrote
pub record WriterTold (f : ℕ) (p : Picture) (b out : List ℕ) (stood number : ℕ) (new : List ℕ) (bytes : ℕ) : Type 0 where
  pub written : Result ℕ Refusal
  pub writes : WritesSheet f p b out written new
  pub says : number ≡ answer_number (answered written)
  pub the_bytes : bytes ≡ result_unwrap_or written stood

-- the checker or the baker that promises `Promised answer`, with the answer as its number
pub record BakingTold (Promised : Result ⊤ BakingRefusal → Type 0) (number : ℕ) : Type 0 where
  pub answer : Result ⊤ BakingRefusal
  pub promised : Promised answer
  pub says : number ≡ get_or (baking_said answer) 0 0
