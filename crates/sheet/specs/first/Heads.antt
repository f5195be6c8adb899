-- What is promised of a sheet's first record.
-- Assumes nothing.
use Rattle.std.specs.Prelude.{◌≡◌, true, false, List, ℕ, ◌≤◌, length, drop, Result, Ok, Err}
use Rattle.rules.specs.Answers.{too_large_lem}
use Rattle.rules.specs.declared.Head.{Head}
use Rattle.rules.specs.FileFormats.{format_number}
use Rattle.rules.specs.Records.{more, records_of}
use Rattle.rules.specs.Sheets.{sheet_limit, block_bytes_lem, size_in, is_head, head_in}
use Rattle.sheet.specs.Shown.{walk, Refuses, size_of_head, Begins}
use Rattle.rules.specs.declared.Refusal.{Refusal}
use Rattle.sheet.specs.declared.first.Found.{Found}

-- a head, with the place behind it and how many bytes its blocks are
pub record Headed (d : List ℕ) (h : Head) (from n : ℕ) : Type 0 where
  pub begins : Begins d h
  pub is_head_lem : is_head (head_in d) ≡ true
  pub fits : too_large_lem sheet_limit (size_in (head_in d)) ≡ false
  pub meets : records_of d ≡ more (head_in d) (records_of (drop from d))
  pub within : from ≤ length d
  pub fifteen : from ≡ 15
  pub bytes : n ≡ block_bytes_lem (format_number h.format) (size_of_head h)

abbrev pub Heads : List ℕ → Result Found Refusal → Type 0
Heads d (Ok f) = Headed d f.head f.start f.length
Heads d (Err a) = Refuses (walk d) a
