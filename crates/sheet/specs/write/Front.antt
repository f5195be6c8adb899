-- The bytes of a sheet before its blocks.
-- Assumes nothing.
use Rattle.std.specs.Prelude.{List, ◌++◌, ℕ}
use Rattle.rules.specs.declared.Picture.{Picture}
use Rattle.numbers.specs.Numbers.{in_bytes}
use Rattle.rules.specs.Records.{encoded}
use Rattle.rules.specs.Sheets.{head_record}

-- the head's record, and the length and the kind of the record of n bytes of blocks
abbrev pub front_of_lem : ℕ → Picture → ℕ → List ℕ
front_of_lem f p n = encoded (head_record f p) ++ (in_bytes 4 n ++ in_bytes 2 2)
