-- The checks of each older viewer's reader.
-- Assumes nothing.
use Rattle.std.specs.Prelude.{List, ℕ}
use Rattle.rules.specs.Answers.{Check, picture_checks, exact_checks, data_checks, exact_data_checks}
use Rattle.rules.specs.declared.Picture.{Picture}
use Rattle.guard.specs.declared.Viewer.{Viewer}
use Rattle.guard.specs.declared.Viewer.TheVariants.{Etc1, Opaque}

-- those of `strict_checks` and of `opaque_checks`, by the lengths
abbrev pub checks_for : Viewer → Picture → ℕ → ℕ → List Check
checks_for Etc1 p bytes elements = exact_checks 8 p bytes elements
checks_for Opaque p bytes elements = picture_checks 8 p bytes elements

-- and those of `strict_check` and of `opaque_check`, without an image
abbrev pub data_checks_for : Viewer → Picture → ℕ → List Check
data_checks_for Etc1 p bytes = exact_data_checks 8 p bytes
data_checks_for Opaque p bytes = data_checks 8 p bytes
