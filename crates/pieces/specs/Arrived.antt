-- The kept and the new bytes as one list.
-- Assumes nothing.
use Rattle.std.specs.Prelude.{List, ◌++◌, ℕ, take}
use Rattle.pieces.specs.declared.kept.Arrived.{Arrived}

abbrev pub all_of : Arrived → List ℕ
all_of a = take a.held a.kept ++ a.bytes.now
