-- The rows of M-107: strict ETC1 with more bytes than its blocks need, and that no other reader asks.
-- Assumes nothing.
use mathlib.Core.List.{List, [], ◌∷◌, ◌++◌}
use Prim.Native.Nat.{ℕ}
use lib.ListN.{replicate}
use Rattle.rules.specs.declared.Format.TheVariants.{Etc1, Etc2Rgb, Etc2Rgba1, Etc2Rgba8, EacR, EacRSigned, EacRg, EacRgSigned}
use Rattle.rules.proofs.Rows.{Reader, picture, strict, padded, padded_strict, Row, shows, refuses, answers}

-- "the strict reader refuses with 6 when there are more bytes than the blocks need, tested after 2 and before 3": one byte more, one
-- block more, as many bytes again; of no blocks; where 1 or 12 is due too, and where 3 or 4 is
abbrev longer : List Row
longer =
    answers strict 5 9 49 45 (6 ∷ [])
    ∷ answers strict 5 9 56 45 (6 ∷ [])
    ∷ answers strict 5 9 96 45 (6 ∷ [])
    ∷ answers strict 5 9 49 44 (6 ∷ [])
    ∷ answers strict 5 9 47 45 (2 ∷ [])
    ∷ answers strict 0 5 1 0 (6 ∷ [])
    ∷ answers strict 0 5 0 0 (0 ∷ [])
    ∷ answers strict 65537 0 1 0 (1 ∷ [])
    ∷ answers (padded_strict 4) 5 9 49 69 (12 ∷ [])
    ∷ answers (padded_strict 8) 5 9 49 69 (6 ∷ [])
    ∷ answers (padded_strict 8) 5 9 49 68 (6 ∷ [])
    ∷ refuses strict 4 4 (0x0400000200000000 ∷ 0xF800000200000000 ∷ []) 16 (6 ∷ [])
    ∷ shows strict 4 4 (0xF800000200000000 ∷ []) (replicate 16 0xFFFF0202) 1
    ∷ []

-- "The plain readers still ignore what follows": of a 4 by 4 picture one byte and as many again; of a picture without a block anything
abbrev ignored : Reader → ℕ → List Row
ignored reader more = answers reader 0 5 1 0 (0 ∷ []) ∷ answers reader 5 9 more 44 (3 ∷ []) ∷ []

unfoldable pub leftovers : List Row
leftovers =
    longer
    ++ (shows (picture Etc1) 4 4 (0xF800000200000000 ∷ 0x0400000200000000 ∷ []) (replicate 16 0xFFFF0202) 1
    ∷ shows (padded Etc1 5) 4 1 (0xF800000200000000 ∷ 0x0400000200000000 ∷ []) (replicate 4 0xFFFF0202) 1
    ∷ [])
    ++ ignored (picture Etc1) 49
    ++ ignored (picture Etc2Rgb) 96
    ++ ignored (picture Etc2Rgba1) 96
    ++ ignored (picture Etc2Rgba8) 97
    ++ ignored (picture EacR) 49
    ++ ignored (picture EacRSigned) 96
    ++ ignored (picture EacRg) 192
    ++ ignored (picture EacRgSigned) 97
    ++ ignored (padded Etc2Rgb 5) 49
