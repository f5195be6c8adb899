-- M-104's pictures with a pitch, as rows: the gaps keep their 11111111, and each refusal stands in its place. The pixels are those that
-- Specimens.antt has of the same blocks; places, lengths and answers are worked out by hand from the request's sentences.
-- Assumes nothing.
use mathlib.Core.List.{List, [], ◌∷◌, ◌++◌}
use Prim.Native.Nat.{ℕ}
use lib.ListN.{replicate}
use Rattle.rules.specs.declared.Format.TheVariants.{Etc1, Etc2Rgb, Etc2Rgba1, Etc2Rgba8, EacR, EacRSigned, EacRg, EacRgSigned, Bc1, Bc1Alpha, Bc3, Bc7, Bc2, Bc4, Bc4Signed, Bc5, Bc5Signed}
use Rattle.rules.proofs.Rows.{Reader, padded, padded_strict, Row, shows, refuses, answers}

-- five pixels of S2 and S1 side by side, and a gap of two elements
abbrev five : List ℕ
five = 0xFF020202 ∷ 0xFF020202 ∷ 0xFFE90202 ∷ 0xFFE90202 ∷ 0xFF020202 ∷ []

abbrev gap : List ℕ
gap = 0x11111111 ∷ 0x11111111 ∷ []

abbrev nine : List ℕ
nine = five ++ gap ++ gap

-- "pixel (x, y) is element y * pitch + x"; "Elements in the gaps keep their value", and so do those behind the last pixel: S16 with a
-- pitch, which is of no account in a single row; S17's size, whose block 3 shows only element 32, also with a pitch that would be a block
-- wider than the width; two rows of S4, seven apart
abbrev pictures : List Row
pictures =
    shows (padded Etc1 65536) 5 1 (0x0400000200000000 ∷ 0 ∷ []) five 1
    ∷ shows (padded Etc1 7) 5 5 (0x0400000200000000 ∷ 0 ∷ 0 ∷ 0x8000000200000000 ∷ [])
    (five ++ gap ++ five ++ gap ++ five ++ gap ++ five ++ gap ++ (replicate 4 0xFF020202 ++ (0xFF860202 ∷ []))) 3
    ∷ shows (padded Etc1 9) 5 5 (0x0400000200000000 ∷ 0 ∷ 0 ∷ 0x8000000200000000 ∷ [])
    (nine ++ nine ++ nine ++ nine ++ (replicate 4 0xFF020202 ++ (0xFF860202 ∷ []))) 0
    ∷ shows (padded Etc2Rgb 7) 4 2 (0x000004020000003F ∷ []) (replicate 4 0xFF000000 ++ replicate 3 0x11111111 ++ replicate 4 0xFF000040) 1
    ∷ shows (padded_strict 6) 4 2 (0xF800000200000000 ∷ []) (replicate 4 0xFFFF0202 ++ gap ++ replicate 4 0xFFFF0202) 0
    -- the gap is no pixel of a fifth column: a second block is left over, and was not asked for
    ∷ refuses (padded_strict 5) 4 1 (0xF800000200000000 ∷ 0x0400000200000000 ∷ []) 4 (6 ∷ [])
    ∷ shows (padded_strict 5) 4 1 (0xF800000200000000 ∷ []) (replicate 4 0xFFFF0202) 1
    ∷ refuses (padded_strict 7) 5 1 (0xF800000200000000 ∷ 0x0400000200000000 ∷ []) 5 (4 ∷ 1 ∷ [])
    ∷ []

-- "The limit in refusal 1 rises to 65,536 for width, height and pitch." "A pitch below the width is refused with 12, tested after 1.";
-- of 5 by 9 with a pitch of 8: one byte short, just enough, and "(height - 1) * pitch + width" elements, which are 69
abbrev pitch_refusals : (ℕ → Reader) → ℕ → ℕ → List Row
pitch_refusals reader short enough =
    answers (reader 65536) 0 5 0 0 (0 ∷ [])
    ∷ answers (reader 65537) 0 5 0 0 (1 ∷ [])
    ∷ answers (reader 65537) 5 9 0 0 (1 ∷ [])
    ∷ answers (reader 65536) 65537 9 0 0 (1 ∷ [])
    ∷ answers (reader 65537) 65537 0 0 0 (1 ∷ [])
    ∷ answers (reader 4) 5 65537 0 0 (1 ∷ [])
    ∷ answers (reader 65535) 65536 0 0 0 (12 ∷ [])
    ∷ answers (reader 4) 5 0 0 0 (12 ∷ [])
    ∷ answers (reader 0) 1 9 enough 69 (12 ∷ [])
    ∷ answers (reader 4) 5 9 short 68 (12 ∷ [])
    ∷ answers (reader 0) 0 9 0 0 (0 ∷ [])
    ∷ answers (reader 8) 5 0 0 0 (0 ∷ [])
    ∷ answers (reader 8) 5 9 short 69 (2 ∷ [])
    ∷ answers (reader 8) 5 9 short 68 (2 ∷ [])
    ∷ answers (reader 8) 5 9 enough 68 (3 ∷ [])
    ∷ []

unfoldable pub pitches : List Row
pitches =
    pictures
    ++ pitch_refusals (padded Etc1) 47 48
    ++ pitch_refusals (padded Etc2Rgb) 47 48
    ++ pitch_refusals (padded Etc2Rgba1) 47 48
    ++ pitch_refusals (padded Etc2Rgba8) 95 96
    ++ pitch_refusals (padded EacR) 47 48
    ++ pitch_refusals (padded EacRSigned) 47 48
    ++ pitch_refusals (padded EacRg) 95 96
    ++ pitch_refusals (padded EacRgSigned) 95 96
    ++ pitch_refusals (padded Bc1) 47 48
    ++ pitch_refusals (padded Bc1Alpha) 47 48
    ++ pitch_refusals (padded Bc3) 95 96
    ++ pitch_refusals (padded Bc7) 95 96
    ++ pitch_refusals (padded Bc2) 95 96
    ++ pitch_refusals (padded Bc4) 47 48
    ++ pitch_refusals (padded Bc4Signed) 47 48
    ++ pitch_refusals (padded Bc5) 95 96
    ++ pitch_refusals (padded Bc5Signed) 95 96
    ++ pitch_refusals padded_strict 47 48
