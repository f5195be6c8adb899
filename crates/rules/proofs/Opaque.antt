-- The rows of M-109: RGBA1 for an opaque-only viewer. The pixels are those that Specimens.antt has of the same blocks under ETC2 RGB;
-- lengths and answers are worked out by hand from the request's sentences.
-- Assumes nothing.
use mathlib.Core.List.{List, [], ◌∷◌, ◌++◌}
use lib.ListN.{replicate}
use Rattle.rules.proofs.Rows.{opaque, padded_opaque, Row, shows, refuses, answers}
use Rattle.rules.proofs.Specimens.{all, rows, columns, one, stays}

-- "Where it accepts, every pixel equals the Khronos RGB reading": S2, S3 and S4, which are T, H and planar, and S6 and S8, differential
abbrev shown : List Row
shown =
    one opaque 0x0400000200000000 (all 0xFF000000)
    ∷ one opaque 0x0004000200000000 (all 0xFF060606)
    ∷ one opaque 0x000004020000003F (rows 0xFF000000 0xFF000040 0xFF000080 0xFF0000BF)
    ∷ one opaque 0xF800000200000000 (all 0xFFFF0202)
    ∷ one opaque 0x2400000200000000 (columns 0xFF230202 0xFF020202)
    -- what follows the blocks is not looked at, bytes or a block that is clear
    ∷ shows opaque 4 4 (0xF800000200000000 ∷ 0 ∷ []) (all 0xFFFF0202) 1
    ∷ shows (padded_opaque 6) 4 2 (0xF800000200000000 ∷ [])
    (replicate 4 0xFFFF0202 ++ replicate 2 0x11111111 ++ replicate 4 0xFFFF0202) 1
    ∷ []

-- "refuses with 11 exactly when some block has its opaque bit clear, names the first one, and paints nothing then": of each kind, planar
-- too, which shows the same whatever that bit is; every other bit of its byte set; the first of two, and the last
abbrev clear : List Row
clear =
    stays opaque 0x0000000000000000 (11 ∷ 0 ∷ [])
    ∷ stays opaque 0x0400000000000000 (11 ∷ 0 ∷ [])
    ∷ stays opaque 0x0004000000000000 (11 ∷ 0 ∷ [])
    ∷ stays opaque 0x000004000000003F (11 ∷ 0 ∷ [])
    ∷ stays opaque 0xF80000FDFFFFFFFF (11 ∷ 0 ∷ [])
    ∷ refuses opaque 13 1 (0xF800000200000000 ∷ 0 ∷ 0x0400000200000000 ∷ 0 ∷ []) 13 (11 ∷ 1 ∷ [])
    ∷ refuses opaque 4 9 (0xF800000200000000 ∷ 0x0400000200000000 ∷ 0x000004000000003F ∷ []) 36 (11 ∷ 2 ∷ [])
    ∷ refuses (padded_opaque 7) 5 1 (0xF800000200000000 ∷ 0 ∷ []) 5 (11 ∷ 1 ∷ [])
    ∷ []

-- "Checks 1, 12, 2, 3 come first.": every byte of these is 00, so that 11 is due in each picture that has a block
abbrev first : List Row
first =
    answers opaque 5 9 47 45 (2 ∷ [])
    ∷ answers opaque 5 9 47 44 (2 ∷ [])
    ∷ answers opaque 5 9 48 44 (3 ∷ [])
    ∷ answers opaque 5 9 48 45 (11 ∷ 0 ∷ [])
    ∷ answers opaque 5 9 49 45 (11 ∷ 0 ∷ [])
    ∷ answers opaque 65537 9 48 45 (1 ∷ [])
    ∷ answers opaque 5 65537 48 45 (1 ∷ [])
    ∷ answers opaque 65536 0 0 0 (0 ∷ [])
    ∷ answers opaque 0 5 1 0 (0 ∷ [])
    ∷ answers (padded_opaque 65537) 5 9 48 69 (1 ∷ [])
    ∷ answers (padded_opaque 65537) 65537 0 0 0 (1 ∷ [])
    ∷ answers (padded_opaque 4) 5 9 47 68 (12 ∷ [])
    ∷ answers (padded_opaque 4) 5 9 48 69 (12 ∷ [])
    ∷ answers (padded_opaque 8) 5 9 47 68 (2 ∷ [])
    ∷ answers (padded_opaque 8) 5 9 48 68 (3 ∷ [])
    ∷ answers (padded_opaque 8) 5 9 48 69 (11 ∷ 0 ∷ [])
    ∷ []

unfoldable pub opaques : List Row
opaques = shown ++ clear ++ first
