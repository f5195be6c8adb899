-- Document 01's specimens, S1 to S18, 02's one of the lowest signed base, and the table of refusals for every reader, as rows.
-- Held.antt has the test.
-- Assumes nothing.
use mathlib.Core.Bool.{true, false}
use mathlib.Core.List.{List, [], ◌∷◌, ◌++◌}
use Prim.Native.Nat.{ℕ}
use lib.ListN.{replicate}
use Rattle.rules.specs.declared.Format.TheVariants.{Etc1, Etc2Rgb, Etc2Rgba1, Etc2Rgba8, EacR, EacRSigned, EacRg, EacRgSigned, Bc1, Bc1Alpha, Bc3, Bc7, Bc2, Bc4, Bc4Signed, Bc5, Bc5Signed}
use Rattle.rules.proofs.Rows.{Reader, picture, strict, block, alpha_half, channel, alpha_into, Row, shows, refuses, answers}

-- one colour everywhere; rows of the tile; two columns and two columns
abbrev pub all : ℕ → List ℕ
all v = replicate 16 v

abbrev pub rows : ℕ → ℕ → ℕ → ℕ → List ℕ
rows a b c d = replicate 4 a ++ (replicate 4 b ++ (replicate 4 c ++ replicate 4 d))

abbrev pub columns : ℕ → ℕ → List ℕ
columns a b = let r = a ∷ a ∷ b ∷ b ∷ [] in r ++ (r ++ (r ++ r))

-- "A single block given to a picture reader is a 4 by 4 picture."
abbrev pub one : Reader → ℕ → List ℕ → Row
one reader n pixels = shows reader 4 4 (n ∷ []) pixels 1

abbrev pub stays : Reader → ℕ → List ℕ → Row
stays reader n verdict = refuses reader 4 4 (n ∷ []) 17 verdict

-- "Specimens from the fitting bench", S1 to S18
unfoldable pub bench : List Row
bench =
    -- S1
    one (picture Etc1) 0x0000000000000000 (all 0xFF020202)
    ∷ one (picture Etc2Rgb) 0x0000000000000000 (all 0xFF020202)
    ∷ one (picture Etc2Rgba1) 0x0000000000000000 (all 0xFF000000)
    -- S2
    ∷ one (picture Etc1) 0x0400000200000000 (columns 0xFF020202 0xFFE90202)
    ∷ one (picture Etc2Rgb) 0x0400000200000000 (all 0xFF000000)
    ∷ stays strict 0x0400000200000000 (4 ∷ 0 ∷ [])
    -- S3
    ∷ one (picture Etc2Rgb) 0x0004000200000000 (all 0xFF060606)
    -- S4
    ∷ one (picture Etc2Rgb) 0x000004020000003F (rows 0xFF000000 0xFF000040 0xFF000080 0xFF0000BF)
    -- S5
    ∷ one (picture Etc2Rgba1) 0x80000000FFFF0000 (all 0)
    -- S6 to S9; of the accepted ones the document has the verdict, and the crate the pixels
    ∷ one strict 0xF800000200000000 (all 0xFFFF0202)
    ∷ stays strict 0xF900000200000000 (4 ∷ 0 ∷ [])
    ∷ one strict 0x2400000200000000 (columns 0xFF230202 0xFF020202)
    ∷ stays strict 0x1C00000200000000 (4 ∷ 0 ∷ [])
    -- S10 to S12
    ∷ one alpha_half 0x8010000000000000 (all 0x7D111111)
    ∷ one alpha_half 0x8000000000000000 (all 0x80111111)
    ∷ one alpha_half 0x0210000000000000 (all 0x00111111)
    -- S13 to S15
    ∷ one (picture EacR) 0x8010000000000000 (all 0xFF7D0000)
    ∷ one (picture EacR) 0x8000000000000000 (all 0xFF800000)
    ∷ one (picture EacRSigned) 0x0010000000000000 (all 0xFF7C0000)
    -- 02's "A block 80 10 whose index is 6 everywhere gives the byte 7 by the old rule, 8 by the new.", and "All other bases answer as
    -- before.": the next base, whose byte is 8 as it was, and the same base read as unsigned
    ∷ one (picture EacRSigned) 0x8010DB6DB6DB6DB6 (all 0xFF080000)
    ∷ one (picture EacRSigned) 0x8110DB6DB6DB6DB6 (all 0xFF080000)
    ∷ one (picture EacR) 0x8010DB6DB6DB6DB6 (all 0xFF880000)
    -- signed BC4: the greatest value, 127, is 254, and -128 is read as -127, which is 0
    ∷ one (picture Bc4Signed) 0x7F80000000000000 (all 0xFFFE0000)
    ∷ one (picture Bc4Signed) 0x807F000000000000 (all 0xFF000000)
    -- S16
    ∷ shows (picture Etc1) 5 1 (0x0400000200000000 ∷ 0x0000000000000000 ∷ [])
    (0xFF020202 ∷ 0xFF020202 ∷ 0xFFE90202 ∷ 0xFFE90202 ∷ 0xFF020202 ∷ [])
    1
    ∷ refuses strict 5 1 (0x0400000200000000 ∷ 0x0000000000000000 ∷ []) 6 (4 ∷ 0 ∷ [])
    -- S17
    ∷ answers (picture Etc1) 5 5 31 25 (2 ∷ [])
    ∷ answers (picture Etc1) 5 5 32 24 (3 ∷ [])
    ∷ answers (picture Etc1) 5 5 31 24 (2 ∷ [])
    ∷ shows (picture Etc1) 5 5 (0 ∷ 0 ∷ 0 ∷ 0x8000000200000000 ∷ []) (replicate 24 0xFF020202 ++ (0xFF860202 ∷ [])) 0
    -- S18, of which M-104 says: "S18's refused width becomes 65,537"
    ∷ answers (picture Etc1) 16384 0 0 0 (0 ∷ [])
    ∷ answers (picture Etc1) 65537 0 0 0 (1 ∷ [])
    ∷ []

-- 1 "width or height above 16,384", which M-104 makes 65,536, 2 "fewer bytes than blocks * block size", 3 "fewer image elements than width * height",
-- "in that order"; "Width 0 or height 0, where the checks pass, is accepted and changes nothing": one byte short, just enough
abbrev pub refusals : Reader → ℕ → ℕ → List Row
refusals reader short enough =
    answers reader 65536 0 0 1 (0 ∷ [])
    ∷ answers reader 0 65536 0 1 (0 ∷ [])
    ∷ answers reader 65537 0 0 1 (1 ∷ [])
    ∷ answers reader 0 65537 0 1 (1 ∷ [])
    ∷ answers reader 65537 1 0 0 (1 ∷ [])
    ∷ answers reader 5 9 short 45 (2 ∷ [])
    ∷ answers reader 5 9 enough 44 (3 ∷ [])
    ∷ answers reader 5 9 short 44 (2 ∷ [])
    ∷ []

-- "block readers check 5, then 2 (fewer than 8 or 16 bytes), then 3 (fewer than 16 elements)"
abbrev pub block_refusals : Reader → ℕ → ℕ → List Row
block_refusals reader short enough =
    answers reader 4 4 short 16 (2 ∷ []) ∷ answers reader 4 4 enough 15 (3 ∷ []) ∷ answers reader 4 4 short 15 (2 ∷ []) ∷ []

-- "channel above 3"
abbrev pub channel_refusals : (ℕ → Reader) → List Row
channel_refusals into =
    answers (into 4) 4 4 8 16 (5 ∷ []) ∷ answers (into 4) 4 4 7 15 (5 ∷ []) ∷ block_refusals (into 3) 7 8

unfoldable pub table : List Row
table =
    refusals (picture Etc1) 47 48
    ++ refusals (picture Etc2Rgb) 47 48
    ++ refusals (picture Etc2Rgba1) 47 48
    ++ refusals (picture Etc2Rgba8) 95 96
    ++ refusals (picture EacR) 47 48
    ++ refusals (picture EacRSigned) 47 48
    ++ refusals (picture EacRg) 95 96
    ++ refusals (picture EacRgSigned) 95 96
    ++ refusals (picture Bc1) 47 48
    ++ refusals (picture Bc1Alpha) 47 48
    ++ refusals (picture Bc3) 95 96
    ++ refusals (picture Bc7) 95 96
    ++ refusals (picture Bc2) 95 96
    ++ refusals (picture Bc4) 47 48
    ++ refusals (picture Bc4Signed) 47 48
    ++ refusals (picture Bc5) 95 96
    ++ refusals (picture Bc5Signed) 95 96
    ++ refusals strict 47 48
    ++ (refuses strict 4 4 (0x0400000200000000 ∷ []) 15 (3 ∷ []) ∷ [])
    ++ block_refusals (block Etc1) 7 8
    ++ block_refusals (block Etc2Rgb) 7 8
    ++ block_refusals (block Etc2Rgba1) 7 8
    ++ block_refusals (block Etc2Rgba8) 15 16
    ++ block_refusals (block EacR) 7 8
    ++ block_refusals (block EacRSigned) 7 8
    ++ block_refusals (block EacRg) 15 16
    ++ block_refusals (block EacRgSigned) 15 16
    ++ block_refusals (block Bc1) 7 8
    ++ block_refusals (block Bc1Alpha) 7 8
    ++ block_refusals (block Bc3) 15 16
    ++ block_refusals (block Bc7) 15 16
    ++ block_refusals (block Bc2) 15 16
    ++ block_refusals (block Bc4) 7 8
    ++ block_refusals (block Bc4Signed) 7 8
    ++ block_refusals (block Bc5) 15 16
    ++ block_refusals (block Bc5Signed) 15 16
    ++ block_refusals alpha_half 7 8
    ++ channel_refusals (channel false)
    ++ channel_refusals (channel true)
    ++ channel_refusals alpha_into
