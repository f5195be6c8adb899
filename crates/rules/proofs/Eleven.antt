-- The rows of M-110: whole values in images of 16-bit numbers. The values are Mesa's, whose sixteen bits are 32 times them and more; places,
-- lengths and answers are worked out by hand from the request's sentences.
-- Assumes nothing.
use mathlib.Core.Bool.{Bool, true, false, ◌&&◌}
use mathlib.Core.List.{List, [], ◌∷◌, ◌++◌}
use mathlib.Core.Path.{◌≡◌}
use Prim.Native.Nat.{ℕ, ◌+◌, ◌*◌, ◌-◌}
use lib.Dec.{T}
use lib.IntN.{pos}
use lib.ListN.{length, replicate}
use Rattle.rules.specs.Notation.{minus}
use Rattle.rules.specs.Places.{pitched, needed, painted}
use Rattle.rules.specs.Answers.{Answer, said, left}
use Rattle.rules.specs.Channels.{alpha_step}
use Rattle.rules.specs.Whole.{byte_from, eac_whole_lem, whole_pixel, whole_picture, whole_verdict, ReadsWhole}
use Rattle.rules.proofs.Rows.{bytes, same}

-- A row says whether the values are signed, how many there are to a pixel, the width, the height and the pitch, and the blocks, each eight
-- bytes as one number.
-- shows: accepted, these elements stand in an image of 1111 (hex), and so many more stay as they are
-- answers: so many bytes of 00, so many elements of 1111, what is said, and all stay as they are
data Row : Type 0 where
  shows : Bool → ℕ → ℕ → ℕ → ℕ → List ℕ → List ℕ → ℕ → Row
  answers : Bool → ℕ → ℕ → ℕ → ℕ → ℕ → ℕ → List ℕ → Row

-- both ends of the clamp, multipliers of 0, 3 and 12, the lowest signed base and the next, indices that go down the columns; "RG as red then
-- green"; a pitch "in pixels", rows with a gap, clipped tiles, an image that is just long enough
pictures : List Row
pictures =
    shows false 1 4 4 4 (0x8010000000000000 ∷ [])
    (replicate 16 0x3EC) 1
    ∷ shows false 1 4 4 4 (0x8000053977053977 ∷ [])
    (0x401 ∷ 0x406 ∷ 0x401 ∷ 0x406 ∷ 0x3FE ∷ 0x409 ∷ 0x3FE ∷ 0x409 ∷ 0x3FB ∷ 0x40C ∷ 0x3FB ∷ 0x40C ∷ 0x3F5 ∷ 0x412 ∷ 0x3F5 ∷ 0x412 ∷ []) 0
    ∷ shows false 1 4 4 4 (0xFFF0FFFFFFFFFFFF ∷ [])
    (replicate 16 0x7FF) 0
    ∷ shows false 1 4 4 4 (0x00F06DB6DB6DB6DB ∷ [])
    (replicate 16 0x0) 0
    ∷ shows false 1 4 4 4 (0x7339053977053977 ∷ [])
    (0x36C ∷ 0x3B4 ∷ 0x36C ∷ 0x3B4 ∷ 0x324 ∷ 0x3FC ∷ 0x324 ∷ 0x3FC ∷ 0x2DC ∷ 0x444 ∷ 0x2DC ∷ 0x444 ∷ 0x2AC ∷ 0x474 ∷ 0x2AC ∷ 0x474 ∷ []) 0
    ∷ shows false 1 4 4 4 (0x80C4053977053977 ∷ [])
    (0x2E4 ∷ 0x4C4 ∷ 0x2E4 ∷ 0x4C4 ∷ 0x1C4 ∷ 0x5E4 ∷ 0x1C4 ∷ 0x5E4 ∷ 0x104 ∷ 0x6A4 ∷ 0x104 ∷ 0x6A4 ∷ 0x0 ∷ 0x7FF ∷ 0x0 ∷ 0x7FF ∷ []) 0
    ∷ shows true 1 4 4 4 (0x8010DB6DB6DB6DB6 ∷ [])
    (replicate 16 0xFC48) 0
    ∷ shows true 1 4 4 4 (0x8110DB6DB6DB6DB6 ∷ [])
    (replicate 16 0xFC48) 0
    ∷ shows true 1 4 4 4 (0x80F06DB6DB6DB6DB ∷ [])
    (replicate 16 0xFC01) 0
    ∷ shows true 1 4 4 4 (0x7FF0FFFFFFFFFFFF ∷ [])
    (replicate 16 0x3FF) 0
    ∷ shows true 1 4 4 4 (0x0005053977053977 ∷ [])
    (0xFFFD ∷ 0x2 ∷ 0xFFFD ∷ 0x2 ∷ 0xFFF9 ∷ 0x6 ∷ 0xFFF9 ∷ 0x6 ∷ 0xFFF7 ∷ 0x8 ∷ 0xFFF7 ∷ 0x8 ∷ 0xFFF5 ∷ 0xA ∷ 0xFFF5 ∷ 0xA ∷ []) 0
    ∷ shows true 1 4 4 4 (0xE42B053977053977 ∷ [])
    (0xFF00 ∷ 0xFF30 ∷ 0xFF00 ∷ 0xFF30 ∷ 0xFED0 ∷ 0xFF60 ∷ 0xFED0 ∷ 0xFF60 ∷ 0xFEB0 ∷ 0xFF80 ∷ 0xFEB0 ∷ 0xFF80 ∷ 0xFE80 ∷ 0xFFB0 ∷ 0xFE80 ∷ 0xFFB0 ∷ []) 2
    ∷ shows true 1 4 4 4 (0x0110000000000000 ∷ [])
    (replicate 16 0xFFF0) 0
    ∷ shows false 1 5 3 7 (0x2A17053977053977 ∷ 0x9000249249249249 ∷ [])
    (0x13C ∷ 0x164 ∷ 0x13C ∷ 0x164 ∷ 0x47E ∷ 0x1111 ∷ 0x1111 ∷ 0x12C ∷ 0x174 ∷ 0x12C ∷ 0x174 ∷ 0x47E ∷ 0x1111 ∷ 0x1111 ∷ 0x114 ∷ 0x18C ∷ 0x114 ∷ 0x18C ∷ 0x47E ∷ []) 3
    ∷ shows false 2 4 4 4 (0x2A17053977053977 ∷ 0x9140977053977053 ∷ [])
    (0x13C ∷ 0x4CC ∷ 0x164 ∷ 0x42C ∷ 0x13C ∷ 0x4CC ∷ 0x164 ∷ 0x42C ∷ 0x12C ∷ 0x52C ∷ 0x174 ∷ 0x3CC ∷ 0x12C ∷ 0x52C ∷ 0x174 ∷ 0x3CC ∷ 0x114 ∷ 0x58C ∷ 0x18C ∷ 0x36C ∷ 0x114 ∷ 0x58C
    ∷ 0x18C ∷ 0x36C ∷ 0xFC ∷ 0x64C ∷ 0x1A4 ∷ 0x2AC ∷ 0xFC ∷ 0x64C ∷ 0x1A4 ∷ 0x2AC ∷ []) 0
    ∷ shows true 2 5 5 6 (0xE42B053977053977 ∷ 0x1303397705397705 ∷ 0x7F00053977053977 ∷ 0x80F0053977053977 ∷ 0x2000000000000000 ∷ 0x3000B6DB6DB6DB6D ∷ 0x4000492492492492
    ∷ 0xC010924924924924 ∷ [])
    (0xFF00 ∷ 0x94 ∷ 0xFF30 ∷ 0x8B ∷ 0xFF00 ∷ 0x94 ∷ 0xFF30 ∷ 0x8B ∷ 0x3F5 ∷ 0xFC01 ∷ 0x1111 ∷ 0x1111 ∷ 0xFED0 ∷ 0x9D ∷ 0xFF60 ∷ 0x99 ∷ 0xFED0 ∷ 0x9D ∷ 0xFF60 ∷ 0x99 ∷ 0x3F2
    ∷ 0xFC01 ∷ 0x1111 ∷ 0x1111 ∷ 0xFEB0 ∷ 0x92 ∷ 0xFF80 ∷ 0x96 ∷ 0xFEB0 ∷ 0x92 ∷ 0xFF80 ∷ 0x96 ∷ 0x3EF ∷ 0xFC01 ∷ 0x1111 ∷ 0x1111 ∷ 0xFE80 ∷ 0xA4 ∷ 0xFFB0 ∷ 0x9B ∷ 0xFE80 ∷ 0xA4
    ∷ 0xFFB0 ∷ 0x9B ∷ 0x3E9 ∷ 0xFC01 ∷ 0x1111 ∷ 0x1111 ∷ 0xFD ∷ 0x185 ∷ 0xFD ∷ 0x185 ∷ 0xFD ∷ 0x185 ∷ 0xFD ∷ 0x185 ∷ 0x1F7 ∷ 0xFE10 ∷ []) 3
    ∷ shows false 2 1 2 3 (0x1000053977053977 ∷ 0x2000053977053977 ∷ [])
    ((0x81 ∷ 0x101 ∷ []) ++ replicate 4 0x1111 ++ (0x7E ∷ 0xFE ∷ [])) 1
    ∷ []

-- "with 01's refusals and 12": with n to a pixel, of 5 by 9 with a pitch of 8, whose 6 blocks have 8 * n bytes each: one byte short, one
-- element short of n * 69; "for RG the image length rule .. doubled, the data length and the pitch, in pixels, are not"
refusals : Bool → ℕ → List Row
refusals signed n =
    answers signed n 65536 0 65536 0 0 (0 ∷ [])
    ∷ answers signed n 0 65536 0 0 0 (0 ∷ [])
    ∷ answers signed n 65537 0 65537 0 0 (1 ∷ [])
    ∷ answers signed n 0 65537 0 0 0 (1 ∷ [])
    ∷ answers signed n 0 0 65537 0 0 (1 ∷ [])
    ∷ answers signed n 5 9 65537 0 0 (1 ∷ [])
    ∷ answers signed n 65537 9 4 0 0 (1 ∷ [])
    ∷ answers signed n 5 9 4 0 0 (12 ∷ [])
    ∷ answers signed n 5 0 4 0 0 (12 ∷ [])
    ∷ answers signed n 5 9 8 (48 * n - 1) (69 * n) (2 ∷ [])
    ∷ answers signed n 5 9 8 (48 * n - 1) (69 * n - 1) (2 ∷ [])
    ∷ answers signed n 5 9 8 (48 * n) (69 * n - 1) (3 ∷ [])
    ∷ []

rows : List Row
rows = pictures ++ refusals false 1 ++ refusals true 1 ++ refusals false 2 ++ refusals true 2

untouched : ℕ → List ℕ
untouched n = replicate n 0x1111

leaves : Bool → ℕ → ℕ → ℕ → ℕ → List ℕ → List ℕ → List ℕ
leaves signed n w h p d image = left (whole_verdict n (pitched w h p) d image) (whole_picture signed n (pitched w h p) d image) image

holds : Row → Bool
holds (shows signed n w h p blocks elements spare) =
    same (whole_verdict n (pitched w h p) (bytes blocks) (untouched (length elements + spare))) (0 ∷ [])
    && same (leaves signed n w h p (bytes blocks) (untouched (length elements + spare))) (elements ++ untouched spare)
holds (answers signed n w h p count elements verdict) =
    same (whole_verdict n (pitched w h p) (replicate count 0) (untouched elements)) verdict
    && same (leaves signed n w h p (replicate count 0) (untouched elements)) (untouched elements)

every : List Row → Bool
every [] = true
every (r ∷ rs) = holds r && every rs

-- that is what a reader promises, no less and no more
no_less : (signed : Bool) (n w h p : ℕ) (d image : List ℕ) (answer : Answer) (new : List ℕ)
    → ReadsWhole signed n d (pitched w h p) image answer new
    → (said answer ≡ whole_verdict n (pitched w h p) d image) × (new ≡ leaves signed n w h p d image)
unfolding leaves
no_less signed n w h p d image answer new o = (o.says, o.leaves)

no_more : (signed : Bool) (n w h p : ℕ) (d image : List ℕ) (answer : Answer) (new : List ℕ)
    → said answer ≡ whole_verdict n (pitched w h p) d image
    → new ≡ leaves signed n w h p d image
    → ReadsWhole signed n d (pitched w h p) image answer new
unfolding leaves
no_more signed n w h p d image answer new a b = record { says = a; leaves = b }

-- "divided by 8, the signed one after adding 1023, rounded down": document 01's bytes of S13 to S15, and the ends of the range
eighths : List ℕ
eighths =
    byte_from false (pos 1004) ∷ byte_from false (pos 1025) ∷ byte_from false (pos 0) ∷ byte_from false (pos 2047) ∷ byte_from true (minus 24)
    ∷ byte_from true (minus 1023) ∷ byte_from true (minus 1016) ∷ byte_from true (minus 1015) ∷ byte_from true (pos 1023) ∷ []

hold : T (same eighths (0x7D ∷ 0x80 ∷ 0 ∷ 255 ∷ 0x7C ∷ 0 ∷ 0 ∷ 1 ∷ 255 ∷ []) && every rows)
unfolding eighths rows pictures refusals every holds leaves untouched needed painted alpha_step eac_whole_lem whole_pixel
hold = tt
