-- The test of the specimens, which antt computes over the very definitions that the readers promise; and that these are what
-- they promise. Document 01's rows are in Specimens.antt, those of M-104 in Pitches.antt, those of M-107 in
-- Leftovers.antt, those of M-109 in Opaque.antt, those of other decoders in Recorded.antt. Of the last those of one block are computed
-- here, with every edit of a definition, and all of them once, in crate recorded.
-- Assumes nothing.
use mathlib.Core.Bool.{Bool, true, false, cond, not, ◌&&◌}
use mathlib.Core.List.{List, [], ◌∷◌, ◌++◌}
use mathlib.Core.Path.{◌≡◌}
use Prim.Native.Nat.{ℕ, zero, suc, ◌/◌, ◌%◌}
use lib.Dec.{T, leb}
use lib.IntN.{pos}
use lib.ListN.{length}
use Rattle.std.specs.Prelude.{Ok, Err}
use Rattle.rules.specs.Notation.{minus, modulo}
use Rattle.rules.specs.Pixel.{alpha_of, red_of, green_of, blue_of}
use Rattle.rules.specs.Places.{sized, pitched, element, needed, inside, bytes_of, bytes_from, in_tile, tile, pixel_at, painted}
use Rattle.rules.specs.Answers.{Answer, said, Check, left, first_of}
use Rattle.rules.specs.Colour.{differential, wrapped, kind_by_sums_lem, out_of_range_lem}
use Rattle.rules.specs.Modes.{t_bases, t_distance, h_bases, not_less_lem, h_distance, planar_bases_lem, planar_channel, indexed}
use Rattle.rules.specs.Modes.{rgb_pixel, rgba1_pixel, etc1_pixel}
use Rattle.rules.specs.Channels.{alpha_step, alpha_byte, rgba8_pixel, eac_value, eac_byte, red_pixel, red_green_pixel}
use Rattle.numbers.specs.Numbers.{little}
use Rattle.rules.specs.Desktop.{bc1_pixel, bc3_alpha, bc3_pixel, bc2_alpha, bc2_pixel}
use Rattle.rules.specs.Rgtc.{half_byte, bc4_pixel, bc5_pixel}
use Rattle.rules.specs.Bptc.{two, three, anchor_of_two, anchor_of_three1, anchor_of_three2, subset, anchor}
use Rattle.rules.specs.Bc7.{mode_table, lowest, bits_before, pixel_in, bc7_pixel}
use Rattle.rules.specs.Formats.{size_of, shows_of}
use Rattle.rules.specs.Readers.{picture_of, picture_verdict, ReadsPicture, strict_checks, strict_verdict, ReadsStrict, opaque_checks, opaque_verdict, ReadsOpaque}
use Rattle.rules.specs.Readers.{block_verdict, block_painted, ReadsBlock, alpha_painted, ReadsAlpha, channel_verdict, channel_painted, ReadsChannel}
use Rattle.rules.specs.Readers.{replaced_painted, ReplacesChannel}
use Rattle.rules.specs.declared.Refusal.TheVariants.{TooLarge, ShortData, ShortImage, OutOfRange, NoChannel, LongData, NotOpaque, ShortPitch}
use Rattle.rules.specs.declared.Refusal.TheVariants.{HeaderCut, UnknownContainer, UnknownVersion, UnknownFormat, SizesDisagree}
use Rattle.rules.specs.declared.Refusal.TheVariants.{NotFlat, NoPixel, LevelsMissing, NoLevel, Supercompressed}
use Rattle.rules.specs.declared.Format.TheVariants.{Etc2Rgb, Etc2Rgba1}
use Rattle.rules.proofs.Rows.{Reader, picture, strict, opaque, padded, padded_strict, padded_opaque, block, alpha_half, channel, alpha_into, Row}
use Rattle.rules.proofs.Rows.{shows, packed, joins, refuses, answers}
use Rattle.rules.proofs.Rows.{case_of, bytes, same, kind_number}
use Rattle.rules.proofs.Specimens.{rows, columns, bench, table}
use Rattle.rules.proofs.Pitches.{pitches}
use Rattle.rules.proofs.Leftovers.{leftovers}
use Rattle.rules.proofs.Opaque.{opaques}
use Rattle.rules.proofs.Recorded.{recorded}

-- what a reader says of the bytes and the image that it is lent, and what it would paint
unfoldable pub verdict_of : Reader → ℕ → ℕ → List ℕ → List ℕ → List ℕ
verdict_of (picture f) w h d image = picture_verdict f (sized w h) d image
verdict_of strict w h d image = strict_verdict (sized w h) d image
verdict_of opaque w h d image = opaque_verdict (sized w h) d image
verdict_of (padded f p) w h d image = picture_verdict f (pitched w h p) d image
verdict_of (padded_strict p) w h d image = strict_verdict (pitched w h p) d image
verdict_of (padded_opaque p) w h d image = opaque_verdict (pitched w h p) d image
verdict_of (block f) w h d image = block_verdict (size_of f) d image
verdict_of alpha_half w h d image = block_verdict 8 d image
verdict_of (channel s c) w h d image = channel_verdict c d image
verdict_of (alpha_into c) w h d image = channel_verdict c d image

unfoldable pub paints : Reader → ℕ → ℕ → List ℕ → List ℕ → List ℕ
paints (picture f) w h d image = picture_of f (sized w h) d image
paints strict w h d image = picture_of Etc2Rgb (sized w h) d image
paints opaque w h d image = picture_of Etc2Rgba1 (sized w h) d image
paints (padded f p) w h d image = picture_of f (pitched w h p) d image
paints (padded_strict p) w h d image = picture_of Etc2Rgb (pitched w h p) d image
paints (padded_opaque p) w h d image = picture_of Etc2Rgba1 (pitched w h p) d image
paints (block f) w h d image = block_painted (λ k. shows_of f d (k % 4) (k / 4)) image
paints alpha_half w h d image = alpha_painted d image
paints (channel s c) w h d image = channel_painted s d c image
paints (alpha_into c) w h d image = replaced_painted d c image

unfoldable pub leaves : Reader → ℕ → ℕ → List ℕ → List ℕ → List ℕ
leaves reader w h d image = left (verdict_of reader w h d image) (paints reader w h d image) image

-- that is what it promises, no less and no more
Promise : Reader → ℕ → ℕ → List ℕ → List ℕ → Answer → List ℕ → Type 0
Promise (picture f) w h d image answer new = ReadsPicture f d (sized w h) image answer new
Promise strict w h d image answer new = ReadsStrict d (sized w h) image answer new
Promise opaque w h d image answer new = ReadsOpaque d (sized w h) image answer new
Promise (padded f p) w h d image answer new = ReadsPicture f d (pitched w h p) image answer new
Promise (padded_strict p) w h d image answer new = ReadsStrict d (pitched w h p) image answer new
Promise (padded_opaque p) w h d image answer new = ReadsOpaque d (pitched w h p) image answer new
Promise (block f) w h d image answer new = ReadsBlock f d image answer new
Promise alpha_half w h d image answer new = ReadsAlpha d image answer new
Promise (channel s c) w h d image answer new = ReadsChannel s d c image answer new
Promise (alpha_into c) w h d image answer new = ReplacesChannel d c image answer new

no_less :
    (reader : Reader) (w h : ℕ) (d image : List ℕ) (answer : Answer) (new : List ℕ)
    → Promise reader w h d image answer new
    → (said answer ≡ verdict_of reader w h d image) × (new ≡ leaves reader w h d image)
unfolding Promise verdict_of paints leaves
no_less (picture f) w h d image answer new o = (o.says, o.leaves)
no_less strict w h d image answer new o = (o.says, o.leaves)
no_less opaque w h d image answer new o = (o.says, o.leaves)
no_less (padded f p) w h d image answer new o = (o.says, o.leaves)
no_less (padded_strict p) w h d image answer new o = (o.says, o.leaves)
no_less (padded_opaque p) w h d image answer new o = (o.says, o.leaves)
no_less (block f) w h d image answer new o = (o.says, o.leaves)
no_less alpha_half w h d image answer new o = (o.says, o.leaves)
no_less (channel s c) w h d image answer new o = (o.says, o.leaves)
no_less (alpha_into c) w h d image answer new o = (o.says, o.leaves)

no_more :
    (reader : Reader) (w h : ℕ) (d image : List ℕ) (answer : Answer) (new : List ℕ)
    → said answer ≡ verdict_of reader w h d image
    → new ≡ leaves reader w h d image
    → Promise reader w h d image answer new
unfolding Promise verdict_of paints leaves
no_more (picture f) w h d image answer new a b = record { says = a; leaves = b }
no_more strict w h d image answer new a b = record { says = a; leaves = b }
no_more opaque w h d image answer new a b = record { says = a; leaves = b }
no_more (padded f p) w h d image answer new a b = record { says = a; leaves = b }
no_more (padded_strict p) w h d image answer new a b = record { says = a; leaves = b }
no_more (padded_opaque p) w h d image answer new a b = record { says = a; leaves = b }
no_more (block f) w h d image answer new a b = record { says = a; leaves = b }
no_more alpha_half w h d image answer new a b = record { says = a; leaves = b }
no_more (channel s c) w h d image answer new a b = record { says = a; leaves = b }
no_more (alpha_into c) w h d image answer new a b = record { says = a; leaves = b }

unfoldable pub holds : Row → Bool
holds row =
    let c = case_of row in
    same (verdict_of c.reader c.width c.height c.lent c.image) c.says
    && same (leaves c.reader c.width c.height c.lent c.image) c.leaves

unfoldable pub every : List Row → Bool
every [] = true
every (r ∷ rs) = holds r && every rs

-- whether a row has one block, of eight bytes or of sixteen, each eight as one number; and the rows that have
is_short : Row → Bool
is_short (shows r w h blocks pixels spare) = leb (length blocks) 2
is_short (packed r w h blocks across lines spare) = leb (length blocks) 2
is_short (joins r w h blocks across old new) = leb (length blocks) 2
is_short (refuses r w h blocks n verdict) = leb (length blocks) 2
is_short (answers r w h count n verdict) = leb count 16

short : List Row → List Row
short [] = []
short (r ∷ rs) = cond (is_short r) (r ∷ short rs) (short rs)

-- "When the reader says no": the numbers
numbers : Bool
numbers =
    same (said (Ok tt)) (0 ∷ [])
    && same (said (Err TooLarge)) (1 ∷ [])
    && same (said (Err ShortData)) (2 ∷ [])
    && same (said (Err ShortImage)) (3 ∷ [])
    && same (said (Err (OutOfRange 7))) (4 ∷ 7 ∷ [])
    && same (said (Err NoChannel)) (5 ∷ [])
    && same (said (Err LongData)) (6 ∷ [])
    && same (said (Err (NotOpaque 7))) (11 ∷ 7 ∷ [])
    && same (said (Err ShortPitch)) (12 ∷ [])
    && same (said (Err HeaderCut)) (20 ∷ [])
    && same (said (Err UnknownContainer)) (21 ∷ [])
    && same (said (Err UnknownVersion)) (22 ∷ [])
    && same (said (Err UnknownFormat)) (23 ∷ [])
    && same (said (Err SizesDisagree)) (24 ∷ [])
    && same (said (Err NotFlat)) (25 ∷ [])
    && same (said (Err NoPixel)) (26 ∷ [])
    && same (said (Err LevelsMissing)) (37 ∷ [])
    && same (said (Err NoLevel)) (38 ∷ [])
    && same (said (Err Supercompressed)) (41 ∷ [])

-- the order in which strict ETC1 tests: no row can tell 2 and 6 apart, which are never both due; and that of the opaque-only viewer
numbers_of : List Check → List ℕ
numbers_of [] = []
numbers_of (c ∷ cs) = c.number ∷ numbers_of cs

tested : Bool
tested = same (numbers_of (strict_checks (sized 1 1) [] [])) (1 ∷ 12 ∷ 2 ∷ 6 ∷ 3 ∷ [])
    && same (numbers_of (opaque_checks (sized 1 1) [] [])) (1 ∷ 12 ∷ 2 ∷ 3 ∷ [])

-- the places 0 .. n - 1 at which a test holds
marked : (ℕ → Bool) → ℕ → List ℕ
marked test zero = []
marked test (suc n) = marked test n ++ cond (test n) (n ∷ []) []

-- "pixel (x, y) is element y * width + x", and M-104: "y * pitch + x", with the elements that are the picture's own and those that it
-- needs; "Block 3 shows only element 24" of 5 by 5 (S17), and block 1 the fifth of each of four rows; the sixteen pixels of S2 and S4;
-- two pixels of S16; a block's own bytes and no others, also of a list that begins with block 3; the first of places, or their number
places : Bool
places =
    same (element (sized 5 3) 2 1 ∷ element (sized 7 9) 4 3 ∷ []) (7 ∷ 25 ∷ [])
    && same (element (pitched 5 3 8) 2 1 ∷ element (pitched 7 9 9) 4 3 ∷ []) (10 ∷ 31 ∷ [])
    && same (marked (inside (pitched 3 2 5)) 20) (0 ∷ 1 ∷ 2 ∷ 5 ∷ 6 ∷ 7 ∷ [])
    && same (needed (pitched 3 2 5) ∷ needed (pitched 5 1 9) ∷ needed (pitched 0 4 9) ∷ needed (pitched 4 0 9) ∷ []) (8 ∷ 5 ∷ 0 ∷ 0 ∷ [])
    && same (marked (in_tile (pitched 5 5 7) 3) 40) (32 ∷ [])
    && same (marked (in_tile (sized 5 5) 3) 30) (24 ∷ [])
    && same (marked (in_tile (sized 5 5) 1) 30) (4 ∷ 9 ∷ 14 ∷ 19 ∷ [])
    && same (tile etc1_pixel (bytes (0x0400000200000000 ∷ []))) (columns 0xFF020202 0xFFE90202)
    && same (tile rgb_pixel (bytes (0x000004020000003F ∷ []))) (rows 0xFF000000 0xFF000040 0xFF000080 0xFF0000BF)
    && same
    (pixel_at etc1_pixel 8 (sized 5 1) (bytes (0x0400000200000000 ∷ 0 ∷ [])) 2 ∷ pixel_at etc1_pixel 8 (sized 5 1) (bytes (0x0400000200000000 ∷ 0 ∷ [])) 4 ∷ [])
    (0xFFE90202 ∷ 0xFF020202 ∷ [])
    && same (bytes_of 2 (1 ∷ 2 ∷ 3 ∷ 4 ∷ 5 ∷ []) 1) (3 ∷ 4 ∷ [])
    && same (bytes_from 2 3 (1 ∷ 2 ∷ 3 ∷ 4 ∷ 5 ∷ 6 ∷ []) 4) (3 ∷ 4 ∷ [])
    && same (first_of (λ k. false) 0 ∷ first_of (λ k. false) 3 ∷ first_of (λ k. true) 3 ∷ []) (0 ∷ 3 ∷ 0 ∷ [])

-- the bytes of "alpha * 2^24 + red * 2^16 + green * 2^8 + blue"; a remainder below 0 counts up from 0; "clamped to 0..2047" of the
-- whole eleven bits
words : Bool
words =
    same (alpha_of 1 ∷ red_of 1 ∷ green_of 1 ∷ blue_of 1 ∷ []) (0 ∷ 0 ∷ 0 ∷ 1 ∷ [])
    && same (alpha_of 0x81C3A5E7 ∷ red_of 0x81C3A5E7 ∷ green_of 0x81C3A5E7 ∷ blue_of 0x81C3A5E7 ∷ []) (0x81 ∷ 0xC3 ∷ 0xA5 ∷ 0xE7 ∷ [])
    && same (modulo (minus 1) 5 ∷ modulo (minus 5) 5 ∷ modulo (minus 6) 5 ∷ modulo (pos 7) 5 ∷ []) (4 ∷ 0 ∷ 4 ∷ 2 ∷ [])
    && same (eac_value false (bytes (0xFFF0FFFFFFFFFFFF ∷ [])) 0 0 ∷ eac_value false (bytes (0x00F0000000000000 ∷ [])) 0 0 ∷ []) (2047 ∷ 0 ∷ [])

-- "compared red, then green, then blue; equal counts"
orders : Bool
orders =
    not_less_lem (5 ∷ 1 ∷ 1 ∷ []) (4 ∷ 9 ∷ 9 ∷ [])
    && not (not_less_lem (4 ∷ 9 ∷ 9 ∷ []) (5 ∷ 1 ∷ 1 ∷ []))
    && not_less_lem (5 ∷ 3 ∷ 1 ∷ []) (5 ∷ 2 ∷ 9 ∷ [])
    && not (not_less_lem (5 ∷ 2 ∷ 9 ∷ []) (5 ∷ 3 ∷ 1 ∷ []))
    && not_less_lem (5 ∷ 3 ∷ 2 ∷ []) (5 ∷ 3 ∷ 1 ∷ [])
    && not (not_less_lem (5 ∷ 3 ∷ 1 ∷ []) (5 ∷ 3 ∷ 2 ∷ []))
    && not_less_lem (5 ∷ 3 ∷ 1 ∷ []) (5 ∷ 3 ∷ 1 ∷ [])
    && not_less_lem (5 ∷ 3 ∷ 9 ∷ []) (5 ∷ 2 ∷ 1 ∷ [])
    && not_less_lem (5 ∷ 3 ∷ 9 ∷ []) (4 ∷ 2 ∷ 1 ∷ [])

-- "red gives T; else green gives H; else blue gives planar": a base of 0 and a step of -1 is a sum out of range
kinds : Bool
kinds =
    same (kind_number (kind_by_sums_lem (7 ∷ 7 ∷ 7 ∷ [])) ∷ kind_number (kind_by_sums_lem (7 ∷ 7 ∷ 0 ∷ [])) ∷ kind_number (kind_by_sums_lem (7 ∷ 0 ∷ 7 ∷ [])) ∷ [])
    (2 ∷ 2 ∷ 2 ∷ [])
    && same (kind_number (kind_by_sums_lem (0 ∷ 7 ∷ 7 ∷ [])) ∷ kind_number (kind_by_sums_lem (0 ∷ 0 ∷ 7 ∷ [])) ∷ kind_number (kind_by_sums_lem (0 ∷ 0 ∷ 0 ∷ [])) ∷ [])
    (3 ∷ 4 ∷ 1 ∷ [])

hold : T (kinds && numbers && tested && words && orders && places && every (bench ++ short recorded ++ table ++ pitches ++ leftovers ++ opaques))
unfolding kinds short is_short numbers numbers_of tested words orders places every bench table pitches leftovers opaques recorded verdict_of paints leaves holds marked needed
    painted first_of differential wrapped kind_by_sums_lem out_of_range_lem t_bases t_distance h_bases h_distance planar_bases_lem planar_channel indexed
    rgb_pixel rgba1_pixel etc1_pixel alpha_step alpha_byte rgba8_pixel eac_value eac_byte red_pixel red_green_pixel size_of shows_of
    little bc1_pixel bc3_alpha bc3_pixel bc2_alpha bc2_pixel half_byte bc4_pixel bc5_pixel
    two three anchor_of_two anchor_of_three1 anchor_of_three2 subset anchor mode_table lowest bits_before pixel_in bc7_pixel
hold = tt
