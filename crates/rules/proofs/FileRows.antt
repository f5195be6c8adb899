-- Headers written out by hand from the public texts, as rows of one list: one test that antt computes over the very definitions that the
-- openers of files promise. A row has a file, and what is answered.
-- Assumes nothing.
use mathlib.Core.Bool.{Bool, true, false, ◌&&◌}
use mathlib.Core.List.{List, [], ◌∷◌, ◌++◌}
use Prim.Native.Nat.{ℕ}
use lib.Dec.{T}
use lib.ListN.{length, take, replicate}
use Rattle.std.specs.Prelude.{Option, Some, None}
use Rattle.numbers.specs.Numbers.{little, big, in_bytes, big_bytes}
use Rattle.rules.specs.Formats.{size_of}
use Rattle.rules.specs.Records.{walked, kept, payload_at}
use Rattle.rules.specs.Sheets.{format_of, head_verdict}
use Rattle.rules.specs.FileFormats.{format_list, format_number, format_at_lem, known, known_flat, word32}
use Rattle.rules.specs.declared.Format.{Format}
use Rattle.rules.specs.FileLevels.{bytes_for_lem, inside_of, after_size_lem, in_index_lem, fit_in, fit_of_lem, level_at_lem, next_spot_lem}
use Rattle.rules.specs.FileLevels.{levels_from, levels_of, too_many_lem, held_of, opened_by, found_by}
use Rattle.rules.specs.Keys.{is_orientation_lem, rows_told_lem, rows_in_lem, orientation_of}
use Rattle.rules.specs.Pkm.{pkm_as, pkm_of}
use Rattle.rules.specs.Ktx1.{ktx1_as, ktx1_in, ktx1_of}
use Rattle.rules.specs.Ktx2.{ktx2_as, ktx2_of}
use Rattle.rules.specs.Dds.{dds_flat_lem, dx10_flat_lem, dds_as, four_cc_format, dx10_of, dds_of}
use Rattle.rules.specs.SheetFile.{sheet_header}
use Rattle.rules.specs.Files.{header_of, opened_as, found_as, opened_verdict, found_verdict}
use Rattle.rules.proofs.Rows.{same}

-- what opening some bytes answers, and level n of them
data Asked : Type 0 where
  opens : List ℕ → Asked
  level_of : List ℕ → ℕ → Asked

answer : Asked → List ℕ
answer (opens d) = opened_verdict d
answer (level_of d n) = found_verdict d n

record Row : Type 0 where
  asked : Asked
  says : List ℕ

row : Asked → List ℕ → Row
row a v = record { asked = a; says = v }

every : List Row → Bool
every [] = true
every (r ∷ rs) = same (answer r.asked) r.says && every rs

zeros : ℕ → List ℕ
zeros n = replicate n 0

-- a word of four bytes, the greatest first or the least; and several
word : Bool → ℕ → List ℕ
word true n = big_bytes 4 n
word false n = in_bytes 4 n

words : Bool → List ℕ → List ℕ
words order [] = []
words order (n ∷ ns) = word order n ++ words order ns

-- PKM: version, type, padded width and height, width and height
pkm : ℕ → ℕ → ℕ → ℕ → ℕ → ℕ → List ℕ
pkm v t pw ph w h =
    0x50 ∷ 0x4B ∷ 0x4D ∷ 0x20 ∷ big_bytes 2 v ++ big_bytes 2 t ++ big_bytes 2 pw ++ big_bytes 2 ph ++ big_bytes 2 w ++ big_bytes 2 h

-- the identifiers of KTX, with their two bytes of version
identifier : ℕ → ℕ → List ℕ
identifier a b = 0xAB ∷ 0x4B ∷ 0x54 ∷ 0x58 ∷ 0x20 ∷ a ∷ b ∷ 0xBB ∷ 0x0D ∷ 0x0A ∷ 0x1A ∷ 0x0A ∷ []

-- KTX 1: format, width, height, depth, layers, faces, levels, and so many bytes of key and value data; a level of so many bytes
ktx1 : Bool → ℕ → ℕ → ℕ → ℕ → ℕ → ℕ → ℕ → ℕ → List ℕ
ktx1 order f w h depth layers faces levels kv =
    identifier 0x31 0x31
    ++ words order (0x04030201 ∷ 0 ∷ 1 ∷ 0 ∷ f ∷ 0x1907 ∷ w ∷ h ∷ depth ∷ layers ∷ faces ∷ levels ∷ kv ∷ [])
    ++ zeros kv

level : Bool → ℕ → List ℕ
level order n = word order n ++ zeros n

-- KTX 2: format, width, height, depth, layers, faces, levels and scheme; an entry of the index
ktx2 : ℕ → ℕ → ℕ → ℕ → ℕ → ℕ → ℕ → ℕ → List ℕ
ktx2 f w h depth layers faces levels scheme =
    identifier 0x32 0x30 ++ words false (f ∷ 1 ∷ w ∷ h ∷ depth ∷ layers ∷ faces ∷ levels ∷ scheme ∷ 0 ∷ 0 ∷ 0 ∷ 0 ∷ []) ++ zeros 16

entry : ℕ → ℕ → List ℕ
entry offset n = in_bytes 8 offset ++ in_bytes 8 n ++ zeros 8

-- the key "KTXorientation" and its 0, and as Qt writes it
orientation : List ℕ
orientation = 75 ∷ 84 ∷ 88 ∷ 111 ∷ 114 ∷ 105 ∷ 101 ∷ 110 ∷ 116 ∷ 97 ∷ 116 ∷ 105 ∷ 111 ∷ 110 ∷ 0 ∷ []

qt_orientation : List ℕ
qt_orientation = 75 ∷ 84 ∷ 88 ∷ 79 ∷ 114 ∷ 105 ∷ 101 ∷ 110 ∷ 116 ∷ 97 ∷ 116 ∷ 105 ∷ 111 ∷ 110 ∷ 0 ∷ []

-- files of one block of ETC1 or ETC2 RGB with key and value data: KTX 1, and KTX 2 with its place and length as told
keyed : Bool → List ℕ → List ℕ
keyed order kv =
    identifier 0x31 0x31
    ++ words order (0x04030201 ∷ 0 ∷ 1 ∷ 0 ∷ 0x8D64 ∷ 0x1907 ∷ 4 ∷ 4 ∷ 0 ∷ 0 ∷ 1 ∷ 1 ∷ length kv ∷ [])
    ++ kv
    ++ level order 8

keyed2 : ℕ → ℕ → List ℕ → List ℕ
keyed2 at n kv =
    identifier 0x32 0x30
    ++ words false (147 ∷ 1 ∷ 4 ∷ 4 ∷ 0 ∷ 0 ∷ 1 ∷ 1 ∷ 0 ∷ 0 ∷ 0 ∷ at ∷ n ∷ [])
    ++ zeros 16
    ++ entry 104 8
    ++ zeros 8
    ++ kv

-- DDS: flags of the pixel format, FourCC, width, height, levels and caps2; the 20 bytes of DX10
dds : ℕ → ℕ → ℕ → ℕ → ℕ → ℕ → List ℕ
dds flags four_cc w h levels caps2 =
    0x44 ∷ 0x44 ∷ 0x53 ∷ 0x20 ∷ words false (124 ∷ 0x1007 ∷ h ∷ w ∷ 0 ∷ 0 ∷ levels ∷ [])
    ++ zeros 44
    ++ words false (32 ∷ flags ∷ [])
    ++ big_bytes 4 four_cc
    ++ zeros 20
    ++ words false (0x1000 ∷ caps2 ∷ [])
    ++ zeros 12

dx10 : ℕ → ℕ → ℕ → ℕ → List ℕ
dx10 format dimension misc elements = words false (format ∷ dimension ∷ misc ∷ elements ∷ 0 ∷ [])

-- a record of a sheet
rec : ℕ → ℕ → List ℕ → List ℕ
rec n k p = in_bytes 4 n ++ in_bytes 2 k ++ p

-- none of the containers, and identifiers that are cut or wrong in a byte
others : List Row
others =
    row (opens ([])) (21 ∷ [])
    ∷ row (opens (zeros 200)) (21 ∷ [])
    ∷ row (opens ((80 ∷ 75 ∷ 77 ∷ []))) (21 ∷ [])
    ∷ row (opens ((80 ∷ 75 ∷ 77 ∷ 33 ∷ []) ++ zeros 20)) (21 ∷ [])
    ∷ row (opens ((68 ∷ 68 ∷ 83 ∷ []))) (21 ∷ [])
    ∷ row (opens ((68 ∷ 68 ∷ 83 ∷ 33 ∷ []) ++ zeros 200)) (21 ∷ [])
    ∷ row (opens (take 11 (ktx1 false 0x8d64 4 4 0 0 1 1 0))) (21 ∷ [])
    ∷ row (opens (take 11 (ktx2 147 4 4 0 0 1 1 0))) (21 ∷ [])
    ∷ row (opens ((171 ∷ 75 ∷ 84 ∷ 88 ∷ 32 ∷ 49 ∷ 48 ∷ 187 ∷ 13 ∷ 10 ∷ 26 ∷ 10 ∷ []) ++ zeros 60)) (21 ∷ [])
    ∷ row (opens ((171 ∷ 75 ∷ 84 ∷ 88 ∷ 32 ∷ 49 ∷ 49 ∷ 187 ∷ 13 ∷ 10 ∷ 26 ∷ 11 ∷ []) ++ zeros 60)) (21 ∷ [])
    ∷ row (opens ((172 ∷ 75 ∷ 84 ∷ 88 ∷ 32 ∷ 49 ∷ 49 ∷ 187 ∷ 13 ∷ 10 ∷ 26 ∷ 10 ∷ []) ++ zeros 60)) (21 ∷ [])
    ∷ []

hold_others : T (every others)
unfolding answer row every zeros word words pkm identifier ktx1 level ktx2 entry dds dx10 rec orientation qt_orientation keyed keyed2 others
    little big in_bytes big_bytes size_of walked kept payload_at format_of head_verdict known word32
    bytes_for_lem inside_of after_size_lem in_index_lem fit_in fit_of_lem level_at_lem next_spot_lem levels_from levels_of too_many_lem held_of opened_by found_by
    is_orientation_lem rows_told_lem rows_in_lem orientation_of pkm_as pkm_of ktx1_as ktx1_in ktx1_of ktx2_as ktx2_of dds_flat_lem dx10_flat_lem dds_as four_cc_format dx10_of dds_of sheet_header
    header_of opened_as found_as opened_verdict found_verdict
hold_others = tt

-- PKM: version 1.0, one byte short, bytes left over, each level; versions and types
pkms : List Row
pkms =
    row (opens (pkm 0x3130 0 4 4 4 4 ++ zeros 8)) (0 ∷ 1 ∷ 0 ∷ 0 ∷ 4 ∷ 4 ∷ 1 ∷ 1 ∷ 0 ∷ 0 ∷ [])
    ∷ row (opens (pkm 0x3130 0 4 4 4 4 ++ zeros 7)) (37 ∷ [])
    ∷ row (opens (pkm 0x3130 0 4 4 4 4 ++ zeros 11)) (0 ∷ 1 ∷ 0 ∷ 0 ∷ 4 ∷ 4 ∷ 1 ∷ 1 ∷ 0 ∷ 3 ∷ [])
    ∷ row (level_of (pkm 0x3130 0 4 4 4 4 ++ zeros 11) 0) (0 ∷ 4 ∷ 4 ∷ 16 ∷ 8 ∷ [])
    ∷ row (level_of (pkm 0x3130 0 4 4 4 4 ++ zeros 11) 1) (38 ∷ [])
    ∷ row (level_of (pkm 0x3130 0 4 4 4 4 ++ zeros 7) 0) (37 ∷ [])
    ∷ row (opens (pkm 0x3130 1 4 4 4 4 ++ zeros 8)) (23 ∷ [])
    ∷ row (opens (pkm 0x3131 0 4 4 4 4 ++ zeros 8)) (22 ∷ [])
    ∷ row (opens (pkm 0x3230 0 8 4 5 3 ++ zeros 16)) (0 ∷ 1 ∷ 0 ∷ 0 ∷ 5 ∷ 3 ∷ 1 ∷ 1 ∷ 0 ∷ 0 ∷ [])
    ∷ row (level_of (pkm 0x3230 0 8 4 5 3 ++ zeros 16) 0) (0 ∷ 5 ∷ 3 ∷ 16 ∷ 16 ∷ [])
    ∷ row (opens (take 15 (pkm 0x3130 0 4 4 4 4))) (20 ∷ [])
    ∷ row (opens (take 4 (pkm 0x3130 0 4 4 4 4))) (20 ∷ [])
    ∷ row (opens (pkm 0x3230 1 4 4 4 4 ++ zeros 16)) (0 ∷ 1 ∷ 1 ∷ 0 ∷ 4 ∷ 4 ∷ 1 ∷ 1 ∷ 0 ∷ 8 ∷ [])
    ∷ row (opens (pkm 0x3230 2 4 4 4 4 ++ zeros 16)) (23 ∷ [])
    ∷ row (opens (pkm 0x3230 3 4 4 4 4 ++ zeros 16)) (0 ∷ 1 ∷ 3 ∷ 0 ∷ 4 ∷ 4 ∷ 1 ∷ 1 ∷ 0 ∷ 0 ∷ [])
    ∷ row (opens (pkm 0x3230 4 4 4 4 4 ++ zeros 16)) (0 ∷ 1 ∷ 2 ∷ 0 ∷ 4 ∷ 4 ∷ 1 ∷ 1 ∷ 0 ∷ 8 ∷ [])
    ∷ row (opens (pkm 0x3230 5 4 4 4 4 ++ zeros 16)) (0 ∷ 1 ∷ 4 ∷ 0 ∷ 4 ∷ 4 ∷ 1 ∷ 1 ∷ 0 ∷ 8 ∷ [])
    ∷ row (opens (pkm 0x3230 6 4 4 4 4 ++ zeros 16)) (0 ∷ 1 ∷ 6 ∷ 0 ∷ 4 ∷ 4 ∷ 1 ∷ 1 ∷ 0 ∷ 0 ∷ [])
    ∷ row (opens (pkm 0x3230 7 4 4 4 4 ++ zeros 16)) (0 ∷ 1 ∷ 5 ∷ 0 ∷ 4 ∷ 4 ∷ 1 ∷ 1 ∷ 0 ∷ 8 ∷ [])
    ∷ row (opens (pkm 0x3230 8 4 4 4 4 ++ zeros 16)) (0 ∷ 1 ∷ 7 ∷ 0 ∷ 4 ∷ 4 ∷ 1 ∷ 1 ∷ 0 ∷ 0 ∷ [])
    ∷ row (opens (pkm 0x3230 9 4 4 4 4 ++ zeros 16)) (0 ∷ 1 ∷ 1 ∷ 1 ∷ 4 ∷ 4 ∷ 1 ∷ 1 ∷ 0 ∷ 8 ∷ [])
    ∷ row (opens (pkm 0x3230 10 4 4 4 4 ++ zeros 16)) (0 ∷ 1 ∷ 3 ∷ 1 ∷ 4 ∷ 4 ∷ 1 ∷ 1 ∷ 0 ∷ 0 ∷ [])
    ∷ row (opens (pkm 0x3230 11 4 4 4 4 ++ zeros 16)) (0 ∷ 1 ∷ 2 ∷ 1 ∷ 4 ∷ 4 ∷ 1 ∷ 1 ∷ 0 ∷ 8 ∷ [])
    ∷ row (opens (pkm 0x3230 12 4 4 4 4 ++ zeros 16)) (23 ∷ [])
    ∷ []

hold_pkms : T (every pkms)
unfolding answer row every zeros word words pkm identifier ktx1 level ktx2 entry dds dx10 rec orientation qt_orientation keyed keyed2 pkms
    little big in_bytes big_bytes size_of walked kept payload_at format_of head_verdict known word32
    bytes_for_lem inside_of after_size_lem in_index_lem fit_in fit_of_lem level_at_lem next_spot_lem levels_from levels_of too_many_lem held_of opened_by found_by
    is_orientation_lem rows_told_lem rows_in_lem orientation_of pkm_as pkm_of ktx1_as ktx1_in ktx1_of ktx2_as ktx2_of dds_flat_lem dx10_flat_lem dds_as four_cc_format dx10_of dds_of sheet_header
    header_of opened_as found_as opened_verdict found_verdict
hold_pkms = tt

-- padded sizes must be the sizes made up to fours, and a side of 0 comes first
padded_pkms : List Row
padded_pkms =
    row (opens (pkm 0x3230 1 8 4 4 4 ++ zeros 16)) (24 ∷ [])
    ∷ row (opens (pkm 0x3230 1 4 8 4 4 ++ zeros 16)) (24 ∷ [])
    ∷ row (opens (pkm 0x3230 1 5 3 5 3 ++ zeros 16)) (24 ∷ [])
    ∷ row (opens (pkm 0x3230 1 4 4 0 4 ++ zeros 16)) (26 ∷ [])
    ∷ row (opens (pkm 0x3230 1 4 8 4 0 ++ zeros 16)) (26 ∷ [])
    ∷ row (opens (pkm 0x3230 1 260 516 258 513 ++ zeros 8)) (37 ∷ [])
    ∷ row (opens (pkm 0x3230 300 4 4 4 4 ++ zeros 8)) (23 ∷ [])
    ∷ []

hold_padded_pkms : T (every padded_pkms)
unfolding answer row every zeros word words pkm identifier ktx1 level ktx2 entry dds dx10 rec orientation qt_orientation keyed keyed2 padded_pkms
    little big in_bytes big_bytes size_of walked kept payload_at format_of head_verdict known word32
    bytes_for_lem inside_of after_size_lem in_index_lem fit_in fit_of_lem level_at_lem next_spot_lem levels_from levels_of too_many_lem held_of opened_by found_by
    is_orientation_lem rows_told_lem rows_in_lem orientation_of pkm_as pkm_of ktx1_as ktx1_in ktx1_of ktx2_as ktx2_of dds_flat_lem dx10_flat_lem dds_as four_cc_format dx10_of dds_of sheet_header
    header_of opened_as found_as opened_verdict found_verdict
hold_padded_pkms = tt

-- KTX 1: each number in one order or the other
ktx1s : List Row
ktx1s =
    row (opens (ktx1 false 0x83f0 4 4 0 0 1 1 0 ++ level false 8)) (0 ∷ 2 ∷ 8 ∷ 0 ∷ 4 ∷ 4 ∷ 1 ∷ 0 ∷ 0 ∷ 0 ∷ [])
    ∷ row (opens (ktx1 true 0x83f1 4 4 0 0 1 1 0 ++ level true 8)) (0 ∷ 2 ∷ 9 ∷ 0 ∷ 4 ∷ 4 ∷ 1 ∷ 1 ∷ 0 ∷ 0 ∷ [])
    ∷ row (opens (ktx1 false 0x83f3 4 4 0 0 1 1 0 ++ level false 16)) (0 ∷ 2 ∷ 10 ∷ 0 ∷ 4 ∷ 4 ∷ 1 ∷ 0 ∷ 0 ∷ 0 ∷ [])
    ∷ row (opens (ktx1 true 0x8c4c 4 4 0 0 1 1 0 ++ level true 8)) (0 ∷ 2 ∷ 8 ∷ 1 ∷ 4 ∷ 4 ∷ 1 ∷ 1 ∷ 0 ∷ 0 ∷ [])
    ∷ row (opens (ktx1 false 0x8c4d 4 4 0 0 1 1 0 ++ level false 8)) (0 ∷ 2 ∷ 9 ∷ 1 ∷ 4 ∷ 4 ∷ 1 ∷ 0 ∷ 0 ∷ 0 ∷ [])
    ∷ row (opens (ktx1 true 0x8c4f 4 4 0 0 1 1 0 ++ level true 16)) (0 ∷ 2 ∷ 10 ∷ 1 ∷ 4 ∷ 4 ∷ 1 ∷ 1 ∷ 0 ∷ 0 ∷ [])
    ∷ row (opens (ktx1 false 0x8d64 4 4 0 0 1 1 0 ++ level false 8)) (0 ∷ 2 ∷ 0 ∷ 0 ∷ 4 ∷ 4 ∷ 1 ∷ 0 ∷ 0 ∷ 0 ∷ [])
    ∷ row (opens (ktx1 true 0x8e8c 4 4 0 0 1 1 0 ++ level true 16)) (0 ∷ 2 ∷ 11 ∷ 0 ∷ 4 ∷ 4 ∷ 1 ∷ 1 ∷ 0 ∷ 0 ∷ [])
    ∷ row (opens (ktx1 false 0x8e8d 4 4 0 0 1 1 0 ++ level false 16)) (0 ∷ 2 ∷ 11 ∷ 1 ∷ 4 ∷ 4 ∷ 1 ∷ 0 ∷ 0 ∷ 0 ∷ [])
    ∷ row (opens (ktx1 true 0x9270 4 4 0 0 1 1 0 ++ level true 8)) (0 ∷ 2 ∷ 4 ∷ 0 ∷ 4 ∷ 4 ∷ 1 ∷ 1 ∷ 0 ∷ 0 ∷ [])
    ∷ row (opens (ktx1 false 0x9271 4 4 0 0 1 1 0 ++ level false 8)) (0 ∷ 2 ∷ 5 ∷ 0 ∷ 4 ∷ 4 ∷ 1 ∷ 0 ∷ 0 ∷ 0 ∷ [])
    ∷ row (opens (ktx1 true 0x9272 4 4 0 0 1 1 0 ++ level true 16)) (0 ∷ 2 ∷ 6 ∷ 0 ∷ 4 ∷ 4 ∷ 1 ∷ 1 ∷ 0 ∷ 0 ∷ [])
    ∷ row (opens (ktx1 false 0x9273 4 4 0 0 1 1 0 ++ level false 16)) (0 ∷ 2 ∷ 7 ∷ 0 ∷ 4 ∷ 4 ∷ 1 ∷ 0 ∷ 0 ∷ 0 ∷ [])
    ∷ row (opens (ktx1 true 0x9274 4 4 0 0 1 1 0 ++ level true 8)) (0 ∷ 2 ∷ 1 ∷ 0 ∷ 4 ∷ 4 ∷ 1 ∷ 1 ∷ 0 ∷ 0 ∷ [])
    ∷ row (opens (ktx1 false 0x9275 4 4 0 0 1 1 0 ++ level false 8)) (0 ∷ 2 ∷ 1 ∷ 1 ∷ 4 ∷ 4 ∷ 1 ∷ 0 ∷ 0 ∷ 0 ∷ [])
    ∷ row (opens (ktx1 true 0x9276 4 4 0 0 1 1 0 ++ level true 8)) (0 ∷ 2 ∷ 2 ∷ 0 ∷ 4 ∷ 4 ∷ 1 ∷ 1 ∷ 0 ∷ 0 ∷ [])
    ∷ row (opens (ktx1 false 0x9277 4 4 0 0 1 1 0 ++ level false 8)) (0 ∷ 2 ∷ 2 ∷ 1 ∷ 4 ∷ 4 ∷ 1 ∷ 0 ∷ 0 ∷ 0 ∷ [])
    ∷ row (opens (ktx1 true 0x9278 4 4 0 0 1 1 0 ++ level true 16)) (0 ∷ 2 ∷ 3 ∷ 0 ∷ 4 ∷ 4 ∷ 1 ∷ 1 ∷ 0 ∷ 0 ∷ [])
    ∷ row (opens (ktx1 false 0x9279 4 4 0 0 1 1 0 ++ level false 16)) (0 ∷ 2 ∷ 3 ∷ 1 ∷ 4 ∷ 4 ∷ 1 ∷ 0 ∷ 0 ∷ 0 ∷ [])
    ∷ row (opens (ktx1 true 0x83f2 4 4 0 0 1 1 0 ++ level true 16)) (0 ∷ 2 ∷ 12 ∷ 0 ∷ 4 ∷ 4 ∷ 1 ∷ 1 ∷ 0 ∷ 0 ∷ [])
    ∷ row (opens (ktx1 false 0x8c4e 4 4 0 0 1 1 0 ++ level false 16)) (0 ∷ 2 ∷ 12 ∷ 1 ∷ 4 ∷ 4 ∷ 1 ∷ 0 ∷ 0 ∷ 0 ∷ [])
    ∷ row (opens (ktx1 true 0x8dbb 4 4 0 0 1 1 0 ++ level true 8)) (0 ∷ 2 ∷ 13 ∷ 0 ∷ 4 ∷ 4 ∷ 1 ∷ 1 ∷ 0 ∷ 0 ∷ [])
    ∷ row (opens (ktx1 false 0x8dbc 4 4 0 0 1 1 0 ++ level false 8)) (0 ∷ 2 ∷ 14 ∷ 0 ∷ 4 ∷ 4 ∷ 1 ∷ 0 ∷ 0 ∷ 0 ∷ [])
    ∷ row (opens (ktx1 true 0x8dbd 4 4 0 0 1 1 0 ++ level true 16)) (0 ∷ 2 ∷ 15 ∷ 0 ∷ 4 ∷ 4 ∷ 1 ∷ 1 ∷ 0 ∷ 0 ∷ [])
    ∷ row (opens (ktx1 false 0x8dbe 4 4 0 0 1 1 0 ++ level false 16)) (0 ∷ 2 ∷ 16 ∷ 0 ∷ 4 ∷ 4 ∷ 1 ∷ 0 ∷ 0 ∷ 0 ∷ [])
    ∷ row (opens (ktx1 false 0x8c72 4 4 0 0 1 1 0 ++ level false 16)) (23 ∷ [])
    ∷ row (opens (ktx1 false 0x19278 4 4 0 0 1 1 0 ++ level false 16)) (23 ∷ [])
    ∷ row (opens (ktx1 false 0x0 4 4 0 0 1 1 0 ++ level false 16)) (23 ∷ [])
    ∷ []

hold_ktx1s : T (every ktx1s)
unfolding answer row every zeros word words pkm identifier ktx1 level ktx2 entry dds dx10 rec orientation qt_orientation keyed keyed2 ktx1s
    little big in_bytes big_bytes size_of walked kept payload_at format_of head_verdict known word32
    bytes_for_lem inside_of after_size_lem in_index_lem fit_in fit_of_lem level_at_lem next_spot_lem levels_from levels_of too_many_lem held_of opened_by found_by
    is_orientation_lem rows_told_lem rows_in_lem orientation_of pkm_as pkm_of ktx1_as ktx1_in ktx1_of ktx2_as ktx2_of dds_flat_lem dx10_flat_lem dds_as four_cc_format dx10_of dds_of sheet_header
    header_of opened_as found_as opened_verdict found_verdict
hold_ktx1s = tt

-- what decides no pixel is 0 or 1, and what is not flat; numbers in the other order are large
flat_ktx1s : List Row
flat_ktx1s =
    row (opens (ktx1 false 0x8d64 4 4 1 1 0 0 0 ++ level false 8)) (0 ∷ 2 ∷ 0 ∷ 0 ∷ 4 ∷ 4 ∷ 1 ∷ 0 ∷ 0 ∷ 0 ∷ [])
    ∷ row (opens (ktx1 true 0x8d64 4 4 1 1 0 0 0 ++ level true 8 ++ zeros 5)) (0 ∷ 2 ∷ 0 ∷ 0 ∷ 4 ∷ 4 ∷ 1 ∷ 1 ∷ 0 ∷ 5 ∷ [])
    ∷ row (opens (ktx1 false 0x8d64 4 4 2 0 1 1 0 ++ level false 8)) (25 ∷ [])
    ∷ row (opens (ktx1 false 0x8d64 4 4 0 2 1 1 0 ++ level false 8)) (25 ∷ [])
    ∷ row (opens (ktx1 false 0x8d64 4 4 0 0 6 1 0 ++ level false 8)) (25 ∷ [])
    ∷ row (opens (ktx1 false 0x8d64 4 4 2 2 6 1 0 ++ level false 8)) (25 ∷ [])
    ∷ row (opens (ktx1 true 0x0 4 4 2 0 1 1 0)) (25 ∷ [])
    ∷ row (opens (take 63 (ktx1 false 0x8d64 4 4 0 0 1 1 0))) (20 ∷ [])
    ∷ row (opens (ktx1 false 0x8d64 4 4 0 0 1 1 0)) (37 ∷ [])
    ∷ row (opens ((171 ∷ 75 ∷ 84 ∷ 88 ∷ 32 ∷ 49 ∷ 49 ∷ 187 ∷ 13 ∷ 10 ∷ 26 ∷ 10 ∷ 4 ∷ 3 ∷ 2 ∷ 2 ∷ []) ++ zeros 48)) (22 ∷ [])
    ∷ row (opens ((171 ∷ 75 ∷ 84 ∷ 88 ∷ 32 ∷ 49 ∷ 49 ∷ 187 ∷ 13 ∷ 10 ∷ 26 ∷ 10 ∷ 1 ∷ 2 ∷ 3 ∷ 3 ∷ []) ++ zeros 48)) (22 ∷ [])
    ∷ []

hold_flat_ktx1s : T (every flat_ktx1s)
unfolding answer row every zeros word words pkm identifier ktx1 level ktx2 entry dds dx10 rec orientation qt_orientation keyed keyed2 flat_ktx1s
    little big in_bytes big_bytes size_of walked kept payload_at format_of head_verdict known word32
    bytes_for_lem inside_of after_size_lem in_index_lem fit_in fit_of_lem level_at_lem next_spot_lem levels_from levels_of too_many_lem held_of opened_by found_by
    is_orientation_lem rows_told_lem rows_in_lem orientation_of pkm_as pkm_of ktx1_as ktx1_in ktx1_of ktx2_as ktx2_of dds_flat_lem dx10_flat_lem dds_as four_cc_format dx10_of dds_of sheet_header
    header_of opened_as found_as opened_verdict found_verdict
hold_flat_ktx1s = tt

-- sizes, key and value data, imageSize, and levels
sized_ktx1s : List Row
sized_ktx1s =
    row (opens (ktx1 false 0x9274 5 9 0 0 1 1 8 ++ level false 48)) (0 ∷ 2 ∷ 1 ∷ 0 ∷ 5 ∷ 9 ∷ 1 ∷ 0 ∷ 0 ∷ 0 ∷ [])
    ∷ row (level_of (ktx1 false 0x9274 5 9 0 0 1 1 8 ++ level false 48) 0) (0 ∷ 5 ∷ 9 ∷ 76 ∷ 48 ∷ [])
    ∷ row (opens (ktx1 false 0x9274 5 9 0 0 1 1 8 ++ level false 40 ++ zeros 8)) (24 ∷ [])
    ∷ row (opens (ktx1 false 0x9274 5 9 0 0 1 1 8 ++ level false 56)) (24 ∷ [])
    ∷ row (opens (ktx1 true 0x9274 5 9 0 0 1 1 0 ++ word false 48 ++ zeros 48)) (24 ∷ [])
    ∷ row (opens (ktx1 false 0x9274 5 9 0 0 1 1 0 ++ word false 48 ++ zeros 47)) (37 ∷ [])
    ∷ row (opens (ktx1 false 0x9274 5 9 0 0 1 1 0 ++ (48 ∷ 0 ∷ 0 ∷ []))) (37 ∷ [])
    ∷ row (opens (take 72 (ktx1 false 0x9274 5 9 0 0 1 1 9))) (37 ∷ [])
    ∷ row (opens (ktx1 false 0x9274 0 4 0 0 1 1 0 ++ level false 8)) (26 ∷ [])
    ∷ row (opens (ktx1 false 0x9274 4 0 0 0 1 1 0 ++ level false 8)) (26 ∷ [])
    ∷ row (opens (ktx1 false 0x9274 65537 1 0 0 1 1 0 ++ level false 8)) (1 ∷ [])
    ∷ row (opens (ktx1 false 0x9274 1 65537 0 0 1 1 0 ++ level false 8)) (1 ∷ [])
    ∷ row (opens (ktx1 false 0x9274 65536 1 0 0 1 1 0 ++ level false 8)) (24 ∷ [])
    ∷ row (opens (ktx1 false 0x9274 1 65536 0 0 1 1 0 ++ level false 8)) (24 ∷ [])
    ∷ row (opens (ktx1 false 0x9274 0 65537 0 0 1 1 0 ++ level false 8)) (26 ∷ [])
    ∷ row (opens (ktx1 false 0x9278 4 6 0 0 1 3 0 ++ level false 32 ++ level false 16 ++ level false 16 ++ zeros 2)) (0 ∷ 2 ∷ 3 ∷ 0 ∷ 4 ∷ 6 ∷ 3 ∷ 0 ∷ 0 ∷ 2 ∷ [])
    ∷ row (level_of (ktx1 false 0x9278 4 6 0 0 1 3 0 ++ level false 32 ++ level false 16 ++ level false 16 ++ zeros 2) 0) (0 ∷ 4 ∷ 6 ∷ 68 ∷ 32 ∷ [])
    ∷ row (level_of (ktx1 false 0x9278 4 6 0 0 1 3 0 ++ level false 32 ++ level false 16 ++ level false 16 ++ zeros 2) 1) (0 ∷ 2 ∷ 3 ∷ 104 ∷ 16 ∷ [])
    ∷ row (level_of (ktx1 false 0x9278 4 6 0 0 1 3 0 ++ level false 32 ++ level false 16 ++ level false 16 ++ zeros 2) 2) (0 ∷ 1 ∷ 1 ∷ 124 ∷ 16 ∷ [])
    ∷ row (level_of (ktx1 false 0x9278 4 6 0 0 1 3 0 ++ level false 32 ++ level false 16 ++ level false 16 ++ zeros 2) 3) (38 ∷ [])
    ∷ row (opens (ktx1 false 0x9278 4 6 0 0 1 4 0 ++ level false 32 ++ level false 16 ++ level false 16 ++ level false 16)) (24 ∷ [])
    ∷ row (opens (ktx1 false 0x9278 4 6 0 0 1 2 0 ++ level false 32 ++ level false 16 ++ level false 16)) (0 ∷ 2 ∷ 3 ∷ 0 ∷ 4 ∷ 6 ∷ 2 ∷ 0 ∷ 0 ∷ 20 ∷ [])
    ∷ row (opens (ktx1 false 0x9278 4 6 0 0 1 3 0 ++ level false 32 ++ level false 16 ++ level false 8)) (24 ∷ [])
    ∷ row (opens (ktx1 false 0x9278 4 6 0 0 1 3 0 ++ level false 32 ++ level false 16)) (37 ∷ [])
    ∷ row (opens (ktx1 true 0x8d64 1 9 0 0 1 4 0 ++ level true 24 ++ level true 8 ++ level true 8 ++ level true 8)) (0 ∷ 2 ∷ 0 ∷ 0 ∷ 1 ∷ 9 ∷ 4 ∷ 1 ∷ 0 ∷ 0 ∷ [])
    ∷ row (level_of (ktx1 true 0x8d64 1 9 0 0 1 4 0 ++ level true 24 ++ level true 8 ++ level true 8 ++ level true 8) 1) (0 ∷ 1 ∷ 4 ∷ 96 ∷ 8 ∷ [])
    ∷ row (level_of (ktx1 true 0x8d64 1 9 0 0 1 4 0 ++ level true 24 ++ level true 8 ++ level true 8 ++ level true 8) 3) (0 ∷ 1 ∷ 1 ∷ 120 ∷ 8 ∷ [])
    ∷ row (level_of (ktx1 true 0x8d64 1 9 0 0 1 4 0 ++ level true 24 ++ level true 8 ++ level true 8 ++ level true 8) 4) (38 ∷ [])
    ∷ row (opens (ktx1 true 0x8d64 9 1 0 0 1 5 0 ++ level true 24 ++ level true 8 ++ level true 8 ++ level true 8 ++ level true 8)) (24 ∷ [])
    ∷ row (opens (ktx1 true 0x8d64 1 1 0 0 1 2 0 ++ level true 8 ++ level true 8)) (24 ∷ [])
    ∷ row (opens (ktx1 false 0x8d64 4 4 0 0 1 257 0 ++ level false 8)) (24 ∷ [])
    ∷ []

hold_sized_ktx1s : T (every sized_ktx1s)
unfolding answer row every zeros word words pkm identifier ktx1 level ktx2 entry dds dx10 rec orientation qt_orientation keyed keyed2 sized_ktx1s
    little big in_bytes big_bytes size_of walked kept payload_at format_of head_verdict known word32
    bytes_for_lem inside_of after_size_lem in_index_lem fit_in fit_of_lem level_at_lem next_spot_lem levels_from levels_of too_many_lem held_of opened_by found_by
    is_orientation_lem rows_told_lem rows_in_lem orientation_of pkm_as pkm_of ktx1_as ktx1_in ktx1_of ktx2_as ktx2_of dds_flat_lem dx10_flat_lem dds_as four_cc_format dx10_of dds_of sheet_header
    header_of opened_as found_as opened_verdict found_verdict
hold_sized_ktx1s = tt

-- KTX 2: each number; a scheme is refused before the format, and behind what is not flat
ktx2s : List Row
ktx2s =
    row (opens (ktx2 131 4 4 0 0 1 1 0 ++ entry 104 8 ++ zeros 8)) (0 ∷ 3 ∷ 8 ∷ 0 ∷ 4 ∷ 4 ∷ 1 ∷ 0 ∷ 0 ∷ 0 ∷ [])
    ∷ row (opens (ktx2 132 4 4 0 0 1 1 0 ++ entry 104 8 ++ zeros 8)) (0 ∷ 3 ∷ 8 ∷ 1 ∷ 4 ∷ 4 ∷ 1 ∷ 0 ∷ 0 ∷ 0 ∷ [])
    ∷ row (opens (ktx2 133 4 4 0 0 1 1 0 ++ entry 104 8 ++ zeros 8)) (0 ∷ 3 ∷ 9 ∷ 0 ∷ 4 ∷ 4 ∷ 1 ∷ 0 ∷ 0 ∷ 0 ∷ [])
    ∷ row (opens (ktx2 134 4 4 0 0 1 1 0 ++ entry 104 8 ++ zeros 8)) (0 ∷ 3 ∷ 9 ∷ 1 ∷ 4 ∷ 4 ∷ 1 ∷ 0 ∷ 0 ∷ 0 ∷ [])
    ∷ row (opens (ktx2 137 4 4 0 0 1 1 0 ++ entry 104 16 ++ zeros 16)) (0 ∷ 3 ∷ 10 ∷ 0 ∷ 4 ∷ 4 ∷ 1 ∷ 0 ∷ 0 ∷ 0 ∷ [])
    ∷ row (opens (ktx2 138 4 4 0 0 1 1 0 ++ entry 104 16 ++ zeros 16)) (0 ∷ 3 ∷ 10 ∷ 1 ∷ 4 ∷ 4 ∷ 1 ∷ 0 ∷ 0 ∷ 0 ∷ [])
    ∷ row (opens (ktx2 145 4 4 0 0 1 1 0 ++ entry 104 16 ++ zeros 16)) (0 ∷ 3 ∷ 11 ∷ 0 ∷ 4 ∷ 4 ∷ 1 ∷ 0 ∷ 0 ∷ 0 ∷ [])
    ∷ row (opens (ktx2 146 4 4 0 0 1 1 0 ++ entry 104 16 ++ zeros 16)) (0 ∷ 3 ∷ 11 ∷ 1 ∷ 4 ∷ 4 ∷ 1 ∷ 0 ∷ 0 ∷ 0 ∷ [])
    ∷ row (opens (ktx2 147 4 4 0 0 1 1 0 ++ entry 104 8 ++ zeros 8)) (0 ∷ 3 ∷ 1 ∷ 0 ∷ 4 ∷ 4 ∷ 1 ∷ 0 ∷ 0 ∷ 0 ∷ [])
    ∷ row (opens (ktx2 148 4 4 0 0 1 1 0 ++ entry 104 8 ++ zeros 8)) (0 ∷ 3 ∷ 1 ∷ 1 ∷ 4 ∷ 4 ∷ 1 ∷ 0 ∷ 0 ∷ 0 ∷ [])
    ∷ row (opens (ktx2 149 4 4 0 0 1 1 0 ++ entry 104 8 ++ zeros 8)) (0 ∷ 3 ∷ 2 ∷ 0 ∷ 4 ∷ 4 ∷ 1 ∷ 0 ∷ 0 ∷ 0 ∷ [])
    ∷ row (opens (ktx2 150 4 4 0 0 1 1 0 ++ entry 104 8 ++ zeros 8)) (0 ∷ 3 ∷ 2 ∷ 1 ∷ 4 ∷ 4 ∷ 1 ∷ 0 ∷ 0 ∷ 0 ∷ [])
    ∷ row (opens (ktx2 151 4 4 0 0 1 1 0 ++ entry 104 16 ++ zeros 16)) (0 ∷ 3 ∷ 3 ∷ 0 ∷ 4 ∷ 4 ∷ 1 ∷ 0 ∷ 0 ∷ 0 ∷ [])
    ∷ row (opens (ktx2 152 4 4 0 0 1 1 0 ++ entry 104 16 ++ zeros 16)) (0 ∷ 3 ∷ 3 ∷ 1 ∷ 4 ∷ 4 ∷ 1 ∷ 0 ∷ 0 ∷ 0 ∷ [])
    ∷ row (opens (ktx2 153 4 4 0 0 1 1 0 ++ entry 104 8 ++ zeros 8)) (0 ∷ 3 ∷ 4 ∷ 0 ∷ 4 ∷ 4 ∷ 1 ∷ 0 ∷ 0 ∷ 0 ∷ [])
    ∷ row (opens (ktx2 154 4 4 0 0 1 1 0 ++ entry 104 8 ++ zeros 8)) (0 ∷ 3 ∷ 5 ∷ 0 ∷ 4 ∷ 4 ∷ 1 ∷ 0 ∷ 0 ∷ 0 ∷ [])
    ∷ row (opens (ktx2 155 4 4 0 0 1 1 0 ++ entry 104 16 ++ zeros 16)) (0 ∷ 3 ∷ 6 ∷ 0 ∷ 4 ∷ 4 ∷ 1 ∷ 0 ∷ 0 ∷ 0 ∷ [])
    ∷ row (opens (ktx2 156 4 4 0 0 1 1 0 ++ entry 104 16 ++ zeros 16)) (0 ∷ 3 ∷ 7 ∷ 0 ∷ 4 ∷ 4 ∷ 1 ∷ 0 ∷ 0 ∷ 0 ∷ [])
    ∷ row (opens (ktx2 135 4 4 0 0 1 1 0 ++ entry 104 16 ++ zeros 16)) (0 ∷ 3 ∷ 12 ∷ 0 ∷ 4 ∷ 4 ∷ 1 ∷ 0 ∷ 0 ∷ 0 ∷ [])
    ∷ row (opens (ktx2 136 4 4 0 0 1 1 0 ++ entry 104 16 ++ zeros 16)) (0 ∷ 3 ∷ 12 ∷ 1 ∷ 4 ∷ 4 ∷ 1 ∷ 0 ∷ 0 ∷ 0 ∷ [])
    ∷ row (opens (ktx2 139 4 4 0 0 1 1 0 ++ entry 104 8 ++ zeros 8)) (0 ∷ 3 ∷ 13 ∷ 0 ∷ 4 ∷ 4 ∷ 1 ∷ 0 ∷ 0 ∷ 0 ∷ [])
    ∷ row (opens (ktx2 140 4 4 0 0 1 1 0 ++ entry 104 8 ++ zeros 8)) (0 ∷ 3 ∷ 14 ∷ 0 ∷ 4 ∷ 4 ∷ 1 ∷ 0 ∷ 0 ∷ 0 ∷ [])
    ∷ row (opens (ktx2 141 4 4 0 0 1 1 0 ++ entry 104 16 ++ zeros 16)) (0 ∷ 3 ∷ 15 ∷ 0 ∷ 4 ∷ 4 ∷ 1 ∷ 0 ∷ 0 ∷ 0 ∷ [])
    ∷ row (opens (ktx2 142 4 4 0 0 1 1 0 ++ entry 104 16 ++ zeros 16)) (0 ∷ 3 ∷ 16 ∷ 0 ∷ 4 ∷ 4 ∷ 1 ∷ 0 ∷ 0 ∷ 0 ∷ [])
    ∷ row (opens (ktx2 0 4 4 0 0 1 1 1 ++ entry 104 8 ++ zeros 8)) (41 ∷ [])
    ∷ row (opens (ktx2 0 4 4 0 0 1 1 0 ++ entry 104 8 ++ zeros 8)) (23 ∷ [])
    ∷ row (opens (ktx2 130 4 4 0 0 1 1 0 ++ entry 104 8 ++ zeros 8)) (23 ∷ [])
    ∷ row (opens (ktx2 143 4 4 0 0 1 1 0 ++ entry 104 8 ++ zeros 8)) (23 ∷ [])
    ∷ row (opens (ktx2 157 4 4 0 0 1 1 0 ++ entry 104 8 ++ zeros 8)) (23 ∷ [])
    ∷ row (opens (ktx2 65683 4 4 0 0 1 1 0 ++ entry 104 8 ++ zeros 8)) (23 ∷ [])
    ∷ row (opens (ktx2 147 4 4 0 0 1 1 1 ++ entry 104 8 ++ zeros 8)) (41 ∷ [])
    ∷ row (opens (ktx2 147 4 4 0 0 1 1 2 ++ entry 104 8 ++ zeros 8)) (41 ∷ [])
    ∷ row (opens (ktx2 147 4 4 0 0 1 1 3 ++ entry 104 8 ++ zeros 8)) (41 ∷ [])
    ∷ row (opens (ktx2 147 4 4 0 0 1 1 256 ++ entry 104 8 ++ zeros 8)) (41 ∷ [])
    ∷ row (opens (ktx2 147 4 4 1 1 0 0 0 ++ entry 104 8 ++ zeros 8)) (0 ∷ 3 ∷ 1 ∷ 0 ∷ 4 ∷ 4 ∷ 1 ∷ 0 ∷ 0 ∷ 0 ∷ [])
    ∷ row (opens (ktx2 147 4 4 2 0 1 1 0 ++ entry 104 8 ++ zeros 8)) (25 ∷ [])
    ∷ row (opens (ktx2 147 4 4 0 2 1 1 0 ++ entry 104 8 ++ zeros 8)) (25 ∷ [])
    ∷ row (opens (ktx2 147 4 4 0 0 6 1 0 ++ entry 104 8 ++ zeros 8)) (25 ∷ [])
    ∷ row (opens (take 79 (ktx2 147 4 4 0 0 1 1 0))) (20 ∷ [])
    ∷ row (opens (ktx2 147 4 4 0 0 1 1 0)) (37 ∷ [])
    ∷ row (opens (take 103 (ktx2 147 4 4 0 0 1 1 0 ++ entry 104 8))) (37 ∷ [])
    ∷ row (opens (ktx2 147 4 4 0 0 1 1 0 ++ entry 104 8)) (37 ∷ [])
    ∷ row (opens (ktx2 0 4 4 2 0 1 1 0)) (25 ∷ [])
    ∷ []

hold_ktx2s : T (every ktx2s)
unfolding answer row every zeros word words pkm identifier ktx1 level ktx2 entry dds dx10 rec orientation qt_orientation keyed keyed2 ktx2s
    little big in_bytes big_bytes size_of walked kept payload_at format_of head_verdict known word32
    bytes_for_lem inside_of after_size_lem in_index_lem fit_in fit_of_lem level_at_lem next_spot_lem levels_from levels_of too_many_lem held_of opened_by found_by
    is_orientation_lem rows_told_lem rows_in_lem orientation_of pkm_as pkm_of ktx1_as ktx1_in ktx1_of ktx2_as ktx2_of dds_flat_lem dx10_flat_lem dds_as four_cc_format dx10_of dds_of sheet_header
    header_of opened_as found_as opened_verdict found_verdict
hold_ktx2s = tt

-- offsets and lengths: exactly the blocks, inside the file, near 2^32 and 2^64 too; the furthest end counts
placed_ktx2s : List Row
placed_ktx2s =
    row (opens (ktx2 147 4 4 0 0 1 1 0 ++ entry 104 8 ++ zeros 7)) (37 ∷ [])
    ∷ row (opens (ktx2 147 4 4 0 0 1 1 0 ++ entry 105 8 ++ zeros 9)) (0 ∷ 3 ∷ 1 ∷ 0 ∷ 4 ∷ 4 ∷ 1 ∷ 0 ∷ 0 ∷ 0 ∷ [])
    ∷ row (level_of (ktx2 147 4 4 0 0 1 1 0 ++ entry 105 8 ++ zeros 9) 0) (0 ∷ 4 ∷ 4 ∷ 105 ∷ 8 ∷ [])
    ∷ row (opens (ktx2 147 4 4 0 0 1 1 0 ++ entry 0 8 ++ zeros 3)) (0 ∷ 3 ∷ 1 ∷ 0 ∷ 4 ∷ 4 ∷ 1 ∷ 0 ∷ 0 ∷ 99 ∷ [])
    ∷ row (opens (ktx2 147 4 4 0 0 1 1 0 ++ entry 104 16 ++ zeros 16)) (24 ∷ [])
    ∷ row (opens (ktx2 147 4 4 0 0 1 1 0 ++ entry 104 4294967304 ++ zeros 16)) (24 ∷ [])
    ∷ row (opens (ktx2 147 4 4 0 0 1 1 0 ++ entry 4294967400 8 ++ zeros 16)) (37 ∷ [])
    ∷ row (opens (ktx2 147 4 4 0 0 1 1 0 ++ entry 18446744073709551608 8 ++ zeros 16)) (37 ∷ [])
    ∷ row (opens (ktx2 147 4 4 0 0 1 1 0 ++ entry 18446744073709551615 8 ++ zeros 16)) (37 ∷ [])
    ∷ row (opens (ktx2 147 4 4 0 0 1 1 0 ++ entry 113 8 ++ zeros 8)) (37 ∷ [])
    ∷ row (opens (ktx2 147 0 4 0 0 1 1 0 ++ entry 104 8 ++ zeros 8)) (26 ∷ [])
    ∷ row (opens (ktx2 147 4 0 0 0 1 1 0 ++ entry 104 8 ++ zeros 8)) (26 ∷ [])
    ∷ row (opens (ktx2 147 65537 4 0 0 1 1 0)) (1 ∷ [])
    ∷ row (opens (ktx2 147 4 65537 0 0 1 1 0)) (1 ∷ [])
    ∷ row (opens (ktx2 151 9 4 0 0 1 2 0 ++ entry 144 48 ++ entry 128 16 ++ zeros 16 ++ zeros 48 ++ zeros 3)) (0 ∷ 3 ∷ 3 ∷ 0 ∷ 9 ∷ 4 ∷ 2 ∷ 0 ∷ 0 ∷ 3 ∷ [])
    ∷ row (level_of (ktx2 151 9 4 0 0 1 2 0 ++ entry 144 48 ++ entry 128 16 ++ zeros 16 ++ zeros 48) 0) (0 ∷ 9 ∷ 4 ∷ 144 ∷ 48 ∷ [])
    ∷ row (level_of (ktx2 151 9 4 0 0 1 2 0 ++ entry 144 48 ++ entry 128 16 ++ zeros 16 ++ zeros 48) 1) (0 ∷ 4 ∷ 2 ∷ 128 ∷ 16 ∷ [])
    ∷ row (level_of (ktx2 151 9 4 0 0 1 2 0 ++ entry 144 48 ++ entry 128 16 ++ zeros 16 ++ zeros 48) 2) (38 ∷ [])
    ∷ row (opens (ktx2 151 9 4 0 0 1 2 0 ++ entry 128 48 ++ entry 176 16 ++ zeros 48 ++ zeros 16 ++ zeros 1)) (0 ∷ 3 ∷ 3 ∷ 0 ∷ 9 ∷ 4 ∷ 2 ∷ 0 ∷ 0 ∷ 1 ∷ [])
    ∷ row (opens (ktx2 151 9 4 0 0 1 2 0 ++ entry 128 48 ++ entry 176 16 ++ zeros 48 ++ zeros 15)) (37 ∷ [])
    ∷ row (opens (ktx2 151 9 4 0 0 1 2 0 ++ entry 104 48)) (37 ∷ [])
    ∷ row (opens (ktx2 151 9 4 0 0 1 5 0 ++ entry 104 48)) (24 ∷ [])
    ∷ row (level_of (ktx2 151 9 4 0 0 1 5 0) 0) (24 ∷ [])
    ∷ []

hold_placed_ktx2s : T (every placed_ktx2s)
unfolding answer row every zeros word words pkm identifier ktx1 level ktx2 entry dds dx10 rec orientation qt_orientation keyed keyed2 placed_ktx2s
    little big in_bytes big_bytes size_of walked kept payload_at format_of head_verdict known word32
    bytes_for_lem inside_of after_size_lem in_index_lem fit_in fit_of_lem level_at_lem next_spot_lem levels_from levels_of too_many_lem held_of opened_by found_by
    is_orientation_lem rows_told_lem rows_in_lem orientation_of pkm_as pkm_of ktx1_as ktx1_in ktx1_of ktx2_as ktx2_of dds_flat_lem dx10_flat_lem dds_as four_cc_format dx10_of dds_of sheet_header
    header_of opened_as found_as opened_verdict found_verdict
hold_placed_ktx2s = tt

-- key and value data: which row comes first, in both orders, with both keys; data that is no run of whole entries tells nothing
keyed_files : List Row
keyed_files =
    row (opens (keyed false (word false 23 ++ orientation ++ (83 ∷ 61 ∷ 114 ∷ 44 ∷ 84 ∷ 61 ∷ 100 ∷ 0 ∷ 0 ∷ [])))) (0 ∷ 2 ∷ 0 ∷ 0 ∷ 4 ∷ 4 ∷ 1 ∷ 0 ∷ 1 ∷ 0 ∷ [])
    ∷ row (opens (keyed false (word false 22 ++ orientation ++ (83 ∷ 61 ∷ 114 ∷ 44 ∷ 84 ∷ 61 ∷ 117 ∷ 0 ∷ 0 ∷ [])))) (0 ∷ 2 ∷ 0 ∷ 0 ∷ 4 ∷ 4 ∷ 1 ∷ 0 ∷ 2 ∷ 0 ∷ [])
    ∷ row (opens (keyed false (word false 27 ++ qt_orientation ++ (83 ∷ 61 ∷ 114 ∷ 44 ∷ 84 ∷ 61 ∷ 100 ∷ 44 ∷ 82 ∷ 61 ∷ 105 ∷ 0 ∷ 0 ∷ []))))
    (0 ∷ 2 ∷ 0 ∷ 0 ∷ 4 ∷ 4 ∷ 1 ∷ 0 ∷ 1 ∷ 0 ∷ [])
    ∷ row (opens (keyed true (word true 23 ++ orientation ++ (83 ∷ 61 ∷ 114 ∷ 44 ∷ 84 ∷ 61 ∷ 100 ∷ 0 ∷ 0 ∷ [])))) (0 ∷ 2 ∷ 0 ∷ 0 ∷ 4 ∷ 4 ∷ 1 ∷ 1 ∷ 1 ∷ 0 ∷ [])
    ∷ row (opens (keyed true (word true 22 ++ orientation ++ (83 ∷ 61 ∷ 114 ∷ 44 ∷ 84 ∷ 61 ∷ 117 ∷ 0 ∷ 0 ∷ [])))) (0 ∷ 2 ∷ 0 ∷ 0 ∷ 4 ∷ 4 ∷ 1 ∷ 1 ∷ 2 ∷ 0 ∷ [])
    ∷ row (opens (keyed true (word true 27 ++ qt_orientation ++ (83 ∷ 61 ∷ 114 ∷ 44 ∷ 84 ∷ 61 ∷ 100 ∷ 44 ∷ 82 ∷ 61 ∷ 105 ∷ 0 ∷ 0 ∷ [])))) (0 ∷ 2 ∷ 0 ∷ 0 ∷ 4 ∷ 4 ∷ 1 ∷ 1 ∷ 1 ∷ 0 ∷ [])
    ∷ row (opens (keyed false (word false 21 ++ orientation ++ (83 ∷ 61 ∷ 114 ∷ 44 ∷ 84 ∷ 61 ∷ 100 ∷ 0 ∷ 0 ∷ [])))) (0 ∷ 2 ∷ 0 ∷ 0 ∷ 4 ∷ 4 ∷ 1 ∷ 0 ∷ 0 ∷ 0 ∷ [])
    ∷ row (opens (keyed false (word false 22 ++ orientation ++ (83 ∷ 61 ∷ 114 ∷ 44 ∷ 84 ∷ 61 ∷ 120 ∷ 0 ∷ 0 ∷ [])))) (0 ∷ 2 ∷ 0 ∷ 0 ∷ 4 ∷ 4 ∷ 1 ∷ 0 ∷ 0 ∷ 0 ∷ [])
    ∷ row (opens (keyed false (word false 22
    ++ (75 ∷ 84 ∷ 88 ∷ 111 ∷ 114 ∷ 105 ∷ 101 ∷ 110 ∷ 116 ∷ 97 ∷ 116 ∷ 105 ∷ 111 ∷ 78 ∷ 0 ∷ 83 ∷ 61 ∷ 114 ∷ 44 ∷ 84 ∷ 61 ∷ 100 ∷ 0 ∷ 0 ∷ []))))
    (0 ∷ 2 ∷ 0 ∷ 0 ∷ 4 ∷ 4 ∷ 1 ∷ 0 ∷ 0 ∷ 0 ∷ [])
    ∷ row (opens (keyed false (word false 22
    ++ (75 ∷ 84 ∷ 88 ∷ 111 ∷ 114 ∷ 105 ∷ 101 ∷ 110 ∷ 116 ∷ 97 ∷ 122 ∷ 105 ∷ 111 ∷ 110 ∷ 0 ∷ 83 ∷ 61 ∷ 114 ∷ 44 ∷ 84 ∷ 61 ∷ 100 ∷ 0 ∷ 0 ∷ []))))
    (0 ∷ 2 ∷ 0 ∷ 0 ∷ 4 ∷ 4 ∷ 1 ∷ 0 ∷ 0 ∷ 0 ∷ [])
    ∷ row (opens (keyed false (word false 22 ++ (75 ∷ 84 ∷ 88 ∷ 111 ∷ 114 ∷ 105 ∷ 101 ∷ 110 ∷ 116 ∷ 97 ∷ 108 ∷ 0 ∷ 0 ∷ 0 ∷ 0 ∷ 83 ∷ 61 ∷ 114 ∷ 44 ∷ 84 ∷ 61 ∷ 100 ∷ 0 ∷ 0 ∷ []))))
    (0 ∷ 2 ∷ 0 ∷ 0 ∷ 4 ∷ 4 ∷ 1 ∷ 0 ∷ 0 ∷ 0 ∷ [])
    ∷ row (opens (keyed false (word false 22
    ++ (75 ∷ 84 ∷ 88 ∷ 97 ∷ 114 ∷ 105 ∷ 101 ∷ 110 ∷ 116 ∷ 97 ∷ 116 ∷ 105 ∷ 111 ∷ 110 ∷ 0 ∷ 83 ∷ 61 ∷ 114 ∷ 44 ∷ 84 ∷ 61 ∷ 100 ∷ 0 ∷ 0 ∷ []))))
    (0 ∷ 2 ∷ 0 ∷ 0 ∷ 4 ∷ 4 ∷ 1 ∷ 0 ∷ 0 ∷ 0 ∷ [])
    ∷ row (opens (keyed false (word false 22
    ++ (75 ∷ 84 ∷ 88 ∷ 111 ∷ 114 ∷ 120 ∷ 101 ∷ 110 ∷ 116 ∷ 97 ∷ 116 ∷ 105 ∷ 111 ∷ 110 ∷ 0 ∷ 83 ∷ 61 ∷ 114 ∷ 44 ∷ 84 ∷ 61 ∷ 100 ∷ 0 ∷ 0 ∷ []))))
    (0 ∷ 2 ∷ 0 ∷ 0 ∷ 4 ∷ 4 ∷ 1 ∷ 0 ∷ 0 ∷ 0 ∷ [])
    ∷ row (opens (keyed false (word false 22
    ++ (75 ∷ 84 ∷ 88 ∷ 111 ∷ 114 ∷ 105 ∷ 101 ∷ 110 ∷ 116 ∷ 97 ∷ 116 ∷ 105 ∷ 111 ∷ 110 ∷ 1 ∷ 83 ∷ 61 ∷ 114 ∷ 44 ∷ 84 ∷ 61 ∷ 100 ∷ 0 ∷ 0 ∷ []))))
    (0 ∷ 2 ∷ 0 ∷ 0 ∷ 4 ∷ 4 ∷ 1 ∷ 0 ∷ 0 ∷ 0 ∷ [])
    ∷ row (opens (keyed false (word false 22 ++ orientation ++ (83 ∷ 61 ∷ 114 ∷ 44 ∷ 84 ∷ 61 ∷ 100 ∷ 0 ∷ [])))) (0 ∷ 2 ∷ 0 ∷ 0 ∷ 4 ∷ 4 ∷ 1 ∷ 0 ∷ 0 ∷ 0 ∷ [])
    ∷ row (opens (keyed false (word false 24 ++ orientation ++ (83 ∷ 61 ∷ 114 ∷ 44 ∷ 84 ∷ 61 ∷ 100 ∷ [])))) (0 ∷ 2 ∷ 0 ∷ 0 ∷ 4 ∷ 4 ∷ 1 ∷ 0 ∷ 0 ∷ 0 ∷ [])
    ∷ row (opens (keyed false (word false 3 ++ (97 ∷ 98 ∷ 0 ∷ 0 ∷ []) ++ word false 22 ++ orientation ++ (83 ∷ 61 ∷ 114 ∷ 44 ∷ 84 ∷ 61 ∷ 117 ∷ 0 ∷ 0 ∷ []))))
    (0 ∷ 2 ∷ 0 ∷ 0 ∷ 4 ∷ 4 ∷ 1 ∷ 0 ∷ 2 ∷ 0 ∷ [])
    ∷ row (opens (keyed false (word false 22 ++ orientation ++ (83 ∷ 61 ∷ 114 ∷ 44 ∷ 84 ∷ 61 ∷ 117 ∷ 0 ∷ 0 ∷ []) ++ word false 3 ++ (97 ∷ 98 ∷ 0 ∷ 0 ∷ []))))
    (0 ∷ 2 ∷ 0 ∷ 0 ∷ 4 ∷ 4 ∷ 1 ∷ 0 ∷ 2 ∷ 0 ∷ [])
    ∷ row (opens (keyed false (word false 22 ++ orientation ++ (83 ∷ 61 ∷ 114 ∷ 44 ∷ 84 ∷ 61 ∷ 117 ∷ 0 ∷ 0 ∷ []) ++ (3 ∷ 0 ∷ 0 ∷ [])))) (0 ∷ 2 ∷ 0 ∷ 0 ∷ 4 ∷ 4 ∷ 1 ∷ 0 ∷ 0 ∷ 0 ∷ [])
    ∷ row (opens (keyed false (word false 22 ++ orientation ++ (83 ∷ 61 ∷ 114 ∷ 44 ∷ 84 ∷ 61 ∷ 117 ∷ 0 ∷ 0 ∷ []) ++ word false 5 ++ (97 ∷ 98 ∷ 0 ∷ 0 ∷ []))))
    (0 ∷ 2 ∷ 0 ∷ 0 ∷ 4 ∷ 4 ∷ 1 ∷ 0 ∷ 0 ∷ 0 ∷ [])
    ∷ row (opens (keyed false (word false 22 ++ orientation
    ++ (83 ∷ 61 ∷ 114 ∷ 44 ∷ 84 ∷ 61 ∷ 117 ∷ 0 ∷ 0 ∷ [])
    ++ word false 22 ++ orientation
    ++ (83 ∷ 61 ∷ 114 ∷ 44 ∷ 84 ∷ 61 ∷ 100 ∷ 0 ∷ 0 ∷ []))))
    (0 ∷ 2 ∷ 0 ∷ 0 ∷ 4 ∷ 4 ∷ 1 ∷ 0 ∷ 1 ∷ 0 ∷ [])
    ∷ row (opens (keyed2 112 24 (word false 18 ++ orientation ++ (114 ∷ 100 ∷ 0 ∷ 0 ∷ 0 ∷ [])))) (0 ∷ 3 ∷ 1 ∷ 0 ∷ 4 ∷ 4 ∷ 1 ∷ 0 ∷ 1 ∷ 24 ∷ [])
    ∷ row (opens (keyed2 112 24 (word false 18 ++ orientation ++ (114 ∷ 117 ∷ 0 ∷ 0 ∷ 0 ∷ [])))) (0 ∷ 3 ∷ 1 ∷ 0 ∷ 4 ∷ 4 ∷ 1 ∷ 0 ∷ 2 ∷ 24 ∷ [])
    ∷ row (opens (keyed2 112 24 (word false 18 ++ orientation ++ (114 ∷ 120 ∷ 0 ∷ 0 ∷ 0 ∷ [])))) (0 ∷ 3 ∷ 1 ∷ 0 ∷ 4 ∷ 4 ∷ 1 ∷ 0 ∷ 0 ∷ 24 ∷ [])
    ∷ row (opens (keyed2 112 24 (word false 18 ++ orientation ++ (108 ∷ 100 ∷ 0 ∷ 0 ∷ 0 ∷ [])))) (0 ∷ 3 ∷ 1 ∷ 0 ∷ 4 ∷ 4 ∷ 1 ∷ 0 ∷ 0 ∷ 24 ∷ [])
    ∷ row (opens (keyed2 112 24 (word false 17 ++ orientation ++ (114 ∷ 100 ∷ 0 ∷ 0 ∷ 0 ∷ [])))) (0 ∷ 3 ∷ 1 ∷ 0 ∷ 4 ∷ 4 ∷ 1 ∷ 0 ∷ 1 ∷ 24 ∷ [])
    ∷ row (opens (keyed2 112 24 (word false 16 ++ orientation ++ (114 ∷ 100 ∷ 0 ∷ 0 ∷ 0 ∷ [])))) (0 ∷ 3 ∷ 1 ∷ 0 ∷ 4 ∷ 4 ∷ 1 ∷ 0 ∷ 0 ∷ 24 ∷ [])
    ∷ row (opens (keyed2 112 25 (word false 18 ++ orientation ++ (114 ∷ 100 ∷ 0 ∷ 0 ∷ 0 ∷ [])))) (0 ∷ 3 ∷ 1 ∷ 0 ∷ 4 ∷ 4 ∷ 1 ∷ 0 ∷ 0 ∷ 24 ∷ [])
    ∷ row (opens (keyed2 113 24 (word false 18 ++ orientation ++ (114 ∷ 100 ∷ 0 ∷ 0 ∷ 0 ∷ [])))) (0 ∷ 3 ∷ 1 ∷ 0 ∷ 4 ∷ 4 ∷ 1 ∷ 0 ∷ 0 ∷ 24 ∷ [])
    ∷ row (opens (keyed2 112 20 (word false 18 ++ orientation ++ (114 ∷ 100 ∷ 0 ∷ 0 ∷ 0 ∷ [])))) (0 ∷ 3 ∷ 1 ∷ 0 ∷ 4 ∷ 4 ∷ 1 ∷ 0 ∷ 0 ∷ 24 ∷ [])
    ∷ row (opens (keyed2 112 0 (word false 18 ++ orientation ++ (114 ∷ 100 ∷ 0 ∷ 0 ∷ 0 ∷ [])))) (0 ∷ 3 ∷ 1 ∷ 0 ∷ 4 ∷ 4 ∷ 1 ∷ 0 ∷ 0 ∷ 24 ∷ [])
    ∷ row (opens (keyed2 4294967295 4294967295 (word false 18 ++ orientation ++ (114 ∷ 100 ∷ 0 ∷ 0 ∷ 0 ∷ [])))) (0 ∷ 3 ∷ 1 ∷ 0 ∷ 4 ∷ 4 ∷ 1 ∷ 0 ∷ 0 ∷ 24 ∷ [])
    ∷ row (opens (keyed2 137 0 (word false 18 ++ orientation ++ (114 ∷ 100 ∷ 0 ∷ 0 ∷ 0 ∷ [])))) (0 ∷ 3 ∷ 1 ∷ 0 ∷ 4 ∷ 4 ∷ 1 ∷ 0 ∷ 0 ∷ 24 ∷ [])
    ∷ row (opens (keyed2 112 24 (word false 18 ++ qt_orientation ++ (114 ∷ 100 ∷ 0 ∷ 0 ∷ 0 ∷ [])))) (0 ∷ 3 ∷ 1 ∷ 0 ∷ 4 ∷ 4 ∷ 1 ∷ 0 ∷ 1 ∷ 24 ∷ [])
    ∷ []

hold_keyed_files : T (every keyed_files)
unfolding answer row every zeros word words pkm identifier ktx1 level ktx2 entry dds dx10 rec orientation qt_orientation keyed keyed2 keyed_files
    little big in_bytes big_bytes size_of walked kept payload_at format_of head_verdict known word32
    bytes_for_lem inside_of after_size_lem in_index_lem fit_in fit_of_lem level_at_lem next_spot_lem levels_from levels_of too_many_lem held_of opened_by found_by
    is_orientation_lem rows_told_lem rows_in_lem orientation_of pkm_as pkm_of ktx1_as ktx1_in ktx1_of ktx2_as ktx2_of dds_flat_lem dx10_flat_lem dds_as four_cc_format dx10_of dds_of sheet_header
    header_of opened_as found_as opened_verdict found_verdict
hold_keyed_files = tt

-- each number has all its bytes and no other; a file that ends beside a field; two levels and more
edges : List Row
edges =
    row (opens (ktx1 false 0x9274 0x1000004 4 0 0 1 1 0 ++ level false 8)) (1 ∷ [])
    ∷ row (opens (ktx1 false 0x9274 4 4 0 0 2 1 0 ++ level false 8)) (25 ∷ [])
    ∷ row (opens (ktx1 false 0x9274 4 4 0 0 1 1 0 ++ word false 9)) (24 ∷ [])
    ∷ row (opens (ktx1 false 0x9274 4 4 0 0 1 1 0 ++ (9 ∷ 0 ∷ 0 ∷ []))) (37 ∷ [])
    ∷ row (opens (ktx1 false 0x9274 8 4 0 0 1 4 0 ++ level false 16 ++ level false 8 ++ level false 8 ++ level false 8))
    (0 ∷ 2 ∷ 1 ∷ 0 ∷ 8 ∷ 4 ∷ 4 ∷ 0 ∷ 0 ∷ 0 ∷ [])
    ∷ row (opens (ktx1 false 0x9274 8 8 0 0 1 2 0 ++ level false 32 ++ level false 8)) (0 ∷ 2 ∷ 1 ∷ 0 ∷ 8 ∷ 8 ∷ 2 ∷ 0 ∷ 0 ∷ 0 ∷ [])
    ∷ row (opens (ktx2 147 4 4 0 0 1 1 0 ++ entry 104 9)) (24 ∷ [])
    ∷ row (opens (take 103 (ktx2 147 4 4 0 0 1 1 0 ++ entry 104 9))) (37 ∷ [])
    ∷ row (opens (ktx2 147 8 4 0 0 1 2 0 ++ entry 0 16 ++ entry 0 9)) (24 ∷ [])
    ∷ row (opens (take 127 (ktx2 147 8 4 0 0 1 2 0 ++ entry 0 16 ++ entry 0 9))) (37 ∷ [])
    ∷ row (opens (ktx2 147 8 8 0 0 1 2 0 ++ entry 0 32 ++ entry 0 8)) (0 ∷ 3 ∷ 1 ∷ 0 ∷ 8 ∷ 8 ∷ 2 ∷ 0 ∷ 0 ∷ 96 ∷ [])
    ∷ row (opens (ktx2 147 4 4 0 0 1 1 0 ++ entry 104 0x100000000000008 ++ zeros 8)) (24 ∷ [])
    ∷ row (opens (ktx2 147 4 4 0 0 1 1 0 ++ entry 0x100000000000068 8 ++ zeros 8)) (37 ∷ [])
    ∷ row (opens (ktx2 147 4 4 0 0 1 1 0 ++ in_bytes 8 104 ++ in_bytes 8 8 ++ in_bytes 8 8 ++ zeros 8)) (0 ∷ 3 ∷ 1 ∷ 0 ∷ 4 ∷ 4 ∷ 1 ∷ 0 ∷ 0 ∷ 0 ∷ [])
    ∷ row (opens ((0 ∷ 0 ∷ 0 ∷ 0 ∷ 32 ∷ 50 ∷ 48 ∷ 187 ∷ 13 ∷ 10 ∷ 26 ∷ 10 ∷ []) ++ words false (147 ∷ 1 ∷ 4 ∷ 4 ∷ 0 ∷ 0 ∷ 1 ∷ 1 ∷ 0 ∷ 0 ∷ 0 ∷ 0 ∷ 0 ∷ []) ++ zeros 16 ++ entry 104 8 ++ zeros 8))
    (21 ∷ [])
    ∷ row (opens (ktx2 147 0x1000004 4 0 0 1 1 0 ++ entry 104 8 ++ zeros 8)) (1 ∷ [])
    ∷ row (opens (ktx2 147 4 0x1000004 0 0 1 1 0 ++ entry 104 8 ++ zeros 8)) (1 ∷ [])
    ∷ row (opens (ktx2 147 4 4 0x1000000 0 1 1 0 ++ entry 104 8 ++ zeros 8)) (25 ∷ [])
    ∷ row (opens (ktx2 147 4 4 0 0x1000000 1 1 0 ++ entry 104 8 ++ zeros 8)) (25 ∷ [])
    ∷ row (opens (ktx2 147 4 4 0 0 0x1000001 1 0 ++ entry 104 8 ++ zeros 8)) (25 ∷ [])
    ∷ row (opens (ktx2 147 4 4 0 0 1 1 0x1000000 ++ entry 104 8 ++ zeros 8)) (41 ∷ [])
    ∷ row (opens (ktx2 0x1000093 4 4 0 0 1 1 0 ++ entry 104 8 ++ zeros 8)) (23 ∷ [])
    ∷ row (opens (identifier 0x32 0x30 ++ words false (147 ∷ 1 ∷ 4 ∷ 4 ∷ 0 ∷ 0 ∷ 1 ∷ 1 ∷ 0 ∷ 104 ∷ 44 ∷ 0 ∷ 0 ∷ []) ++ zeros 16 ++ entry 148 8 ++ zeros 52))
    (0 ∷ 3 ∷ 1 ∷ 0 ∷ 4 ∷ 4 ∷ 1 ∷ 0 ∷ 0 ∷ 0 ∷ [])
    ∷ row (opens (pkm 0x3130 0 4 4 4 4)) (37 ∷ [])
    ∷ row (opens (pkm 0x3130 256 4 4 4 4 ++ zeros 8)) (23 ∷ [])
    ∷ row (opens (pkm 0x3130 0 256 4 256 4 ++ zeros 512)) (0 ∷ 1 ∷ 0 ∷ 0 ∷ 256 ∷ 4 ∷ 1 ∷ 1 ∷ 0 ∷ 0 ∷ [])
    ∷ row (opens (dds 4 0x44585435 4 4 0 0x0 ++ zeros 15)) (37 ∷ [])
    ∷ row (opens (dds 4 0x44585431 0x1000004 4 0 0x0 ++ zeros 8)) (1 ∷ [])
    ∷ row (opens (dds 4 0x44585431 4 0x1000004 0 0x0 ++ zeros 8)) (1 ∷ [])
    ∷ row (opens (dds 4 0x44583130 4 4 0 0x0 ++ dx10 71 0x1000003 0 1 ++ zeros 8)) (25 ∷ [])
    ∷ row (opens (dds 4 0x44583130 4 4 0 0x0 ++ dx10 71 0x1000000 0 1 ++ zeros 8)) (25 ∷ [])
    ∷ row (opens (dds 4 0x44583130 4 4 0 0x0 ++ dx10 71 3 0 0x1000000 ++ zeros 8)) (25 ∷ [])
    ∷ row (opens (dds 4 0x44583130 4 4 0 0x0 ++ dx10 71 3 1 1 ++ zeros 8)) (0 ∷ 4 ∷ 9 ∷ 0 ∷ 4 ∷ 4 ∷ 1 ∷ 0 ∷ 0 ∷ 0 ∷ [])
    ∷ row (opens (dds 4 0x44583130 4 4 0 0x0 ++ dx10 0x1000047 3 0 1 ++ zeros 8)) (23 ∷ [])
    ∷ row (opens (dds 4 0x44583130 4 4 0 0x0 ++ words false (71 ∷ 3 ∷ 0 ∷ 1 ∷ 3 ∷ []) ++ zeros 8)) (0 ∷ 4 ∷ 9 ∷ 0 ∷ 4 ∷ 4 ∷ 1 ∷ 0 ∷ 0 ∷ 0 ∷ [])
    ∷ row (opens ((68 ∷ 68 ∷ 83 ∷ 32 ∷ []) ++ words false (124 ∷ 0x1007 ∷ 4 ∷ 4 ∷ 8 ∷ 0 ∷ 1 ∷ 0x5454564e ∷ []) ++ zeros 40
    ++ words false (32 ∷ 4 ∷ []) ++ big_bytes 4 0x44585431 ++ zeros 20 ++ words false (0x1000 ∷ 0 ∷ []) ++ zeros 12 ++ zeros 8))
    (0 ∷ 4 ∷ 9 ∷ 0 ∷ 4 ∷ 4 ∷ 1 ∷ 0 ∷ 0 ∷ 0 ∷ [])
    ∷ row (level_of (dds 4 0x44585435 8 8 2 0x0 ++ zeros 80) 1) (0 ∷ 4 ∷ 4 ∷ 192 ∷ 16 ∷ [])
    ∷ []

hold_edges : T (every edges)
unfolding answer row every zeros word words pkm identifier ktx1 level ktx2 entry dds dx10 rec orientation qt_orientation keyed keyed2 edges
    little big in_bytes big_bytes size_of walked kept payload_at format_of head_verdict known word32
    bytes_for_lem inside_of after_size_lem in_index_lem fit_in fit_of_lem level_at_lem next_spot_lem levels_from levels_of too_many_lem held_of opened_by found_by
    is_orientation_lem rows_told_lem rows_in_lem orientation_of pkm_as pkm_of ktx1_as ktx1_in ktx1_of ktx2_as ktx2_of dds_flat_lem dx10_flat_lem dds_as four_cc_format dx10_of dds_of sheet_header
    header_of opened_as found_as opened_verdict found_verdict
hold_edges = tt

-- key and value data that is cut, is no run of entries, or is told to lie elsewhere
keyed_edges : List Row
keyed_edges =
    row (opens (keyed false (word false 23 ++ orientation ++ (83 ∷ 61 ∷ 114 ∷ 44 ∷ 84 ∷ 61 ∷ 100 ∷ 0 ∷ 0 ∷ []) ++ (0 ∷ 0 ∷ []))))
    (0 ∷ 2 ∷ 0 ∷ 0 ∷ 4 ∷ 4 ∷ 1 ∷ 0 ∷ 0 ∷ 0 ∷ [])
    ∷ row (opens (keyed false (word false 23 ++ orientation ++ (83 ∷ 61 ∷ 114 ∷ 44 ∷ 84 ∷ 61 ∷ 100 ∷ 0 ∷ 0 ∷ []) ++ word false 9 ++ zeros 8)))
    (0 ∷ 2 ∷ 0 ∷ 0 ∷ 4 ∷ 4 ∷ 1 ∷ 0 ∷ 0 ∷ 0 ∷ [])
    ∷ row (opens (keyed false (word false 23 ++ orientation ++ (83 ∷ 61 ∷ 114 ∷ 44 ∷ 84 ∷ 61 ∷ 100 ∷ 0 ∷ 0 ∷ []) ++ word false 8 ++ zeros 8)))
    (0 ∷ 2 ∷ 0 ∷ 0 ∷ 4 ∷ 4 ∷ 1 ∷ 0 ∷ 1 ∷ 0 ∷ [])
    ∷ row (opens (keyed false (word false 5 ++ zeros 8 ++ word false 23 ++ orientation ++ (83 ∷ 61 ∷ 114 ∷ 44 ∷ 84 ∷ 61 ∷ 100 ∷ 0 ∷ 0 ∷ []))))
    (0 ∷ 2 ∷ 0 ∷ 0 ∷ 4 ∷ 4 ∷ 1 ∷ 0 ∷ 1 ∷ 0 ∷ [])
    ∷ row (opens (keyed2 112 24 (word false 18 ++ orientation ++ (114 ∷ 100 ∷ 0 ∷ 0 ∷ 0 ∷ [])))) (0 ∷ 3 ∷ 1 ∷ 0 ∷ 4 ∷ 4 ∷ 1 ∷ 0 ∷ 1 ∷ 24 ∷ [])
    ∷ row (opens (keyed2 0x1000070 24 (word false 18 ++ orientation ++ (114 ∷ 100 ∷ 0 ∷ 0 ∷ 0 ∷ [])))) (0 ∷ 3 ∷ 1 ∷ 0 ∷ 4 ∷ 4 ∷ 1 ∷ 0 ∷ 0 ∷ 24 ∷ [])
    ∷ row (opens (keyed2 112 0x1000018 (word false 18 ++ orientation ++ (114 ∷ 100 ∷ 0 ∷ 0 ∷ 0 ∷ [])))) (0 ∷ 3 ∷ 1 ∷ 0 ∷ 4 ∷ 4 ∷ 1 ∷ 0 ∷ 0 ∷ 24 ∷ [])
    ∷ row (opens (keyed2 137 0 (word false 18 ++ orientation ++ (114 ∷ 100 ∷ 0 ∷ 0 ∷ 0 ∷ [])))) (0 ∷ 3 ∷ 1 ∷ 0 ∷ 4 ∷ 4 ∷ 1 ∷ 0 ∷ 0 ∷ 24 ∷ [])
    ∷ row (opens (keyed2 112 25 (word false 18 ++ orientation ++ (114 ∷ 100 ∷ 0 ∷ 0 ∷ 0 ∷ [])))) (0 ∷ 3 ∷ 1 ∷ 0 ∷ 4 ∷ 4 ∷ 1 ∷ 0 ∷ 0 ∷ 24 ∷ [])
    ∷ row (opens (keyed2 112 20 (word false 16 ++ orientation ++ (114 ∷ []) ++ (100 ∷ 0 ∷ 0 ∷ 0 ∷ [])))) (0 ∷ 3 ∷ 1 ∷ 0 ∷ 4 ∷ 4 ∷ 1 ∷ 0 ∷ 0 ∷ 24 ∷ [])
    ∷ row (opens (keyed2 112 26 (word false 18 ++ orientation ++ (114 ∷ 100 ∷ 0 ∷ 0 ∷ 0 ∷ []) ++ (0 ∷ 0 ∷ []))))
    (0 ∷ 3 ∷ 1 ∷ 0 ∷ 4 ∷ 4 ∷ 1 ∷ 0 ∷ 0 ∷ 26 ∷ [])
    ∷ row (opens (keyed2 112 36 (word false 18 ++ orientation ++ (114 ∷ 117 ∷ 0 ∷ 0 ∷ 0 ∷ []) ++ word false 9 ++ zeros 8)))
    (0 ∷ 3 ∷ 1 ∷ 0 ∷ 4 ∷ 4 ∷ 1 ∷ 0 ∷ 0 ∷ 36 ∷ [])
    ∷ []

hold_keyed_edges : T (every keyed_edges)
unfolding answer row every zeros word words pkm identifier ktx1 level ktx2 entry dds dx10 rec orientation qt_orientation keyed keyed2 keyed_edges
    little big in_bytes big_bytes size_of walked kept payload_at format_of head_verdict known word32
    bytes_for_lem inside_of after_size_lem in_index_lem fit_in fit_of_lem level_at_lem next_spot_lem levels_from levels_of too_many_lem held_of opened_by found_by
    is_orientation_lem rows_told_lem rows_in_lem orientation_of pkm_as pkm_of ktx1_as ktx1_in ktx1_of ktx2_as ktx2_of dds_flat_lem dx10_flat_lem dds_as four_cc_format dx10_of dds_of sheet_header
    header_of opened_as found_as opened_verdict found_verdict
hold_keyed_edges = tt

-- DDS: FourCCs and DXGI numbers, and where they mean nothing
ddss : List Row
ddss =
    row (opens (dds 4 0x44585431 4 4 0 0x0 ++ zeros 8)) (0 ∷ 4 ∷ 9 ∷ 0 ∷ 4 ∷ 4 ∷ 1 ∷ 0 ∷ 0 ∷ 0 ∷ [])
    ∷ row (opens (dds 4 0x44585434 4 4 0 0x0 ++ zeros 16)) (0 ∷ 4 ∷ 10 ∷ 0 ∷ 4 ∷ 4 ∷ 1 ∷ 0 ∷ 0 ∷ 0 ∷ [])
    ∷ row (opens (dds 2147483653 0x44585435 4 4 0 0x0 ++ zeros 16)) (0 ∷ 4 ∷ 10 ∷ 0 ∷ 4 ∷ 4 ∷ 1 ∷ 0 ∷ 0 ∷ 0 ∷ [])
    ∷ row (opens (dds 4 0x44585432 4 4 0 0x0 ++ zeros 16)) (0 ∷ 4 ∷ 12 ∷ 0 ∷ 4 ∷ 4 ∷ 1 ∷ 0 ∷ 0 ∷ 0 ∷ [])
    ∷ row (opens (dds 4 0x44585433 4 4 0 0x0 ++ zeros 16)) (0 ∷ 4 ∷ 12 ∷ 0 ∷ 4 ∷ 4 ∷ 1 ∷ 0 ∷ 0 ∷ 0 ∷ [])
    ∷ row (opens (dds 4 0x41544931 4 4 0 0x0 ++ zeros 8)) (0 ∷ 4 ∷ 13 ∷ 0 ∷ 4 ∷ 4 ∷ 1 ∷ 0 ∷ 0 ∷ 0 ∷ [])
    ∷ row (opens (dds 4 0x42433455 4 4 0 0x0 ++ zeros 8)) (0 ∷ 4 ∷ 13 ∷ 0 ∷ 4 ∷ 4 ∷ 1 ∷ 0 ∷ 0 ∷ 0 ∷ [])
    ∷ row (opens (dds 4 0x42433453 4 4 0 0x0 ++ zeros 8)) (0 ∷ 4 ∷ 14 ∷ 0 ∷ 4 ∷ 4 ∷ 1 ∷ 0 ∷ 0 ∷ 0 ∷ [])
    ∷ row (opens (dds 4 0x41544932 4 4 0 0x0 ++ zeros 16)) (0 ∷ 4 ∷ 15 ∷ 0 ∷ 4 ∷ 4 ∷ 1 ∷ 0 ∷ 0 ∷ 0 ∷ [])
    ∷ row (opens (dds 4 0x42433555 4 4 0 0x0 ++ zeros 16)) (0 ∷ 4 ∷ 15 ∷ 0 ∷ 4 ∷ 4 ∷ 1 ∷ 0 ∷ 0 ∷ 0 ∷ [])
    ∷ row (opens (dds 4 0x42433553 4 4 0 0x0 ++ zeros 16)) (0 ∷ 4 ∷ 16 ∷ 0 ∷ 4 ∷ 4 ∷ 1 ∷ 0 ∷ 0 ∷ 0 ∷ [])
    ∷ row (opens (dds 4 0x44585436 4 4 0 0x0 ++ zeros 16)) (23 ∷ [])
    ∷ row (opens (dds 0 0x44585431 4 4 0 0x0 ++ zeros 16)) (23 ∷ [])
    ∷ row (opens (dds 3 0x44585431 4 4 0 0x0 ++ zeros 16)) (23 ∷ [])
    ∷ row (opens (dds 8 0x44585431 4 4 0 0x0 ++ zeros 16)) (23 ∷ [])
    ∷ row (opens (dds 0 0x44583130 4 4 0 0x0 ++ dx10 71 3 0 1 ++ zeros 16)) (23 ∷ [])
    ∷ row (opens (dds 4 0x44583130 4 4 0 0x0 ++ zeros 19)) (20 ∷ [])
    ∷ row (opens (take 127 (dds 4 0x44585431 4 4 0 0x0))) (20 ∷ [])
    ∷ row (opens (dds 4 0x44585431 4 4 0 0x0)) (37 ∷ [])
    ∷ row (opens (take 127 (dds 4 0x44583130 4 4 0 0x0))) (20 ∷ [])
    ∷ row (opens (dds 4 0x44583130 4 4 0 0x0 ++ dx10 70 3 0 1 ++ zeros 8)) (0 ∷ 4 ∷ 9 ∷ 0 ∷ 4 ∷ 4 ∷ 1 ∷ 0 ∷ 0 ∷ 0 ∷ [])
    ∷ row (opens (dds 4 0x44583130 4 4 0 0x0 ++ dx10 71 3 0 1 ++ zeros 8)) (0 ∷ 4 ∷ 9 ∷ 0 ∷ 4 ∷ 4 ∷ 1 ∷ 0 ∷ 0 ∷ 0 ∷ [])
    ∷ row (opens (dds 4 0x44583130 4 4 0 0x0 ++ dx10 72 3 0 1 ++ zeros 8)) (0 ∷ 4 ∷ 9 ∷ 1 ∷ 4 ∷ 4 ∷ 1 ∷ 0 ∷ 0 ∷ 0 ∷ [])
    ∷ row (opens (dds 4 0x44583130 4 4 0 0x0 ++ dx10 76 3 0 1 ++ zeros 16)) (0 ∷ 4 ∷ 10 ∷ 0 ∷ 4 ∷ 4 ∷ 1 ∷ 0 ∷ 0 ∷ 0 ∷ [])
    ∷ row (opens (dds 4 0x44583130 4 4 0 0x0 ++ dx10 77 3 0 1 ++ zeros 16)) (0 ∷ 4 ∷ 10 ∷ 0 ∷ 4 ∷ 4 ∷ 1 ∷ 0 ∷ 0 ∷ 0 ∷ [])
    ∷ row (opens (dds 4 0x44583130 4 4 0 0x0 ++ dx10 78 3 0 1 ++ zeros 16)) (0 ∷ 4 ∷ 10 ∷ 1 ∷ 4 ∷ 4 ∷ 1 ∷ 0 ∷ 0 ∷ 0 ∷ [])
    ∷ row (opens (dds 4 0x44583130 4 4 0 0x0 ++ dx10 97 3 0 1 ++ zeros 16)) (0 ∷ 4 ∷ 11 ∷ 0 ∷ 4 ∷ 4 ∷ 1 ∷ 0 ∷ 0 ∷ 0 ∷ [])
    ∷ row (opens (dds 4 0x44583130 4 4 0 0x0 ++ dx10 98 3 0 1 ++ zeros 16)) (0 ∷ 4 ∷ 11 ∷ 0 ∷ 4 ∷ 4 ∷ 1 ∷ 0 ∷ 0 ∷ 0 ∷ [])
    ∷ row (opens (dds 4 0x44583130 4 4 0 0x0 ++ dx10 99 3 0 1 ++ zeros 16)) (0 ∷ 4 ∷ 11 ∷ 1 ∷ 4 ∷ 4 ∷ 1 ∷ 0 ∷ 0 ∷ 0 ∷ [])
    ∷ row (opens (dds 4 0x44583130 4 4 0 0x0 ++ dx10 69 3 0 1 ++ zeros 16)) (23 ∷ [])
    ∷ row (opens (dds 4 0x44583130 4 4 0 0x0 ++ dx10 73 3 0 1 ++ zeros 16)) (0 ∷ 4 ∷ 12 ∷ 0 ∷ 4 ∷ 4 ∷ 1 ∷ 0 ∷ 0 ∷ 0 ∷ [])
    ∷ row (opens (dds 4 0x44583130 4 4 0 0x0 ++ dx10 74 3 0 1 ++ zeros 16)) (0 ∷ 4 ∷ 12 ∷ 0 ∷ 4 ∷ 4 ∷ 1 ∷ 0 ∷ 0 ∷ 0 ∷ [])
    ∷ row (opens (dds 4 0x44583130 4 4 0 0x0 ++ dx10 75 3 0 1 ++ zeros 16)) (0 ∷ 4 ∷ 12 ∷ 1 ∷ 4 ∷ 4 ∷ 1 ∷ 0 ∷ 0 ∷ 0 ∷ [])
    ∷ row (opens (dds 4 0x44583130 4 4 0 0x0 ++ dx10 79 3 0 1 ++ zeros 8)) (0 ∷ 4 ∷ 13 ∷ 0 ∷ 4 ∷ 4 ∷ 1 ∷ 0 ∷ 0 ∷ 0 ∷ [])
    ∷ row (opens (dds 4 0x44583130 4 4 0 0x0 ++ dx10 80 3 0 1 ++ zeros 8)) (0 ∷ 4 ∷ 13 ∷ 0 ∷ 4 ∷ 4 ∷ 1 ∷ 0 ∷ 0 ∷ 0 ∷ [])
    ∷ row (opens (dds 4 0x44583130 4 4 0 0x0 ++ dx10 81 3 0 1 ++ zeros 8)) (0 ∷ 4 ∷ 14 ∷ 0 ∷ 4 ∷ 4 ∷ 1 ∷ 0 ∷ 0 ∷ 0 ∷ [])
    ∷ row (opens (dds 4 0x44583130 4 4 0 0x0 ++ dx10 82 3 0 1 ++ zeros 16)) (0 ∷ 4 ∷ 15 ∷ 0 ∷ 4 ∷ 4 ∷ 1 ∷ 0 ∷ 0 ∷ 0 ∷ [])
    ∷ row (opens (dds 4 0x44583130 4 4 0 0x0 ++ dx10 83 3 0 1 ++ zeros 16)) (0 ∷ 4 ∷ 15 ∷ 0 ∷ 4 ∷ 4 ∷ 1 ∷ 0 ∷ 0 ∷ 0 ∷ [])
    ∷ row (opens (dds 4 0x44583130 4 4 0 0x0 ++ dx10 84 3 0 1 ++ zeros 16)) (0 ∷ 4 ∷ 16 ∷ 0 ∷ 4 ∷ 4 ∷ 1 ∷ 0 ∷ 0 ∷ 0 ∷ [])
    ∷ row (opens (dds 4 0x44583130 4 4 0 0x0 ++ dx10 85 3 0 1 ++ zeros 16)) (23 ∷ [])
    ∷ row (opens (dds 4 0x44583130 4 4 0 0x0 ++ dx10 96 3 0 1 ++ zeros 16)) (23 ∷ [])
    ∷ row (opens (dds 4 0x44583130 4 4 0 0x0 ++ dx10 100 3 0 1 ++ zeros 16)) (23 ∷ [])
    ∷ row (opens (dds 4 0x44583130 4 4 0 0x0 ++ dx10 65607 3 0 1 ++ zeros 16)) (23 ∷ [])
    ∷ []

hold_ddss : T (every ddss)
unfolding answer row every zeros word words pkm identifier ktx1 level ktx2 entry dds dx10 rec orientation qt_orientation keyed keyed2 ddss
    little big in_bytes big_bytes size_of walked kept payload_at format_of head_verdict known word32
    bytes_for_lem inside_of after_size_lem in_index_lem fit_in fit_of_lem level_at_lem next_spot_lem levels_from levels_of too_many_lem held_of opened_by found_by
    is_orientation_lem rows_told_lem rows_in_lem orientation_of pkm_as pkm_of ktx1_as ktx1_in ktx1_of ktx2_as ktx2_of dds_flat_lem dx10_flat_lem dds_as four_cc_format dx10_of dds_of sheet_header
    header_of opened_as found_as opened_verdict found_verdict
hold_ddss = tt

-- cubes, volumes and arrays; a dimension or an element that is not told
flat_ddss : List Row
flat_ddss =
    row (opens (dds 4 0x44585431 4 4 0 0x200 ++ zeros 8)) (25 ∷ [])
    ∷ row (opens (dds 4 0x44583130 4 4 0 0x200 ++ dx10 71 3 0 1 ++ zeros 8)) (25 ∷ [])
    ∷ row (opens (dds 4 0x44585431 4 4 0 0xfe00 ++ zeros 8)) (25 ∷ [])
    ∷ row (opens (dds 4 0x44583130 4 4 0 0xfe00 ++ dx10 71 3 0 1 ++ zeros 8)) (25 ∷ [])
    ∷ row (opens (dds 4 0x44585431 4 4 0 0x200000 ++ zeros 8)) (25 ∷ [])
    ∷ row (opens (dds 4 0x44583130 4 4 0 0x200000 ++ dx10 71 3 0 1 ++ zeros 8)) (25 ∷ [])
    ∷ row (opens (dds 4 0x44585431 4 4 0 0x200200 ++ zeros 8)) (25 ∷ [])
    ∷ row (opens (dds 4 0x44583130 4 4 0 0x200200 ++ dx10 71 3 0 1 ++ zeros 8)) (25 ∷ [])
    ∷ row (opens (dds 4 0x44585431 4 4 0 0xdffdff ++ zeros 8)) (0 ∷ 4 ∷ 9 ∷ 0 ∷ 4 ∷ 4 ∷ 1 ∷ 0 ∷ 0 ∷ 0 ∷ [])
    ∷ row (opens (dds 4 0x44583130 4 4 0 0x0 ++ dx10 71 0 3 0 ++ zeros 8)) (0 ∷ 4 ∷ 9 ∷ 0 ∷ 4 ∷ 4 ∷ 1 ∷ 0 ∷ 0 ∷ 0 ∷ [])
    ∷ row (opens (dds 4 0x44583130 4 4 0 0x0 ++ dx10 71 2 0 1 ++ zeros 8)) (25 ∷ [])
    ∷ row (opens (dds 4 0x44583130 4 4 0 0x0 ++ dx10 71 4 0 1 ++ zeros 8)) (25 ∷ [])
    ∷ row (opens (dds 4 0x44583130 4 4 0 0x0 ++ dx10 71 1 0 1 ++ zeros 8)) (25 ∷ [])
    ∷ row (opens (dds 4 0x44583130 4 4 0 0x0 ++ dx10 71 3 4 1 ++ zeros 8)) (25 ∷ [])
    ∷ row (opens (dds 4 0x44583130 4 4 0 0x0 ++ dx10 71 3 0 2 ++ zeros 8)) (25 ∷ [])
    ∷ row (opens (dds 4 0x44583130 4 4 0 0x0 ++ dx10 71 3 12 1 ++ zeros 8)) (25 ∷ [])
    ∷ row (opens (dds 4 0x44583130 4 4 0 0x0 ++ dx10 73 4 0 1)) (25 ∷ [])
    ∷ row (opens (dds 4 0x44585433 4 4 0 0x200)) (25 ∷ [])
    ∷ []

hold_flat_ddss : T (every flat_ddss)
unfolding answer row every zeros word words pkm identifier ktx1 level ktx2 entry dds dx10 rec orientation qt_orientation keyed keyed2 flat_ddss
    little big in_bytes big_bytes size_of walked kept payload_at format_of head_verdict known word32
    bytes_for_lem inside_of after_size_lem in_index_lem fit_in fit_of_lem level_at_lem next_spot_lem levels_from levels_of too_many_lem held_of opened_by found_by
    is_orientation_lem rows_told_lem rows_in_lem orientation_of pkm_as pkm_of ktx1_as ktx1_in ktx1_of ktx2_as ktx2_of dds_flat_lem dx10_flat_lem dds_as four_cc_format dx10_of dds_of sheet_header
    header_of opened_as found_as opened_verdict found_verdict
hold_flat_ddss = tt

-- sizes and levels, one behind the other
sized_ddss : List Row
sized_ddss =
    row (opens (dds 4 0x44585431 9 5 0 0x0 ++ zeros 48)) (0 ∷ 4 ∷ 9 ∷ 0 ∷ 9 ∷ 5 ∷ 1 ∷ 0 ∷ 0 ∷ 0 ∷ [])
    ∷ row (level_of (dds 4 0x44585431 9 5 0 0x0 ++ zeros 48) 0) (0 ∷ 9 ∷ 5 ∷ 128 ∷ 48 ∷ [])
    ∷ row (opens (dds 4 0x44585431 9 5 0 0x0 ++ zeros 47)) (37 ∷ [])
    ∷ row (opens (dds 4 0x44585431 9 5 4 0x0 ++ zeros 80)) (0 ∷ 4 ∷ 9 ∷ 0 ∷ 9 ∷ 5 ∷ 4 ∷ 0 ∷ 0 ∷ 8 ∷ [])
    ∷ row (level_of (dds 4 0x44585431 9 5 4 0x0 ++ zeros 81) 0) (0 ∷ 9 ∷ 5 ∷ 128 ∷ 48 ∷ [])
    ∷ row (level_of (dds 4 0x44585431 9 5 4 0x0 ++ zeros 81) 1) (0 ∷ 4 ∷ 2 ∷ 176 ∷ 8 ∷ [])
    ∷ row (level_of (dds 4 0x44585431 9 5 4 0x0 ++ zeros 81) 2) (0 ∷ 2 ∷ 1 ∷ 184 ∷ 8 ∷ [])
    ∷ row (level_of (dds 4 0x44585431 9 5 4 0x0 ++ zeros 81) 3) (0 ∷ 1 ∷ 1 ∷ 192 ∷ 8 ∷ [])
    ∷ row (level_of (dds 4 0x44585431 9 5 4 0x0 ++ zeros 81) 4) (38 ∷ [])
    ∷ row (opens (dds 4 0x44585431 9 5 4 0x0 ++ zeros 79)) (0 ∷ 4 ∷ 9 ∷ 0 ∷ 9 ∷ 5 ∷ 4 ∷ 0 ∷ 0 ∷ 7 ∷ [])
    ∷ row (opens (dds 4 0x44585431 9 5 5 0x0 ++ zeros 90)) (24 ∷ [])
    ∷ row (opens (dds 4 0x44585431 9 5 1 0x0 ++ zeros 50)) (0 ∷ 4 ∷ 9 ∷ 0 ∷ 9 ∷ 5 ∷ 1 ∷ 0 ∷ 0 ∷ 2 ∷ [])
    ∷ row (opens (dds 4 0x44585431 0 5 0 0x0 ++ zeros 8)) (26 ∷ [])
    ∷ row (opens (dds 4 0x44585431 5 0 0 0x0 ++ zeros 8)) (26 ∷ [])
    ∷ row (opens (dds 4 0x44585431 65537 5 0 0x0 ++ zeros 8)) (1 ∷ [])
    ∷ row (opens (dds 4 0x44585431 5 65537 0 0x0 ++ zeros 8)) (1 ∷ [])
    ∷ row (opens (dds 4 0x44583130 4 4 0 0x0 ++ dx10 98 3 0 1 ++ zeros 17)) (0 ∷ 4 ∷ 11 ∷ 0 ∷ 4 ∷ 4 ∷ 1 ∷ 0 ∷ 0 ∷ 1 ∷ [])
    ∷ row (level_of (dds 4 0x44583130 4 4 0 0x0 ++ dx10 98 3 0 1 ++ zeros 17) 0) (0 ∷ 4 ∷ 4 ∷ 148 ∷ 16 ∷ [])
    ∷ row (opens (dds 4 0x44585431 4 4 257 0x0 ++ zeros 8)) (24 ∷ [])
    ∷ row (opens (dds 4 0x44585431 4 65536 0 0x0 ++ zeros 8)) (37 ∷ [])
    ∷ row (opens (dds 4 0x44585431 65536 4 0 0x0 ++ zeros 8)) (37 ∷ [])
    ∷ []

hold_sized_ddss : T (every sized_ddss)
unfolding answer row every zeros word words pkm identifier ktx1 level ktx2 entry dds dx10 rec orientation qt_orientation keyed keyed2 sized_ddss
    little big in_bytes big_bytes size_of walked kept payload_at format_of head_verdict known word32
    bytes_for_lem inside_of after_size_lem in_index_lem fit_in fit_of_lem level_at_lem next_spot_lem levels_from levels_of too_many_lem held_of opened_by found_by
    is_orientation_lem rows_told_lem rows_in_lem orientation_of pkm_as pkm_of ktx1_as ktx1_in ktx1_of ktx2_as ktx2_of dds_flat_lem dx10_flat_lem dds_as four_cc_format dx10_of dds_of sheet_header
    header_of opened_as found_as opened_verdict found_verdict
hold_sized_ddss = tt

-- sheets: as their reader has them, with skipped records before the blocks and behind them; a picture without pixels is refused
sheets : List Row
sheets =
    row (opens (rec 9 1 (3 ∷ word false 4 ++ word false 3) ++ rec 1 32768 ((7 ∷ [])) ++ rec 16 2 (zeros 16) ++ rec 1 32768 ((7 ∷ [])))) (0 ∷ 5 ∷ 3 ∷ 0 ∷ 4 ∷ 3 ∷ 1 ∷ 0 ∷ 0 ∷ 7 ∷ [])
    ∷ row (level_of (rec 9 1 (3 ∷ word false 4 ++ word false 3) ++ rec 1 32768 ((7 ∷ [])) ++ rec 16 2 (zeros 16) ++ rec 1 32768 ((7 ∷ []))) 0) (0 ∷ 4 ∷ 3 ∷ 28 ∷ 16 ∷ [])
    ∷ row (level_of (rec 9 1 (3 ∷ word false 4 ++ word false 3) ++ rec 1 32768 ((7 ∷ [])) ++ rec 16 2 (zeros 16) ++ rec 1 32768 ((7 ∷ []))) 1) (38 ∷ [])
    ∷ row (opens (rec 9 1 (0 ∷ word false 4 ++ word false 3) ++ rec 8 2 (zeros 8))) (0 ∷ 5 ∷ 0 ∷ 0 ∷ 4 ∷ 3 ∷ 1 ∷ 0 ∷ 0 ∷ 0 ∷ [])
    ∷ row (level_of (rec 9 1 (0 ∷ word false 4 ++ word false 3) ++ rec 8 2 (zeros 8)) 0) (0 ∷ 4 ∷ 3 ∷ 21 ∷ 8 ∷ [])
    ∷ row (opens (rec 9 1 (1 ∷ word false 4 ++ word false 3) ++ rec 8 2 (zeros 8))) (0 ∷ 5 ∷ 1 ∷ 0 ∷ 4 ∷ 3 ∷ 1 ∷ 0 ∷ 0 ∷ 0 ∷ [])
    ∷ row (opens (rec 9 1 (2 ∷ word false 4 ++ word false 3) ++ rec 8 2 (zeros 8))) (0 ∷ 5 ∷ 2 ∷ 0 ∷ 4 ∷ 3 ∷ 1 ∷ 0 ∷ 0 ∷ 0 ∷ [])
    ∷ row (opens (rec 9 1 (3 ∷ word false 4 ++ word false 3) ++ rec 16 2 (zeros 16))) (0 ∷ 5 ∷ 3 ∷ 0 ∷ 4 ∷ 3 ∷ 1 ∷ 0 ∷ 0 ∷ 0 ∷ [])
    ∷ row (opens (rec 9 1 (4 ∷ word false 4 ++ word false 3) ++ rec 8 2 (zeros 8))) (0 ∷ 5 ∷ 4 ∷ 0 ∷ 4 ∷ 3 ∷ 1 ∷ 0 ∷ 0 ∷ 0 ∷ [])
    ∷ row (opens (rec 9 1 (5 ∷ word false 4 ++ word false 3) ++ rec 8 2 (zeros 8))) (0 ∷ 5 ∷ 5 ∷ 0 ∷ 4 ∷ 3 ∷ 1 ∷ 0 ∷ 0 ∷ 0 ∷ [])
    ∷ row (opens (rec 9 1 (6 ∷ word false 4 ++ word false 3) ++ rec 16 2 (zeros 16))) (0 ∷ 5 ∷ 6 ∷ 0 ∷ 4 ∷ 3 ∷ 1 ∷ 0 ∷ 0 ∷ 0 ∷ [])
    ∷ row (opens (rec 9 1 (7 ∷ word false 4 ++ word false 3) ++ rec 16 2 (zeros 16))) (0 ∷ 5 ∷ 7 ∷ 0 ∷ 4 ∷ 3 ∷ 1 ∷ 0 ∷ 0 ∷ 0 ∷ [])
    ∷ row (opens (rec 9 1 (8 ∷ word false 4 ++ word false 3) ++ rec 8 2 (zeros 8))) (8 ∷ [])
    ∷ row (opens (rec 9 1 (0 ∷ word false 4 ++ word false 3))) (10 ∷ [])
    ∷ row (opens (rec 9 1 (0 ∷ word false 4 ++ word false 3) ++ rec 16 2 (zeros 16))) (10 ∷ [])
    ∷ row (opens (rec 9 1 (0 ∷ word false 4 ++ word false 3) ++ rec 8 2 (zeros 8) ++ rec 8 2 (zeros 8))) (10 ∷ [])
    ∷ row (opens (rec 9 1 (0 ∷ word false 4 ++ word false 3) ++ rec 1 3 (zeros 1))) (9 ∷ [])
    ∷ row (opens (rec 9 1 (0 ∷ word false 4 ++ word false 3) ++ rec 8 2 (zeros 8) ++ rec 1 3 (zeros 1))) (9 ∷ [])
    ∷ row (opens (rec 9 1 (0 ∷ word false 16385 ++ word false 3))) (1 ∷ [])
    ∷ row (opens (rec 9 1 (0 ∷ word false 0 ++ word false 3) ++ rec 0 2 (zeros 0))) (26 ∷ [])
    ∷ row (opens (rec 9 1 (0 ∷ word false 3 ++ word false 0) ++ rec 0 2 (zeros 0))) (26 ∷ [])
    ∷ row (opens (take 5 (rec 9 1 (0 ∷ word false 4 ++ word false 3)))) (21 ∷ [])
    ∷ row (opens (take 6 (rec 9 1 (0 ∷ word false 4 ++ word false 3)))) (7 ∷ [])
    ∷ row (opens (take 14 (rec 9 1 (0 ∷ word false 4 ++ word false 3)))) (7 ∷ [])
    ∷ row (level_of (rec 9 1 (0 ∷ word false 4 ++ word false 3)) 0) (10 ∷ [])
    ∷ row (opens ((9 ∷ 0 ∷ 0 ∷ 0 ∷ 1 ∷ 1 ∷ []) ++ zeros 9)) (21 ∷ [])
    ∷ row (opens ((9 ∷ 0 ∷ 0 ∷ 0 ∷ 2 ∷ 0 ∷ []) ++ zeros 9)) (21 ∷ [])
    ∷ row (opens ((9 ∷ 0 ∷ 1 ∷ 0 ∷ 1 ∷ 0 ∷ []) ++ zeros 9)) (21 ∷ [])
    ∷ row (opens ((8 ∷ 0 ∷ 0 ∷ 0 ∷ 1 ∷ 0 ∷ []) ++ zeros 9)) (21 ∷ [])
    ∷ []

hold_sheets : T (every sheets)
unfolding answer row every zeros word words pkm identifier ktx1 level ktx2 entry dds dx10 rec orientation qt_orientation keyed keyed2 sheets
    little big in_bytes big_bytes size_of walked kept payload_at format_of head_verdict known word32
    bytes_for_lem inside_of after_size_lem in_index_lem fit_in fit_of_lem level_at_lem next_spot_lem levels_from levels_of too_many_lem held_of opened_by found_by
    is_orientation_lem rows_told_lem rows_in_lem orientation_of pkm_as pkm_of ktx1_as ktx1_in ktx1_of ktx2_as ktx2_of dds_flat_lem dx10_flat_lem dds_as four_cc_format dx10_of dds_of sheet_header
    header_of opened_as found_as opened_verdict found_verdict
hold_sheets = tt

-- the formats stand in the order of their numbers
numbers_of : List Format → List ℕ
numbers_of [] = []
numbers_of (f ∷ fs) = format_number f ∷ numbers_of fs

hold_formats : T (same (numbers_of format_list) (0 ∷ 1 ∷ 2 ∷ 3 ∷ 4 ∷ 5 ∷ 6 ∷ 7 ∷ 8 ∷ 9 ∷ 10 ∷ 11 ∷ 12 ∷ 13 ∷ 14 ∷ 15 ∷ 16 ∷ []))
unfolding numbers_of
hold_formats = tt

-- and each number is read as its format; a number that no format has is read as the first
formats_at : List ℕ → List Format
formats_at [] = []
formats_at (n ∷ ns) = format_at_lem n ∷ formats_at ns

hold_numbers :
    T (same (numbers_of (formats_at (0 ∷ 1 ∷ 2 ∷ 3 ∷ 4 ∷ 5 ∷ 6 ∷ 7 ∷ 8 ∷ 9 ∷ 10 ∷ 11 ∷ 12 ∷ 13 ∷ 14 ∷ 15 ∷ 16 ∷ 17 ∷ 255 ∷ [])))
    (0 ∷ 1 ∷ 2 ∷ 3 ∷ 4 ∷ 5 ∷ 6 ∷ 7 ∷ 8 ∷ 9 ∷ 10 ∷ 11 ∷ 12 ∷ 13 ∷ 14 ∷ 15 ∷ 16 ∷ 0 ∷ 0 ∷ []))
unfolding numbers_of formats_at format_at_lem
hold_numbers = tt

-- in a flat table of three rows: of two rows with one number the first is found, and so is the row behind them; a number that no row begins
-- with is not found, nor are two numbers left over at the end
told : Option (ℕ × ℕ) → List ℕ
told None = []
told (Some k) = k.0 ∷ k.1 ∷ []

flat : List ℕ
flat = 5 ∷ 200 ∷ 7 ∷ 5 ∷ 1 ∷ 0 ∷ 6 ∷ 2 ∷ 1 ∷ 8 ∷ 9 ∷ []

hold_flat : T (same (told (known_flat flat 5) ++ told (known_flat flat 6) ++ told (known_flat flat 7) ++ told (known_flat flat 8)) (200 ∷ 7 ∷ 2 ∷ 1 ∷ []))
unfolding told flat known_flat
hold_flat = tt
