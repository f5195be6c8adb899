-- DDS, from Microsoft's pages on DDS_HEADER, DDS_PIXELFORMAT and DDS_HEADER_DXT10: 128 bytes, 20 more of them with the FourCC DX10, then
-- the levels one behind the other. Numbers have four bytes, the least first.
--     0  "DDS "            4  size       8  flags       12  height              16  width              20  pitch or linear size
--    24  depth            28  mipMapCount              76  pixel format: size  80  its flags          84  FourCC
--   108  caps            112  caps2                   128  dxgiFormat         132  resourceDimension
--   136  miscFlag        140  arraySize               144  miscFlags2
-- Sizes, flags, caps, depth and the linear size decide no pixel, and real files get them wrong.
-- Assumes nothing.
use Rattle.std.specs.Prelude.{Bool, true, false, cond, not, ◌&&◌, ◌||◌, List, [], ◌∷◌, ℕ, eqb, ltb, length}
use Rattle.std.specs.Prelude.{Result, Ok, Err, Option, Some, None}
use Rattle.numbers.specs.Numbers.{little, big}
use Rattle.rules.specs.Notation.{bit}
use Rattle.rules.specs.FileFormats.{Row, known, has4, one_at_least_lem}
use Rattle.rules.specs.declared.Format.{Format}
use Rattle.rules.specs.declared.Format.TheVariants.{Bc1Alpha, Bc3, Bc7, Bc2, Bc4, Bc4Signed, Bc5, Bc5Signed}
use Rattle.rules.specs.declared.Refusal.TheVariants.{HeaderCut, UnknownFormat, NotFlat}
use Rattle.rules.specs.declared.Refusal.{Refusal}
use Rattle.rules.specs.declared.Container.TheVariants.{Dds}
use Rattle.rules.specs.declared.Orientation.TheVariants.{Untold}
use Rattle.rules.specs.declared.Layout.{Layout}

abbrev pub is_dds : List ℕ → Bool
is_dds d = has4 d 0 0x44445320

-- four letters as a number: "DXT1", which has a bit of alpha, "DXT2" to "DXT5", "ATI1", "BC4U", "BC4S", "ATI2", "BC5U" and "BC5S"
abbrev pub four_cc_rows : List Row
four_cc_rows =
    (0x44585431, Bc1Alpha, false)
    ∷ (0x44585432, Bc2, false)
    ∷ (0x44585433, Bc2, false)
    ∷ (0x44585434, Bc3, false)
    ∷ (0x44585435, Bc3, false)
    ∷ (0x41544931, Bc4, false)
    ∷ (0x42433455, Bc4, false)
    ∷ (0x42433453, Bc4Signed, false)
    ∷ (0x41544932, Bc5, false)
    ∷ (0x42433555, Bc5, false)
    ∷ (0x42433553, Bc5Signed, false)
    ∷ []

-- DXGI's numbers: a TYPELESS, a UNORM and a UNORM_SRGB of each, and of BC4 and BC5 a TYPELESS, a UNORM and a SNORM
abbrev pub dxgi_rows : List Row
dxgi_rows =
    (70, Bc1Alpha, false)
    ∷ (71, Bc1Alpha, false)
    ∷ (72, Bc1Alpha, true)
    ∷ (73, Bc2, false)
    ∷ (74, Bc2, false)
    ∷ (75, Bc2, true)
    ∷ (76, Bc3, false)
    ∷ (77, Bc3, false)
    ∷ (78, Bc3, true)
    ∷ (79, Bc4, false)
    ∷ (80, Bc4, false)
    ∷ (81, Bc4Signed, false)
    ∷ (82, Bc5, false)
    ∷ (83, Bc5, false)
    ∷ (84, Bc5Signed, false)
    ∷ (97, Bc7, false)
    ∷ (98, Bc7, false)
    ∷ (99, Bc7, true)
    ∷ []

-- bit 2 of the pixel format's flags, DDPF_FOURCC, says that the FourCC means something; "DX10" says that 20 more bytes follow
abbrev pub has_four_cc : List ℕ → Bool
has_four_cc d = eqb (bit 2 (little 4 80 d)) 1

abbrev pub is_dx10_lem : List ℕ → Bool
is_dx10_lem d = has_four_cc d && eqb (big 4 84 d) 0x44583130

-- neither bit 9 of caps2, a cube, nor bit 21, a volume
unfoldable pub dds_flat_lem : List ℕ → Bool
dds_flat_lem d = not (eqb (bit 9 (little 4 112 d)) 1) && not (eqb (bit 21 (little 4 112 d)) 1)

-- resourceDimension is 3, TEXTURE2D, or 0 as some files have it; bit 2 of miscFlag, a cube, is clear; at most one element
unfoldable pub dx10_flat_lem : List ℕ → Bool
dx10_flat_lem d =
    (eqb (little 4 132 d) 3 || eqb (little 4 132 d) 0) && (not (eqb (bit 2 (little 4 136 d)) 1) && not (ltb 1 (little 4 140 d)))

-- the rest of the header, with what its format stands for, and where the levels start
unfoldable pub dds_as : Option (Format × Bool) → ℕ → List ℕ → Result Layout Refusal
dds_as None start d = Err UnknownFormat
dds_as (Some k) start d =
    Ok
    (record {
      container = Dds;
      format = k.0;
      srgb = k.1;
      width = little 4 16 d;
      height = little 4 12 d;
      levels = one_at_least_lem (little 4 28 d);
      big_endian = false;
      orientation = Untold;
      start = start;
      agrees = true;
    })

unfoldable pub four_cc_format : List ℕ → Option (Format × Bool)
four_cc_format d = cond (has_four_cc d) (known four_cc_rows (big 4 84 d)) None

unfoldable pub dx10_of : List ℕ → Result Layout Refusal
dx10_of d =
    cond (ltb (length d) 148) (Err HeaderCut)
    (cond (dds_flat_lem d && dx10_flat_lem d) (dds_as (known dxgi_rows (little 4 128 d)) 148 d)
    (Err NotFlat))

unfoldable pub dds_of : List ℕ → Result Layout Refusal
dds_of d =
    cond (ltb (length d) 128) (Err HeaderCut)
    (cond (is_dx10_lem d) (dx10_of d)
    (cond (dds_flat_lem d) (dds_as (four_cc_format d) 128 d)
    (Err NotFlat)))
