-- KTX 2, from Khronos' "KTX File Format Specification", version 2: 80 bytes, an index of the levels, and their blocks anywhere in the
-- file. Numbers have the least byte first, four bytes each, eight in the index.
--     0  identifier       12  vkFormat                  16  typeSize            20  pixelWidth         24  pixelHeight
--    28  pixelDepth       32  layerCount                36  faceCount           40  levelCount         44  supercompressionScheme
--    48  dfdByteOffset    52  dfdByteLength             56  kvdByteOffset       60  kvdByteLength
--    64  sgdByteOffset    72  sgdByteLength             80  the index: for each level byteOffset, byteLength, uncompressedByteLength
-- Assumes nothing.
use Rattle.std.specs.Prelude.{Bool, true, false, cond, ◌&&◌, List, [], ◌∷◌, ℕ, eqb, ltb, length, Result, Ok, Err, Option, Some, None}
use Rattle.numbers.specs.Numbers.{little}
use Rattle.rules.specs.FileFormats.{Row, known, has4, one_at_least_lem, is_flat_lem}
use Rattle.rules.specs.Keys.{orientation_of}
use Rattle.rules.specs.declared.Format.{Format}
use Rattle.rules.specs.declared.Format.TheVariants.{Etc2Rgb, Etc2Rgba1, Etc2Rgba8, EacR, EacRSigned, EacRg, EacRgSigned}
use Rattle.rules.specs.declared.Format.TheVariants.{Bc1, Bc1Alpha, Bc3, Bc7, Bc2, Bc4, Bc4Signed, Bc5, Bc5Signed}
use Rattle.rules.specs.declared.Refusal.TheVariants.{HeaderCut, UnknownFormat, NotFlat, Supercompressed}
use Rattle.rules.specs.declared.Refusal.{Refusal}
use Rattle.rules.specs.declared.Container.TheVariants.{Ktx2}
use Rattle.rules.specs.declared.Layout.{Layout}

-- the twelve bytes AB 4B 54 58 20 32 30 BB 0D 0A 1A 0A, in hex
abbrev pub is_ktx2_lem : List ℕ → Bool
is_ktx2_lem d = has4 d 0 0xAB4B5458 && (has4 d 4 0x203230BB && has4 d 8 0x0D0A1A0A)

-- Vulkan's numbers of the formats, VK_FORMAT_BC1_RGB_UNORM_BLOCK and on
abbrev pub vk_rows : List Row
vk_rows =
    (131, Bc1, false)
    ∷ (132, Bc1, true)
    ∷ (133, Bc1Alpha, false)
    ∷ (134, Bc1Alpha, true)
    ∷ (135, Bc2, false)
    ∷ (136, Bc2, true)
    ∷ (137, Bc3, false)
    ∷ (138, Bc3, true)
    ∷ (139, Bc4, false)
    ∷ (140, Bc4Signed, false)
    ∷ (141, Bc5, false)
    ∷ (142, Bc5Signed, false)
    ∷ (145, Bc7, false)
    ∷ (146, Bc7, true)
    ∷ (147, Etc2Rgb, false)
    ∷ (148, Etc2Rgb, true)
    ∷ (149, Etc2Rgba1, false)
    ∷ (150, Etc2Rgba1, true)
    ∷ (151, Etc2Rgba8, false)
    ∷ (152, Etc2Rgba8, true)
    ∷ (153, EacR, false)
    ∷ (154, EacRSigned, false)
    ∷ (155, EacRg, false)
    ∷ (156, EacRgSigned, false)
    ∷ []

-- the rest of the header, with what vkFormat stands for
unfoldable pub ktx2_as : Option (Format × Bool) → List ℕ → Result Layout Refusal
ktx2_as None d = Err UnknownFormat
ktx2_as (Some k) d =
    Ok
    (record {
      container = Ktx2;
      format = k.0;
      srgb = k.1;
      width = little 4 20 d;
      height = little 4 24 d;
      levels = one_at_least_lem (little 4 40 d);
      big_endian = false;
      orientation = orientation_of true false d (little 4 56 d) (little 4 60 d);
      start = 80;
      agrees = true;
    })

-- supercompressionScheme 0 is "None". It is looked at before vkFormat, which is 0 in files of BasisLZ.
unfoldable pub ktx2_of : List ℕ → Result Layout Refusal
ktx2_of d =
    cond (ltb (length d) 80) (Err HeaderCut)
    (cond (is_flat_lem (little 4 28 d) (little 4 32 d) (little 4 36 d))
    (cond (eqb (little 4 44 d) 0) (ktx2_as (known vk_rows (little 4 12 d)) d) (Err Supercompressed))
    (Err NotFlat))
