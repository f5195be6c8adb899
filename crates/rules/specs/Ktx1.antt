-- KTX 1, from Khronos' "KTX File Format Specification", version 1: 64 bytes, key and value data, then each level as its size and its
-- blocks. Words have four bytes, in the file's own order.
--     0  identifier       12  endianness                16  glType              20  glTypeSize         24  glFormat
--    28  glInternalFormat 32  glBaseInternalFormat      36  pixelWidth          40  pixelHeight        44  pixelDepth
--    48  numberOfArrayElements                          52  numberOfFaces       56  numberOfMipmapLevels
--    60  bytesOfKeyValueData
-- glType, glTypeSize, glFormat and glBaseInternalFormat decide no pixel of a compressed picture, and real files get them wrong.
-- Assumes nothing.
use Rattle.std.specs.Prelude.{Bool, true, false, cond, ◌&&◌, List, [], ◌∷◌, ℕ, ◌+◌, eqb, ltb, length, Result, Ok, Err, Option, Some, None}
use Rattle.numbers.specs.Numbers.{big}
use Rattle.rules.specs.FileFormats.{Row, known, word32, has4, one_at_least_lem, is_flat_lem}
use Rattle.rules.specs.Keys.{orientation_of}
use Rattle.rules.specs.declared.Format.{Format}
use Rattle.rules.specs.declared.Format.TheVariants.{Etc1, Etc2Rgb, Etc2Rgba1, Etc2Rgba8, EacR, EacRSigned, EacRg, EacRgSigned}
use Rattle.rules.specs.declared.Format.TheVariants.{Bc1, Bc1Alpha, Bc3, Bc7, Bc2, Bc4, Bc4Signed, Bc5, Bc5Signed}
use Rattle.rules.specs.declared.Refusal.TheVariants.{HeaderCut, UnknownVersion, UnknownFormat, NotFlat}
use Rattle.rules.specs.declared.Refusal.{Refusal}
use Rattle.rules.specs.declared.Container.TheVariants.{Ktx1}
use Rattle.rules.specs.declared.Layout.{Layout}

-- the twelve bytes AB 4B 54 58 20 31 31 BB 0D 0A 1A 0A, in hex
abbrev pub is_ktx1_lem : List ℕ → Bool
is_ktx1_lem d = has4 d 0 0xAB4B5458 && (has4 d 4 0x203131BB && has4 d 8 0x0D0A1A0A)

-- OpenGL's numbers of the formats; those behind the EXT_texture_sRGB and BPTC extensions have sRGB forms of their own
abbrev pub gl_rows : List Row
gl_rows =
    (0x8D64, Etc1, false)
    ∷ (0x9270, EacR, false)
    ∷ (0x9271, EacRSigned, false)
    ∷ (0x9272, EacRg, false)
    ∷ (0x9273, EacRgSigned, false)
    ∷ (0x9274, Etc2Rgb, false)
    ∷ (0x9275, Etc2Rgb, true)
    ∷ (0x9276, Etc2Rgba1, false)
    ∷ (0x9277, Etc2Rgba1, true)
    ∷ (0x9278, Etc2Rgba8, false)
    ∷ (0x9279, Etc2Rgba8, true)
    ∷ (0x83F0, Bc1, false)
    ∷ (0x83F1, Bc1Alpha, false)
    ∷ (0x83F3, Bc3, false)
    ∷ (0x8C4C, Bc1, true)
    ∷ (0x8C4D, Bc1Alpha, true)
    ∷ (0x8C4F, Bc3, true)
    ∷ (0x8E8C, Bc7, false)
    ∷ (0x8E8D, Bc7, true)
    ∷ (0x83F2, Bc2, false)
    ∷ (0x8C4E, Bc2, true)
    ∷ (0x8DBB, Bc4, false)
    ∷ (0x8DBC, Bc4Signed, false)
    ∷ (0x8DBD, Bc5, false)
    ∷ (0x8DBE, Bc5Signed, false)
    ∷ []

-- the rest of the header, with what glInternalFormat stands for
unfoldable pub ktx1_as : Option (Format × Bool) → Bool → List ℕ → Result Layout Refusal
ktx1_as None order d = Err UnknownFormat
ktx1_as (Some k) order d =
    Ok
    (record {
      container = Ktx1;
      format = k.0;
      srgb = k.1;
      width = word32 order d 36;
      height = word32 order d 40;
      levels = one_at_least_lem (word32 order d 56);
      big_endian = order;
      orientation = orientation_of false order d 64 (word32 order d 60);
      start = 64 + word32 order d 60;
      agrees = true;
    })

-- the header in a byte order
unfoldable pub ktx1_in : Bool → List ℕ → Result Layout Refusal
ktx1_in order d =
    cond (is_flat_lem (word32 order d 44) (word32 order d 48) (word32 order d 52)) (ktx1_as (known gl_rows (word32 order d 28)) order d)
    (Err NotFlat)

-- endianness is 04030201 in hex, as the file's own order has it
unfoldable pub ktx1_of : List ℕ → Result Layout Refusal
ktx1_of d =
    cond (ltb (length d) 64) (Err HeaderCut)
    (cond (eqb (big 4 12 d) 0x04030201) (ktx1_in true d)
    (cond (eqb (big 4 12 d) 0x01020304) (ktx1_in false d)
    (Err UnknownVersion)))
