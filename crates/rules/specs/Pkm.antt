-- PKM, the container of Ericsson's etcpack: 16 bytes, then the blocks of one picture. Its numbers have the greatest byte first.
--     0  "PKM "            4  version, "10" or "20"     6  type
--     8  padded width     10  padded height            12  width      14  height
-- Assumes nothing.
use Rattle.std.specs.Prelude.{Bool, true, false, cond, ◌&&◌, List, [], ◌∷◌, ℕ, ◌+◌, ◌*◌, ◌/◌, eqb, ltb, length}
use Rattle.std.specs.Prelude.{Result, Ok, Err, Option, Some, None}
use Rattle.numbers.specs.Numbers.{big}
use Rattle.rules.specs.FileFormats.{Row, known, has4}
use Rattle.rules.specs.declared.Format.{Format}
use Rattle.rules.specs.declared.Format.TheVariants.{Etc1, Etc2Rgb, Etc2Rgba1, Etc2Rgba8, EacR, EacRSigned, EacRg, EacRgSigned}
use Rattle.rules.specs.declared.Refusal.TheVariants.{HeaderCut, UnknownVersion, UnknownFormat}
use Rattle.rules.specs.declared.Refusal.{Refusal}
use Rattle.rules.specs.declared.Container.TheVariants.{Pkm}
use Rattle.rules.specs.declared.Orientation.TheVariants.{Untold}
use Rattle.rules.specs.declared.Layout.{Layout}

abbrev pub is_pkm : List ℕ → Bool
is_pkm d = has4 d 0 0x504B4D20

-- version 1.0 has one type
abbrev pub pkm_rows1 : List Row
pkm_rows1 = (0, Etc1, false) ∷ []

-- version 2.0: 2 is a form of RGBA that was given up; 9 to 11 are the sRGB forms
abbrev pub pkm_rows2 : List Row
pkm_rows2 =
    (0, Etc1, false)
    ∷ (1, Etc2Rgb, false)
    ∷ (3, Etc2Rgba8, false)
    ∷ (4, Etc2Rgba1, false)
    ∷ (5, EacR, false)
    ∷ (6, EacRg, false)
    ∷ (7, EacRSigned, false)
    ∷ (8, EacRgSigned, false)
    ∷ (9, Etc2Rgb, true)
    ∷ (10, Etc2Rgba8, true)
    ∷ (11, Etc2Rgba1, true)
    ∷ []

-- a side, made up to whole blocks
abbrev pub padded : ℕ → ℕ
padded n = (n + 3) / 4 * 4

-- the rest of the header, with what its type stands for
unfoldable pub pkm_as : Option (Format × Bool) → List ℕ → Result Layout Refusal
pkm_as None d = Err UnknownFormat
pkm_as (Some k) d =
    Ok
    (record {
      container = Pkm;
      format = k.0;
      srgb = k.1;
      width = big 2 12 d;
      height = big 2 14 d;
      levels = 1;
      big_endian = true;
      orientation = Untold;
      start = 16;
      agrees = eqb (big 2 8 d) (padded (big 2 12 d)) && eqb (big 2 10 d) (padded (big 2 14 d));
    })

unfoldable pub pkm_of : List ℕ → Result Layout Refusal
pkm_of d =
    cond (ltb (length d) 16) (Err HeaderCut)
    (cond (eqb (big 2 4 d) 0x3130) (pkm_as (known pkm_rows1 (big 2 6 d)) d)
    (cond (eqb (big 2 4 d) 0x3230) (pkm_as (known pkm_rows2 (big 2 6 d)) d)
    (Err UnknownVersion)))
