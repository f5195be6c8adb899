-- The levels of a file: each is half as wide and half as high as the one before it, and its blocks must lie in the file as it tells.
-- Assumes nothing.
use Rattle.std.specs.Prelude.{Bool, true, false, cond, not, ◌||◌, List, ℕ, zero, suc, ◌+◌, ◌-◌, ◌*◌, ◌/◌, eqb, ltb, length, Result, Ok, Err}
use Rattle.numbers.specs.Numbers.{little}
use Rattle.rules.specs.Places.{sized, blocks}
use Rattle.rules.specs.Answers.{limit, too_large_lem}
use Rattle.rules.specs.Formats.{size_of}
use Rattle.rules.specs.FileFormats.{word32}
use Rattle.rules.specs.declared.Format.{Format}
use Rattle.rules.specs.declared.Container.{Container}
use Rattle.rules.specs.declared.Container.TheVariants.{Pkm, Ktx1, Ktx2, Dds, Sheet}
use Rattle.rules.specs.declared.Refusal.TheVariants.{TooLarge, SizesDisagree, NoPixel, LevelsMissing, NoLevel}
use Rattle.rules.specs.declared.Layout.{Layout}
use Rattle.rules.specs.declared.Spot.{Spot}
use Rattle.rules.specs.declared.FileLevel.{FileLevel}
use Rattle.rules.specs.declared.Refusal.{Refusal}
use Rattle.rules.specs.declared.FileFacts.{FileFacts}

-- the bytes of the blocks of a picture in a format
unfoldable pub bytes_for_lem : Format → ℕ → ℕ → ℕ
bytes_for_lem f w h = blocks (sized w h) * size_of f

-- a side of the next level: half, rounded down, and 1 at the least
abbrev pub halved : ℕ → ℕ
halved side = cond (ltb side 2) 1 (side / 2)

abbrev pub missing : Result ℕ Refusal
missing = Err LevelsMissing

abbrev pub contradicts : Result ℕ Refusal
contradicts = Err SizesDisagree

-- so many bytes from a start on lie in the file
unfoldable pub inside_of : List ℕ → ℕ → ℕ → Result ℕ Refusal
inside_of d start need = cond (ltb (length d) start) missing (cond (ltb (length d - start) need) missing (Ok start))

-- KTX 1 has the bytes of each level before it, in four bytes (imageSize). Blocks are whole fours of bytes, so nothing pads a level.
unfoldable pub after_size_lem : Bool → List ℕ → ℕ → ℕ → Result ℕ Refusal
after_size_lem order d at need =
    cond (ltb (length d) (at + 4)) missing
    (cond (not (eqb (word32 order d at) need)) contradicts
    (inside_of d (at + 4) need))

-- KTX 2 has an index behind its 80 bytes: for each level byteOffset, byteLength and uncompressedByteLength, eight bytes each
unfoldable pub in_index_lem : List ℕ → ℕ → ℕ → Result ℕ Refusal
in_index_lem d n need =
    cond (ltb (length d) (104 + 24 * n)) missing
    (cond (not (eqb (little 8 (88 + 24 * n) d) need)) contradicts
    (inside_of d (little 8 (80 + 24 * n) d) need))

-- level n, of so many bytes, by its container: in all but KTX 1 and KTX 2 levels follow one another
unfoldable pub fit_in : Container → Bool → List ℕ → ℕ → ℕ → ℕ → Result ℕ Refusal
fit_in Ktx1 order d n at need = after_size_lem order d at need
fit_in Ktx2 order d n at need = in_index_lem d n need
fit_in Pkm order d n at need = inside_of d at need
fit_in Dds order d n at need = inside_of d at need
fit_in Sheet order d n at need = inside_of d at need

unfoldable pub fit_of_lem : Layout → List ℕ → ℕ → Spot → Result ℕ Refusal
fit_of_lem l d n s = fit_in l.container l.big_endian d n s.at (bytes_for_lem l.format s.width s.height)

-- the level whose blocks start at a byte
unfoldable pub level_at_lem : Layout → Spot → ℕ → FileLevel
level_at_lem l s start =
    record { width = s.width; height = s.height; start = start; length = bytes_for_lem l.format s.width s.height }

-- and the next one, which begins where its blocks end
unfoldable pub next_spot_lem : Layout → Spot → ℕ → Spot
next_spot_lem l s start =
    record { width = halved s.width; height = halved s.height; at = start + bytes_for_lem l.format s.width s.height }

-- the lesser of two numbers
abbrev pub lesser : ℕ → ℕ → ℕ
lesser a b = cond (ltb a b) a b

-- the level that is asked for, where it is this one
abbrev pub chosen : ℕ → ℕ → FileLevel → FileLevel → FileLevel
chosen n k level other = cond (eqb n k) level other

-- what comes behind a level that fits; another decides
abbrev pub fits_then : Result ℕ Refusal → (ℕ → Result (ℕ × FileLevel) Refusal) → Result (ℕ × FileLevel) Refusal
fits_then (Ok start) then = then start
fits_then (Err a) then = Err a

-- so many levels, of which the first is level k: they all fit, with the bytes that are left over behind the furthest of them, and with
-- level n, where it is among them
unfoldable pub levels_from : Layout → List ℕ → ℕ → ℕ → FileLevel → ℕ → ℕ → Spot → Result (ℕ × FileLevel) Refusal
levels_from l d n left level k zero s = Ok (left, level)
levels_from l d n left level k (suc more) s =
    fits_then (fit_of_lem l d k s)
    (λ start.
    levels_from l d n
    (lesser left (length d - (start + bytes_for_lem l.format s.width s.height)))
    (chosen n k (level_at_lem l s start) level)
    (k + 1)
    more
    (next_spot_lem l s start))

-- where level 0 begins
abbrev pub first_spot : Layout → Spot
first_spot l = record { width = l.width; height = l.height; at = l.start }

abbrev pub no_level : FileLevel
no_level = record { width = 0; height = 0; start = 0; length = 0 }

unfoldable pub levels_of : Layout → List ℕ → ℕ → Result (ℕ × FileLevel) Refusal
levels_of l d n = levels_from l d n (length d) no_level 0 l.levels (first_spot l)

-- no level follows one of a single pixel: whether so many cannot follow one whose larger side is this
unfoldable pub too_many_lem : ℕ → ℕ → Bool
too_many_lem side zero = false
too_many_lem side (suc more) = cond (ltb side 2) true (too_many_lem (side / 2) more)

abbrev pub larger : ℕ → ℕ → ℕ
larger a b = cond (ltb a b) b a

-- What a header tells, held to the file: the picture has pixels, is not too large, its sizes agree, it has no more levels than such a
-- picture can have, and they are all there; and level n, where there is one.
unfoldable pub held_of : Layout → List ℕ → ℕ → Result (ℕ × FileLevel) Refusal
held_of l d n =
    cond (eqb l.width 0 || eqb l.height 0) (Err NoPixel)
    (cond (too_large_lem limit (sized l.width l.height)) (Err TooLarge)
    (cond (not l.agrees) (Err SizesDisagree)
    (cond (too_many_lem (larger l.width l.height) (l.levels - 1)) (Err SizesDisagree)
    (levels_of l d n))))

-- so a file is opened, with what its header tells and the bytes that are left over
unfoldable pub opened_by : Layout → Result (ℕ × FileLevel) Refusal → Result FileFacts Refusal
opened_by l (Ok h) =
    Ok
    (record {
      container = l.container;
      format = l.format;
      srgb = l.srgb;
      width = l.width;
      height = l.height;
      levels = l.levels;
      big_endian = l.big_endian;
      orientation = l.orientation;
      left_over = h.0;
    })
opened_by l (Err a) = Err a

-- and level n is found where the file is opened and has so many
unfoldable pub found_by : Layout → ℕ → Result (ℕ × FileLevel) Refusal → Result FileLevel Refusal
found_by l n (Ok h) = cond (ltb n l.levels) (Ok h.1) (Err NoLevel)
found_by l n (Err a) = Err a
