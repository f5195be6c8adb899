-- What the containers share: the formats by number, tables of formats, and numbers in a file's own byte order.
-- Assumes nothing.
use Rattle.std.specs.Prelude.{Bool, true, false, cond, not, ◌&&◌, List, [], ◌∷◌, ℕ, ◌+◌, eqb, ltb, length, get_or, Option, Some, None}
use Rattle.numbers.specs.Numbers.{little, big}
use Rattle.rules.specs.declared.Container.{Container}
use Rattle.rules.specs.declared.Container.TheVariants.{Pkm, Ktx1, Ktx2, Dds, Sheet}
use Rattle.rules.specs.declared.Orientation.{Orientation}
use Rattle.rules.specs.declared.Orientation.TheVariants.{Untold, TopDown, BottomUp}
use Rattle.rules.specs.declared.Format.{Format}
use Rattle.rules.specs.declared.Format.TheVariants.{Etc1, Etc2Rgb, Etc2Rgba1, Etc2Rgba8, EacR, EacRSigned, EacRg, EacRgSigned}
use Rattle.rules.specs.declared.Format.TheVariants.{Bc1, Bc1Alpha, Bc3, Bc7, Bc2, Bc4, Bc4Signed, Bc5, Bc5Signed}

-- the formats in the order of their numbers: 0 to 7 are those of a sheet
abbrev pub format_list : List Format
format_list =
    Etc1
    ∷ Etc2Rgb
    ∷ Etc2Rgba1
    ∷ Etc2Rgba8
    ∷ EacR
    ∷ EacRSigned
    ∷ EacRg
    ∷ EacRgSigned
    ∷ Bc1
    ∷ Bc1Alpha
    ∷ Bc3
    ∷ Bc7
    ∷ Bc2
    ∷ Bc4
    ∷ Bc4Signed
    ∷ Bc5
    ∷ Bc5Signed
    ∷ []

unfoldable pub format_at_lem : ℕ → Format
format_at_lem n = get_or format_list n Etc1

-- and the number of each
abbrev pub format_number : Format → ℕ
format_number Etc1 = 0
format_number Etc2Rgb = 1
format_number Etc2Rgba1 = 2
format_number Etc2Rgba8 = 3
format_number EacR = 4
format_number EacRSigned = 5
format_number EacRg = 6
format_number EacRgSigned = 7
format_number Bc1 = 8
format_number Bc1Alpha = 9
format_number Bc3 = 10
format_number Bc7 = 11
format_number Bc2 = 12
format_number Bc4 = 13
format_number Bc4Signed = 14
format_number Bc5 = 15
format_number Bc5Signed = 16

-- the number of a container, and of which row comes first; and of what is so or not
abbrev pub container_number : Container → ℕ
container_number Pkm = 1
container_number Ktx1 = 2
container_number Ktx2 = 3
container_number Dds = 4
container_number Sheet = 5

abbrev pub orientation_number : Orientation → ℕ
orientation_number Untold = 0
orientation_number TopDown = 1
orientation_number BottomUp = 2

abbrev pub flag : Bool → ℕ
flag b = cond b 1 0

-- a row of a container's table of formats: the container's number, the format, and whether its colours are sRGB
abbrev pub Row : Type 0
Row = ℕ × Format × Bool

-- what a number stands for, by the first row that has it: the format, and whether its colours are sRGB
unfoldable pub known : List Row → ℕ → Option (Format × Bool)
known [] x = None
known (r ∷ rows) x = cond (eqb x r.0) (Some (r.1, r.2)) (known rows x)

-- the same in a flat list, three numbers to a row: the container's number, the format's number, and 1 where the colours are sRGB. One or
-- two numbers left over at the end are no row.
unfoldable pub known_flat : List ℕ → ℕ → Option (ℕ × ℕ)
known_flat [] x = None
known_flat (n ∷ []) x = None
known_flat (n ∷ f ∷ []) x = None
known_flat (n ∷ f ∷ srgb ∷ rows) x = cond (eqb x n) (Some (f, srgb)) (known_flat rows x)

-- the four bytes at a place, in a file's own order: the greatest first, or the least
unfoldable pub word32 : Bool → List ℕ → ℕ → ℕ
word32 true d at = big 4 at d
word32 false d at = little 4 at d

-- whether the four bytes at a place are there, and are these
abbrev pub has4 : List ℕ → ℕ → ℕ → Bool
has4 d at n = not (ltb (length d) (at + 4)) && eqb (big 4 at d) n

-- a number of levels: 0 tells of one
abbrev pub one_at_least_lem : ℕ → ℕ
one_at_least_lem n = cond (eqb n 0) 1 n

-- a plain picture: neither a depth, nor layers, nor faces above 1. Real files have 0 or 1 in each (bgfx writes depth 1, one array
-- element and no face).
abbrev pub is_flat_lem : ℕ → ℕ → ℕ → Bool
is_flat_lem depth layers faces = not (ltb 1 depth) && (not (ltb 1 layers) && not (ltb 1 faces))
