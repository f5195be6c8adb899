-- What a specimen is: a reader, what is lent to it, what it must say, and the image that it must leave. It cites no rule.
-- Assumes nothing.
use mathlib.Core.Bool.{Bool, true, false, ◌&&◌}
use mathlib.Core.List.{List, [], ◌∷◌, ◌++◌}
use Prim.Native.Nat.{ℕ, zero, suc, ◌+◌, ◌/◌, ◌%◌}
use lib.Dec.{eqb}
use lib.ListN.{length, replicate}
use Rattle.rules.specs.declared.Format.{Format}
use Rattle.rules.specs.declared.Kind.{Kind}
use Rattle.rules.specs.declared.Kind.TheVariants.{Individual, Differential, T, H, Planar}

-- a picture of a format, a strict one, an opaque one, all three with a pitch, a block of a format, the alpha half alone, a channel alone,
-- and a BC3 alpha half into a channel
pub data Reader : Type 0 where
  picture : Format → Reader
  strict : Reader
  opaque : Reader
  padded : Format → ℕ → Reader
  padded_strict : ℕ → Reader
  padded_opaque : ℕ → Reader
  block : Format → Reader
  alpha_half : Reader
  channel : Bool → ℕ → Reader
  alpha_into : ℕ → Reader

-- A row names the reader, the width and the height (4 and 4 of a block), and the blocks, each eight bytes as one number.
-- shows: accepted, these pixels are painted over elements of 11111111 (hex), and so many more stay as they are
-- packed: the same, with so many pixels as one number
-- joins: accepted, with so many elements as one number, the image before and the image after
-- refuses: so many elements of 11111111, what is said, and all stay as they are
-- answers: the same, where all bytes are 00 and the row has their number
pub data Row : Type 0 where
  shows : Reader → ℕ → ℕ → List ℕ → List ℕ → ℕ → Row
  packed : Reader → ℕ → ℕ → List ℕ → ℕ → List ℕ → ℕ → Row
  joins : Reader → ℕ → ℕ → List ℕ → ℕ → List ℕ → List ℕ → Row
  refuses : Reader → ℕ → ℕ → List ℕ → ℕ → List ℕ → Row
  answers : Reader → ℕ → ℕ → ℕ → ℕ → List ℕ → Row

abbrev pub untouched : ℕ → List ℕ
untouched n = replicate n 0x11111111

-- a number of so many digits in base b, as the list of them; and such numbers one after the other
abbrev pub digits : ℕ → ℕ → ℕ → List ℕ → List ℕ
digits b zero n after = after
digits b (suc k) n after = digits b k (n / b) (n % b ∷ after)

abbrev pub apart : ℕ → ℕ → List ℕ → List ℕ
apart b k [] = []
apart b k (n ∷ ns) = digits b k n (apart b k ns)

abbrev pub bytes : List ℕ → List ℕ
bytes blocks = apart 256 8 blocks

abbrev pub elements : ℕ → List ℕ → List ℕ
elements across lines = apart 0x100000000 across lines

-- what a row says of a reader's work: the reader and what it is lent, what it says, and what it leaves
pub record Case : Type 0 where
  pub reader : Reader
  pub width : ℕ
  pub height : ℕ
  pub lent : List ℕ
  pub image : List ℕ
  pub says : List ℕ
  pub leaves : List ℕ

abbrev pub accepted : Reader → ℕ → ℕ → List ℕ → List ℕ → ℕ → Case
accepted r w h d pixels spare =
    record { reader = r; width = w; height = h; lent = d; image = untouched (length pixels + spare); says = 0 ∷ []; leaves = pixels ++ untouched spare }

abbrev pub case_of : Row → Case
case_of (shows r w h blocks pixels spare) = accepted r w h (bytes blocks) pixels spare
case_of (packed r w h blocks across lines spare) = accepted r w h (bytes blocks) (elements across lines) spare
case_of (joins r w h blocks across old new) =
    record { reader = r; width = w; height = h; lent = bytes blocks; image = elements across old; says = 0 ∷ []; leaves = elements across new }
case_of (refuses r w h blocks n verdict) =
    record { reader = r; width = w; height = h; lent = bytes blocks; image = untouched n; says = verdict; leaves = untouched n }
case_of (answers r w h count n verdict) =
    record { reader = r; width = w; height = h; lent = replicate count 0; image = untouched n; says = verdict; leaves = untouched n }

abbrev pub same : List ℕ → List ℕ → Bool
same [] [] = true
same [] (y ∷ ys) = false
same (x ∷ xs) [] = false
same (x ∷ xs) (y ∷ ys) = eqb x y && same xs ys

-- kinds, as numbers in the order of their enum
abbrev pub kind_number : Kind → ℕ
kind_number Individual = 0
kind_number Differential = 1
kind_number T = 2
kind_number H = 3
kind_number Planar = 4
