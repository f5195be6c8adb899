-- M-100, the census: one test for each kind of block, and how many blocks of a picture meet it.
-- Assumes nothing.
use Rattle.std.specs.Prelude.{Bool, cond, not, ◌&&◌, List, [], ◌∷◌, ◌++◌, ◌≡◌, ℕ, zero, suc, ◌+◌, length, Result}
use Rattle.rules.specs.Notation.{byte}
use Rattle.rules.specs.Places.{blocks, bytes_of}
use Rattle.rules.specs.Answers.{Check, judged, data_checks, said_with}
use Rattle.rules.specs.Colour.{differs, sum, beyond}
use Rattle.rules.specs.declared.Picture.{Picture}
use Rattle.rules.specs.declared.RgbCounts.{RgbCounts}
use Rattle.rules.specs.declared.KindCounts.{KindCounts}
use Rattle.rules.specs.declared.Rgba1Counts.{Rgba1Counts}
use Rattle.rules.specs.declared.Refusal.{Refusal}

-- "how many": of the places 0 .. n - 1, those at which a test holds; the twin of `first_of`
abbrev pub more : Bool → ℕ → ℕ
more holds n = cond holds (n + 1) n

unfoldable pub count_of : (ℕ → Bool) → ℕ → ℕ
count_of test zero = 0
count_of test (suc n) = more (test n) (count_of test n)

-- a test of a block's bytes
abbrev pub Test : Type 0
Test = List ℕ → Bool

-- "a red, green or blue five-bit base plus signed step outside 0 to 31"
abbrev pub red_out : Test
red_out d = beyond (sum (byte d 0))

abbrev pub green_out : Test
green_out d = beyond (sum (byte d 1))

abbrev pub blue_out : Test
blue_out d = beyond (sum (byte d 2))

-- "If all three sums B + s lie in 0..31: differential";
abbrev pub differential_by_sums : Test
differential_by_sums d = not (red_out d) && (not (green_out d) && not (blue_out d))

-- "red gives T;
abbrev pub t_by_sums : Test
t_by_sums d = red_out d

-- else green gives H;
abbrev pub h_by_sums : Test
h_by_sums d = not (red_out d) && green_out d

-- else blue gives planar."
abbrev pub planar_by_sums : Test
planar_by_sums d = not (red_out d) && (not (green_out d) && blue_out d)

-- "how many blocks are individual, differential, T, H and planar under ETC2 RGB", where "b3 bit 1 is the difference bit"
abbrev pub individual_block : Test
individual_block d = not (differs d)

abbrev pub differential_block : Test
differential_block d = differs d && differential_by_sums d

abbrev pub t_block : Test
t_block d = differs d && t_by_sums d

abbrev pub h_block : Test
h_block d = differs d && h_by_sums d

abbrev pub planar_block_lem : Test
planar_block_lem d = differs d && planar_by_sums d

abbrev pub rgb_tests : List Test
rgb_tests = individual_block ∷ differential_block ∷ t_block ∷ h_block ∷ planar_block_lem ∷ []

-- "For RGBA1, do the same with four kinds, each split by the opaque bit": there that bit is "the opaque bit", and a block "is
-- always read as if the difference bit were set"
abbrev pub opaque_differential : Test
opaque_differential d = differs d && differential_by_sums d

abbrev pub opaque_t : Test
opaque_t d = differs d && t_by_sums d

abbrev pub opaque_h : Test
opaque_h d = differs d && h_by_sums d

abbrev pub opaque_planar : Test
opaque_planar d = differs d && planar_by_sums d

abbrev pub clear_differential : Test
clear_differential d = not (differs d) && differential_by_sums d

abbrev pub clear_t : Test
clear_t d = not (differs d) && t_by_sums d

abbrev pub clear_h : Test
clear_h d = not (differs d) && h_by_sums d

abbrev pub clear_planar : Test
clear_planar d = not (differs d) && planar_by_sums d

abbrev pub rgba1_tests : List Test
rgba1_tests =
    opaque_differential ∷ opaque_t ∷ opaque_h ∷ opaque_planar ∷ clear_differential ∷ clear_t ∷ clear_h ∷ clear_planar ∷ []

-- "Each count has its own definition, none is got by subtraction": of the first n blocks, how many meet a test
abbrev pub counted : (ℕ → List ℕ) → ℕ → Test → ℕ
counted block n test = count_of (λ i. test (block i)) n

-- and so for each of some tests
abbrev pub counts : (ℕ → List ℕ) → ℕ → List Test → List ℕ
counts block n [] = []
counts block n (test ∷ tests) = counted block n test ∷ counts block n tests

-- "Refusals 1 and 2 as in 01, in that order"; refusal 1 with M-104's limit, and "the census takes no pitch": it is not looked at
abbrev pub census_checks : Picture → ℕ → List Check
census_checks p bytes = data_checks 8 p bytes

-- what a census says on paper: 0 with its counts; "a refusal returns no counts"
abbrev pub census : List Test → List ℕ → Picture → List ℕ
census tests d p = judged (census_checks p (length d)) (0 ∷ counts (bytes_of 8 d) (blocks p) tests)

abbrev pub rgb_values : RgbCounts → List ℕ
rgb_values c = c.individual ∷ c.differential ∷ c.t ∷ c.h ∷ c.planar ∷ []

abbrev pub rgb_said : Result RgbCounts Refusal → List ℕ
rgb_said = said_with rgb_values

abbrev pub kind_values : KindCounts → List ℕ
kind_values c = c.differential ∷ c.t ∷ c.h ∷ c.planar ∷ []

abbrev pub rgba1_values : Rgba1Counts → List ℕ
rgba1_values c = kind_values c.opaque ++ kind_values c.clear

abbrev pub rgba1_said : Result Rgba1Counts Refusal → List ℕ
rgba1_said = said_with rgba1_values

-- The promises of the two censuses, of bytes d and a picture's description.
abbrev pub CountsRgb : List ℕ → Picture → Result RgbCounts Refusal → Type 0
CountsRgb d p answer = rgb_said answer ≡ census rgb_tests d p

abbrev pub CountsRgba1 : List ℕ → Picture → Result Rgba1Counts Refusal → Type 0
CountsRgba1 d p answer = rgba1_said answer ≡ census rgba1_tests d p
