-- The few words on 32-bit floats that the rules of degrees (M-111) are written in, over the kit's account of IEEE 754 (lib.Ieee): a
-- float is not a number, an infinity, or `fin s m e`, the number m * 2 ^ e, negative where s is true. So -0 is a number of size 0.
-- Assumes nothing.
use Rattle.std.specs.Prelude.{Bool, false, not, ◌&&◌, ℕ, ◌*◌, leb, pos, Float}
use Rattle.std.specs.Float.{nan, inf, fin, binary32}
use Rattle.std.specs.Float.Ieee.{up, down, add, sub, mul, of_int, to_bits, fits, is_nan}

-- x + y, x - y and x * y: "Each operation rounds once", to the nearest 32-bit float, and at a tie to the even one
abbrev pub plus : Float → Float → Float
plus x y = add binary32 x y

abbrev pub less : Float → Float → Float
less x y = sub binary32 x y

abbrev pub times : Float → Float → Float
times x y = mul binary32 x y

-- a whole number as a float
abbrev pub whole : ℕ → Float
whole n = of_int binary32 (pos n)

-- "by bits": the 32 bits of a float, as a number
abbrev pub float_bits : Float → ℕ
float_bits x = to_bits binary32 x

-- x is a 32-bit float (`Float` serves 64 bits too), and no NaN: each of these has bits of its own
abbrev pub is_number : Float → Bool
is_number x = fits binary32 x && not (is_nan x)

-- x "lies in -n to n": it is a number, and its size m * 2 ^ e, which is the fraction m * up e / down e, is at most n; no NaN and no
-- infinity does
abbrev pub within : ℕ → Float → Bool
within n nan = false
within n (inf s) = false
within n (fin s m e) = leb (m * up e) (n * down e)
