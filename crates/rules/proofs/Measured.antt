-- Rows from outside: legends, digits, pixels and measurements, each with the answer that is due by Python's floats, rounded to
-- 32 bits by its struct. Made by: oracle/degrees --record --date 2026-11-15
-- Assumes nothing.
use mathlib.Core.List.{List, [], ◌∷◌}
use Prim.Native.Nat.{ℕ}

-- A row has the bits of a legend's one to three values, the digit that it names, the digit that the picture shows, the pixel,
-- the bits of the measurement, and what is answered.
pub data Row : Type 0 where
  row : List ℕ → ℕ → ℕ → ℕ → ℕ → List ℕ → Row

unfoldable pub measured : List Row
measured =
    -- 10 + 0.5 * 200 is 110, and 10 more than the measured 100
    row (0x41200000 ∷ 0x3F000000 ∷ []) 1 1 0xFFC81234 0x42C80000 (0 ∷ 0x42DC0000 ∷ 0x42C80000 ∷ 0x41200000 ∷ [])
    -- two roundings, not one: fused, the last bit is another
    ∷ row (0x3DCCCCCD ∷ 0x3F333333 ∷ []) 0 0 0xFF031234 0x00000000 (0 ∷ 0x400CCCCC ∷ 0x00000000 ∷ 0x400CCCCC ∷ [])
    -- the sum to red 128 first: regrouped, or fused, the last bits are others
    ∷ row (0x3DCCCCCD ∷ 0x3DCCCCCD ∷ 0xBF333333 ∷ []) 4 4 0xFFC81234 0xC1A00000 (0 ∷ 0xC215FFFF ∷ 0xC1A00000 ∷ 0xC18BFFFE ∷ [])
    -- a bend at red 0
    ∷ row (0x3F800000 ∷ 0x40000000 ∷ 0xC1000000 ∷ []) 2 2 0xFF001234 0x43808000 (0 ∷ 0x3F800000 ∷ 0x43808000 ∷ 0xC3800000 ∷ [])
    -- and a line
    ∷ row (0xC4340000 ∷ 0xC1000000 ∷ []) 3 3 0x01000000 0x44340000 (0 ∷ 0xC4340000 ∷ 0x44340000 ∷ 0xC4B40000 ∷ [])
    -- a bend at red 1
    ∷ row (0x3F800000 ∷ 0x40000000 ∷ 0xC1000000 ∷ []) 2 2 0xFF011234 0x43808000 (0 ∷ 0x40400000 ∷ 0x43808000 ∷ 0xC37E0000 ∷ [])
    -- and a line
    ∷ row (0xC4340000 ∷ 0xC1000000 ∷ []) 3 3 0x01010000 0x44340000 (0 ∷ 0xC4360000 ∷ 0x44340000 ∷ 0xC4B50000 ∷ [])
    -- a bend at red 127
    ∷ row (0x3F800000 ∷ 0x40000000 ∷ 0xC1000000 ∷ []) 2 2 0xFF7F1234 0x43808000 (0 ∷ 0x437F0000 ∷ 0x43808000 ∷ 0xC0000000 ∷ [])
    -- and a line
    ∷ row (0xC4340000 ∷ 0xC1000000 ∷ []) 3 3 0x017F0000 0x44340000 (0 ∷ 0xC4D90000 ∷ 0x44340000 ∷ 0xC5198000 ∷ [])
    -- a bend at red 128
    ∷ row (0x3F800000 ∷ 0x40000000 ∷ 0xC1000000 ∷ []) 2 2 0xFF801234 0x43808000 (0 ∷ 0x43808000 ∷ 0x43808000 ∷ 0x00000000 ∷ [])
    -- and a line
    ∷ row (0xC4340000 ∷ 0xC1000000 ∷ []) 3 3 0x01800000 0x44340000 (0 ∷ 0xC4DA0000 ∷ 0x44340000 ∷ 0xC51A0000 ∷ [])
    -- a bend at red 129
    ∷ row (0x3F800000 ∷ 0x40000000 ∷ 0xC1000000 ∷ []) 2 2 0xFF811234 0x43808000 (0 ∷ 0x43790000 ∷ 0x43808000 ∷ 0xC1000000 ∷ [])
    -- and a line
    ∷ row (0xC4340000 ∷ 0xC1000000 ∷ []) 3 3 0x01810000 0x44340000 (0 ∷ 0xC4DB0000 ∷ 0x44340000 ∷ 0xC51A8000 ∷ [])
    -- a bend at red 130
    ∷ row (0x3F800000 ∷ 0x40000000 ∷ 0xC1000000 ∷ []) 2 2 0xFF821234 0x43808000 (0 ∷ 0x43710000 ∷ 0x43808000 ∷ 0xC1800000 ∷ [])
    -- and a line
    ∷ row (0xC4340000 ∷ 0xC1000000 ∷ []) 3 3 0x01820000 0x44340000 (0 ∷ 0xC4DC0000 ∷ 0x44340000 ∷ 0xC51B0000 ∷ [])
    -- a bend at red 255
    ∷ row (0x3F800000 ∷ 0x40000000 ∷ 0xC1000000 ∷ []) 2 2 0xFFFF1234 0x43808000 (0 ∷ 0xC43DC000 ∷ 0x43808000 ∷ 0xC47E0000 ∷ [])
    -- and a line
    ∷ row (0xC4340000 ∷ 0xC1000000 ∷ []) 3 3 0x01FF0000 0x44340000 (0 ∷ 0xC52C8000 ∷ 0x44340000 ∷ 0xC5598000 ∷ [])
    -- nothing is added at 128: -0 keeps its sign
    ∷ row (0x80000000 ∷ 0x80000000 ∷ 0x3F800000 ∷ []) 2 2 0xFF801234 0x3F800000 (0 ∷ 0x80000000 ∷ 0x3F800000 ∷ 0xBF800000 ∷ [])
    -- a level whatever the red; -0 - 0 is -0
    ∷ row (0x80000000 ∷ []) 3 3 0xFF091234 0x00000000 (0 ∷ 0x80000000 ∷ 0x00000000 ∷ 0x80000000 ∷ [])
    -- and 0 - -0 is 0
    ∷ row (0x00000000 ∷ []) 3 3 0xFFF91234 0x80000000 (0 ∷ 0x00000000 ∷ 0x80000000 ∷ 0x00000000 ∷ [])
    -- equal degrees differ by +0
    ∷ row (0x42C80000 ∷ []) 3 3 0xFFF91234 0x42C80000 (0 ∷ 0x42C80000 ∷ 0x42C80000 ∷ 0x00000000 ∷ [])
    -- 720 - -720, and 720 + 8 * 255 + 720
    ∷ row (0x44340000 ∷ []) 0 0 0xFF001234 0xC4340000 (0 ∷ 0x44340000 ∷ 0xC4340000 ∷ 0x44B40000 ∷ [])
    -- of a line
    ∷ row (0x44340000 ∷ 0x41000000 ∷ []) 0 0 0xFFFF1234 0xC4340000 (0 ∷ 0x452C8000 ∷ 0xC4340000 ∷ 0x45598000 ∷ [])
    -- subnormals: 255 of the smallest, less one of them
    ∷ row (0x80000001 ∷ 0x00000001 ∷ []) 1 1 0xFFFF1234 0x80000001 (0 ∷ 0x000000FE ∷ 0x80000001 ∷ 0x000000FF ∷ [])
    -- halves of it: a tie goes to the even one
    ∷ row (0x44000000 ∷ 0x38000000 ∷ []) 1 1 0xFF011234 0x00000000 (0 ∷ 0x44000000 ∷ 0x00000000 ∷ 0x44000000 ∷ [])
    -- up as well as down
    ∷ row (0x44000001 ∷ 0x38000000 ∷ []) 1 1 0xFF011234 0x00000000 (0 ∷ 0x44000002 ∷ 0x00000000 ∷ 0x44000002 ∷ [])
    -- of a product
    ∷ row (0x00000000 ∷ 0x3F800001 ∷ []) 1 1 0xFF031234 0x00000000 (0 ∷ 0x40400002 ∷ 0x00000000 ∷ 0x40400002 ∷ [])
    -- of a difference
    ∷ row (0x44000001 ∷ []) 1 1 0xFF031234 0x38000000 (0 ∷ 0x44000001 ∷ 0x38000000 ∷ 0x44000000 ∷ [])
    -- a small measurement is lost in the difference
    ∷ row (0x44334000 ∷ []) 1 1 0xFF031234 0x00400000 (0 ∷ 0x44334000 ∷ 0x00400000 ∷ 0x44334000 ∷ [])
    -- 720 lies in the range: as a level,
    ∷ row (0x44340000 ∷ []) 0 0 0xFF001234 0x00000000 (0 ∷ 0x44340000 ∷ 0x00000000 ∷ 0x44340000 ∷ [])
    -- as the low of a line,
    ∷ row (0x44340000 ∷ 0x00000000 ∷ []) 0 0 0xFF001234 0x00000000 (0 ∷ 0x44340000 ∷ 0x00000000 ∷ 0x44340000 ∷ [])
    -- of a bend,
    ∷ row (0x44340000 ∷ 0x00000000 ∷ 0x00000000 ∷ []) 0 0 0xFF001234 0x00000000 (0 ∷ 0x44340000 ∷ 0x00000000 ∷ 0x44340000 ∷ [])
    -- and measured
    ∷ row (0x3F800000 ∷ []) 4 4 0xFF001234 0x44340000 (0 ∷ 0x3F800000 ∷ 0x44340000 ∷ 0xC433C000 ∷ [])
    -- the next float above does not: as a level,
    ∷ row (0x44340001 ∷ []) 0 0 0xFF001234 0x00000000 (13 ∷ [])
    -- as the low of a line,
    ∷ row (0x44340001 ∷ 0x00000000 ∷ []) 0 0 0xFF001234 0x00000000 (13 ∷ [])
    -- of a bend,
    ∷ row (0x44340001 ∷ 0x00000000 ∷ 0x00000000 ∷ []) 0 0 0xFF001234 0x00000000 (13 ∷ [])
    -- and measured
    ∷ row (0x3F800000 ∷ []) 4 4 0xFF001234 0x44340001 (15 ∷ [])
    -- -720 does: as a level,
    ∷ row (0xC4340000 ∷ []) 0 0 0xFF001234 0x00000000 (0 ∷ 0xC4340000 ∷ 0x00000000 ∷ 0xC4340000 ∷ [])
    -- as the low of a line,
    ∷ row (0xC4340000 ∷ 0x00000000 ∷ []) 0 0 0xFF001234 0x00000000 (0 ∷ 0xC4340000 ∷ 0x00000000 ∷ 0xC4340000 ∷ [])
    -- of a bend,
    ∷ row (0xC4340000 ∷ 0x00000000 ∷ 0x00000000 ∷ []) 0 0 0xFF001234 0x00000000 (0 ∷ 0xC4340000 ∷ 0x00000000 ∷ 0xC4340000 ∷ [])
    -- and measured
    ∷ row (0x3F800000 ∷ []) 4 4 0xFF001234 0xC4340000 (0 ∷ 0x3F800000 ∷ 0xC4340000 ∷ 0x44344000 ∷ [])
    -- the next below does not: as a level,
    ∷ row (0xC4340001 ∷ []) 0 0 0xFF001234 0x00000000 (13 ∷ [])
    -- as the low of a line,
    ∷ row (0xC4340001 ∷ 0x00000000 ∷ []) 0 0 0xFF001234 0x00000000 (13 ∷ [])
    -- of a bend,
    ∷ row (0xC4340001 ∷ 0x00000000 ∷ 0x00000000 ∷ []) 0 0 0xFF001234 0x00000000 (13 ∷ [])
    -- and measured
    ∷ row (0x3F800000 ∷ []) 4 4 0xFF001234 0xC4340001 (15 ∷ [])
    -- the last below 720: as a level,
    ∷ row (0x4433FFFF ∷ []) 0 0 0xFF001234 0x00000000 (0 ∷ 0x4433FFFF ∷ 0x00000000 ∷ 0x4433FFFF ∷ [])
    -- as the low of a line,
    ∷ row (0x4433FFFF ∷ 0x00000000 ∷ []) 0 0 0xFF001234 0x00000000 (0 ∷ 0x4433FFFF ∷ 0x00000000 ∷ 0x4433FFFF ∷ [])
    -- of a bend,
    ∷ row (0x4433FFFF ∷ 0x00000000 ∷ 0x00000000 ∷ []) 0 0 0xFF001234 0x00000000 (0 ∷ 0x4433FFFF ∷ 0x00000000 ∷ 0x4433FFFF ∷ [])
    -- and measured
    ∷ row (0x3F800000 ∷ []) 4 4 0xFF001234 0x4433FFFF (0 ∷ 0x3F800000 ∷ 0x4433FFFF ∷ 0xC433BFFF ∷ [])
    -- 721: as a level,
    ∷ row (0x44344000 ∷ []) 0 0 0xFF001234 0x00000000 (13 ∷ [])
    -- as the low of a line,
    ∷ row (0x44344000 ∷ 0x00000000 ∷ []) 0 0 0xFF001234 0x00000000 (13 ∷ [])
    -- of a bend,
    ∷ row (0x44344000 ∷ 0x00000000 ∷ 0x00000000 ∷ []) 0 0 0xFF001234 0x00000000 (13 ∷ [])
    -- and measured
    ∷ row (0x3F800000 ∷ []) 4 4 0xFF001234 0x44344000 (15 ∷ [])
    -- 1024, one digit in binary: as a level,
    ∷ row (0x44800000 ∷ []) 0 0 0xFF001234 0x00000000 (13 ∷ [])
    -- as the low of a line,
    ∷ row (0x44800000 ∷ 0x00000000 ∷ []) 0 0 0xFF001234 0x00000000 (13 ∷ [])
    -- of a bend,
    ∷ row (0x44800000 ∷ 0x00000000 ∷ 0x00000000 ∷ []) 0 0 0xFF001234 0x00000000 (13 ∷ [])
    -- and measured
    ∷ row (0x3F800000 ∷ []) 4 4 0xFF001234 0x44800000 (15 ∷ [])
    -- a quiet NaN: as a level,
    ∷ row (0x7FC00000 ∷ []) 0 0 0xFF001234 0x00000000 (13 ∷ [])
    -- as the low of a line,
    ∷ row (0x7FC00000 ∷ 0x00000000 ∷ []) 0 0 0xFF001234 0x00000000 (13 ∷ [])
    -- of a bend,
    ∷ row (0x7FC00000 ∷ 0x00000000 ∷ 0x00000000 ∷ []) 0 0 0xFF001234 0x00000000 (13 ∷ [])
    -- and measured
    ∷ row (0x3F800000 ∷ []) 4 4 0xFF001234 0x7FC00000 (15 ∷ [])
    -- a signalling one: as a level,
    ∷ row (0x7F800001 ∷ []) 0 0 0xFF001234 0x00000000 (13 ∷ [])
    -- as the low of a line,
    ∷ row (0x7F800001 ∷ 0x00000000 ∷ []) 0 0 0xFF001234 0x00000000 (13 ∷ [])
    -- of a bend,
    ∷ row (0x7F800001 ∷ 0x00000000 ∷ 0x00000000 ∷ []) 0 0 0xFF001234 0x00000000 (13 ∷ [])
    -- and measured
    ∷ row (0x3F800000 ∷ []) 4 4 0xFF001234 0x7F800001 (15 ∷ [])
    -- one with its sign and every other bit set: as a level,
    ∷ row (0xFFFFFFFF ∷ []) 0 0 0xFF001234 0x00000000 (13 ∷ [])
    -- as the low of a line,
    ∷ row (0xFFFFFFFF ∷ 0x00000000 ∷ []) 0 0 0xFF001234 0x00000000 (13 ∷ [])
    -- of a bend,
    ∷ row (0xFFFFFFFF ∷ 0x00000000 ∷ 0x00000000 ∷ []) 0 0 0xFF001234 0x00000000 (13 ∷ [])
    -- and measured
    ∷ row (0x3F800000 ∷ []) 4 4 0xFF001234 0xFFFFFFFF (15 ∷ [])
    -- infinite: as a level,
    ∷ row (0x7F800000 ∷ []) 0 0 0xFF001234 0x00000000 (13 ∷ [])
    -- as the low of a line,
    ∷ row (0x7F800000 ∷ 0x00000000 ∷ []) 0 0 0xFF001234 0x00000000 (13 ∷ [])
    -- of a bend,
    ∷ row (0x7F800000 ∷ 0x00000000 ∷ 0x00000000 ∷ []) 0 0 0xFF001234 0x00000000 (13 ∷ [])
    -- and measured
    ∷ row (0x3F800000 ∷ []) 4 4 0xFF001234 0x7F800000 (15 ∷ [])
    -- and below: as a level,
    ∷ row (0xFF800000 ∷ []) 0 0 0xFF001234 0x00000000 (13 ∷ [])
    -- as the low of a line,
    ∷ row (0xFF800000 ∷ 0x00000000 ∷ []) 0 0 0xFF001234 0x00000000 (13 ∷ [])
    -- of a bend,
    ∷ row (0xFF800000 ∷ 0x00000000 ∷ 0x00000000 ∷ []) 0 0 0xFF001234 0x00000000 (13 ∷ [])
    -- and measured
    ∷ row (0x3F800000 ∷ []) 4 4 0xFF001234 0xFF800000 (15 ∷ [])
    -- the largest of all: as a level,
    ∷ row (0x7F7FFFFF ∷ []) 0 0 0xFF001234 0x00000000 (13 ∷ [])
    -- as the low of a line,
    ∷ row (0x7F7FFFFF ∷ 0x00000000 ∷ []) 0 0 0xFF001234 0x00000000 (13 ∷ [])
    -- of a bend,
    ∷ row (0x7F7FFFFF ∷ 0x00000000 ∷ 0x00000000 ∷ []) 0 0 0xFF001234 0x00000000 (13 ∷ [])
    -- and measured
    ∷ row (0x3F800000 ∷ []) 4 4 0xFF001234 0x7F7FFFFF (15 ∷ [])
    -- -0 is 0, and keeps its sign: as a level,
    ∷ row (0x80000000 ∷ []) 0 0 0xFF001234 0x00000000 (0 ∷ 0x80000000 ∷ 0x00000000 ∷ 0x80000000 ∷ [])
    -- as the low of a line,
    ∷ row (0x80000000 ∷ 0x00000000 ∷ []) 0 0 0xFF001234 0x00000000 (0 ∷ 0x00000000 ∷ 0x00000000 ∷ 0x00000000 ∷ [])
    -- of a bend,
    ∷ row (0x80000000 ∷ 0x00000000 ∷ 0x00000000 ∷ []) 0 0 0xFF001234 0x00000000 (0 ∷ 0x00000000 ∷ 0x00000000 ∷ 0x00000000 ∷ [])
    -- and measured
    ∷ row (0x3F800000 ∷ []) 4 4 0xFF001234 0x80000000 (0 ∷ 0x3F800000 ∷ 0x80000000 ∷ 0x3F800000 ∷ [])
    -- the smallest above 0: as a level,
    ∷ row (0x00000001 ∷ []) 0 0 0xFF001234 0x00000000 (0 ∷ 0x00000001 ∷ 0x00000000 ∷ 0x00000001 ∷ [])
    -- as the low of a line,
    ∷ row (0x00000001 ∷ 0x00000000 ∷ []) 0 0 0xFF001234 0x00000000 (0 ∷ 0x00000001 ∷ 0x00000000 ∷ 0x00000001 ∷ [])
    -- of a bend,
    ∷ row (0x00000001 ∷ 0x00000000 ∷ 0x00000000 ∷ []) 0 0 0xFF001234 0x00000000 (0 ∷ 0x00000001 ∷ 0x00000000 ∷ 0x00000001 ∷ [])
    -- and measured
    ∷ row (0x3F800000 ∷ []) 4 4 0xFF001234 0x00000001 (0 ∷ 0x3F800000 ∷ 0x00000001 ∷ 0x3F800000 ∷ [])
    -- the largest subnormal, negative: as a level,
    ∷ row (0x807FFFFF ∷ []) 0 0 0xFF001234 0x00000000 (0 ∷ 0x807FFFFF ∷ 0x00000000 ∷ 0x807FFFFF ∷ [])
    -- as the low of a line,
    ∷ row (0x807FFFFF ∷ 0x00000000 ∷ []) 0 0 0xFF001234 0x00000000 (0 ∷ 0x807FFFFF ∷ 0x00000000 ∷ 0x807FFFFF ∷ [])
    -- of a bend,
    ∷ row (0x807FFFFF ∷ 0x00000000 ∷ 0x00000000 ∷ []) 0 0 0xFF001234 0x00000000 (0 ∷ 0x807FFFFF ∷ 0x00000000 ∷ 0x807FFFFF ∷ [])
    -- and measured
    ∷ row (0x3F800000 ∷ []) 4 4 0xFF001234 0x807FFFFF (0 ∷ 0x3F800000 ∷ 0x807FFFFF ∷ 0x3F800000 ∷ [])
    -- a step of 8 lies in the range: of a line,
    ∷ row (0x3F800000 ∷ 0x41000000 ∷ []) 2 2 0xFF051234 0x00000000 (0 ∷ 0x42240000 ∷ 0x00000000 ∷ 0x42240000 ∷ [])
    -- of a bend,
    ∷ row (0x3F800000 ∷ 0x41000000 ∷ 0x3F800000 ∷ []) 2 2 0xFF051234 0x00000000 (0 ∷ 0x42240000 ∷ 0x00000000 ∷ 0x42240000 ∷ [])
    -- and as its second
    ∷ row (0x3F800000 ∷ 0x3F800000 ∷ 0x41000000 ∷ []) 2 2 0xFF851234 0x00000000 (0 ∷ 0x43290000 ∷ 0x00000000 ∷ 0x43290000 ∷ [])
    -- the next above does not: of a line,
    ∷ row (0x3F800000 ∷ 0x41000001 ∷ []) 2 2 0xFF051234 0x00000000 (13 ∷ [])
    -- of a bend,
    ∷ row (0x3F800000 ∷ 0x41000001 ∷ 0x3F800000 ∷ []) 2 2 0xFF051234 0x00000000 (13 ∷ [])
    -- and as its second
    ∷ row (0x3F800000 ∷ 0x3F800000 ∷ 0x41000001 ∷ []) 2 2 0xFF851234 0x00000000 (13 ∷ [])
    -- -8 does: of a line,
    ∷ row (0x3F800000 ∷ 0xC1000000 ∷ []) 2 2 0xFF051234 0x00000000 (0 ∷ 0xC21C0000 ∷ 0x00000000 ∷ 0xC21C0000 ∷ [])
    -- of a bend,
    ∷ row (0x3F800000 ∷ 0xC1000000 ∷ 0x3F800000 ∷ []) 2 2 0xFF051234 0x00000000 (0 ∷ 0xC21C0000 ∷ 0x00000000 ∷ 0xC21C0000 ∷ [])
    -- and as its second
    ∷ row (0x3F800000 ∷ 0x3F800000 ∷ 0xC1000000 ∷ []) 2 2 0xFF851234 0x00000000 (0 ∷ 0x42B20000 ∷ 0x00000000 ∷ 0x42B20000 ∷ [])
    -- the next below does not: of a line,
    ∷ row (0x3F800000 ∷ 0xC1000001 ∷ []) 2 2 0xFF051234 0x00000000 (13 ∷ [])
    -- of a bend,
    ∷ row (0x3F800000 ∷ 0xC1000001 ∷ 0x3F800000 ∷ []) 2 2 0xFF051234 0x00000000 (13 ∷ [])
    -- and as its second
    ∷ row (0x3F800000 ∷ 0x3F800000 ∷ 0xC1000001 ∷ []) 2 2 0xFF851234 0x00000000 (13 ∷ [])
    -- a step that is no number: of a line,
    ∷ row (0x3F800000 ∷ 0x7FC00000 ∷ []) 2 2 0xFF051234 0x00000000 (13 ∷ [])
    -- of a bend,
    ∷ row (0x3F800000 ∷ 0x7FC00000 ∷ 0x3F800000 ∷ []) 2 2 0xFF051234 0x00000000 (13 ∷ [])
    -- and as its second
    ∷ row (0x3F800000 ∷ 0x3F800000 ∷ 0x7FC00000 ∷ []) 2 2 0xFF851234 0x00000000 (13 ∷ [])
    -- an infinite step: of a line,
    ∷ row (0x3F800000 ∷ 0xFF800000 ∷ []) 2 2 0xFF051234 0x00000000 (13 ∷ [])
    -- of a bend,
    ∷ row (0x3F800000 ∷ 0xFF800000 ∷ 0x3F800000 ∷ []) 2 2 0xFF051234 0x00000000 (13 ∷ [])
    -- and as its second
    ∷ row (0x3F800000 ∷ 0x3F800000 ∷ 0xFF800000 ∷ []) 2 2 0xFF851234 0x00000000 (13 ∷ [])
    -- a step of -0: of a line,
    ∷ row (0x3F800000 ∷ 0x80000000 ∷ []) 2 2 0xFF051234 0x00000000 (0 ∷ 0x3F800000 ∷ 0x00000000 ∷ 0x3F800000 ∷ [])
    -- of a bend,
    ∷ row (0x3F800000 ∷ 0x80000000 ∷ 0x3F800000 ∷ []) 2 2 0xFF051234 0x00000000 (0 ∷ 0x3F800000 ∷ 0x00000000 ∷ 0x3F800000 ∷ [])
    -- and as its second
    ∷ row (0x3F800000 ∷ 0x3F800000 ∷ 0x80000000 ∷ []) 2 2 0xFF851234 0x00000000 (0 ∷ 0x43010000 ∷ 0x00000000 ∷ 0x43010000 ∷ [])
    -- a subnormal step: of a line,
    ∷ row (0x3F800000 ∷ 0x00000003 ∷ []) 2 2 0xFF051234 0x00000000 (0 ∷ 0x3F800000 ∷ 0x00000000 ∷ 0x3F800000 ∷ [])
    -- of a bend,
    ∷ row (0x3F800000 ∷ 0x00000003 ∷ 0x3F800000 ∷ []) 2 2 0xFF051234 0x00000000 (0 ∷ 0x3F800000 ∷ 0x00000000 ∷ 0x3F800000 ∷ [])
    -- and as its second
    ∷ row (0x3F800000 ∷ 0x3F800000 ∷ 0x00000003 ∷ []) 2 2 0xFF851234 0x00000000 (0 ∷ 0x43010000 ∷ 0x00000000 ∷ 0x43010000 ∷ [])
    -- the last below 8: of a line,
    ∷ row (0x3F800000 ∷ 0x40FFFFFF ∷ []) 2 2 0xFF051234 0x00000000 (0 ∷ 0x4223FFFF ∷ 0x00000000 ∷ 0x4223FFFF ∷ [])
    -- of a bend,
    ∷ row (0x3F800000 ∷ 0x40FFFFFF ∷ 0x3F800000 ∷ []) 2 2 0xFF051234 0x00000000 (0 ∷ 0x4223FFFF ∷ 0x00000000 ∷ 0x4223FFFF ∷ [])
    -- and as its second
    ∷ row (0x3F800000 ∷ 0x3F800000 ∷ 0x40FFFFFF ∷ []) 2 2 0xFF851234 0x00000000 (0 ∷ 0x43290000 ∷ 0x00000000 ∷ 0x43290000 ∷ [])
    -- 9: of a line,
    ∷ row (0x3F800000 ∷ 0x41100000 ∷ []) 2 2 0xFF051234 0x00000000 (13 ∷ [])
    -- of a bend,
    ∷ row (0x3F800000 ∷ 0x41100000 ∷ 0x3F800000 ∷ []) 2 2 0xFF051234 0x00000000 (13 ∷ [])
    -- and as its second
    ∷ row (0x3F800000 ∷ 0x3F800000 ∷ 0x41100000 ∷ []) 2 2 0xFF851234 0x00000000 (13 ∷ [])
    -- 16, one digit in binary: of a line,
    ∷ row (0x3F800000 ∷ 0x41800000 ∷ []) 2 2 0xFF051234 0x00000000 (13 ∷ [])
    -- of a bend,
    ∷ row (0x3F800000 ∷ 0x41800000 ∷ 0x3F800000 ∷ []) 2 2 0xFF051234 0x00000000 (13 ∷ [])
    -- and as its second
    ∷ row (0x3F800000 ∷ 0x3F800000 ∷ 0x41800000 ∷ []) 2 2 0xFF851234 0x00000000 (13 ∷ [])
    -- 13 before 14, 15 and not measured
    ∷ row (0x44344000 ∷ []) 5 4 0x00001234 0x7FC00000 (13 ∷ [])
    -- 14 before 15 and not measured
    ∷ row (0x3F800000 ∷ []) 1 2 0x00001234 0x7FC00000 (14 ∷ [])
    -- 15 before not measured
    ∷ row (0x3F800000 ∷ []) 4 4 0x00001234 0x7FC00000 (15 ∷ [])
    -- not measured, whatever the colour
    ∷ row (0x3F800000 ∷ []) 4 4 0x00FFFFFF 0x40400000 (17 ∷ [])
    -- alpha 1 is measured
    ∷ row (0x3F800000 ∷ []) 4 4 0x01071234 0x40400000 (0 ∷ 0x3F800000 ∷ 0x40400000 ∷ 0xC0000000 ∷ [])
    -- digit 0
    ∷ row (0x3F800000 ∷ []) 0 0 0x80071234 0x40400000 (0 ∷ 0x3F800000 ∷ 0x40400000 ∷ 0xC0000000 ∷ [])
    -- digit 1
    ∷ row (0x3F800000 ∷ []) 1 1 0x80071234 0x40400000 (0 ∷ 0x3F800000 ∷ 0x40400000 ∷ 0xC0000000 ∷ [])
    -- digit 2
    ∷ row (0x3F800000 ∷ []) 2 2 0x80071234 0x40400000 (0 ∷ 0x3F800000 ∷ 0x40400000 ∷ 0xC0000000 ∷ [])
    -- digit 3
    ∷ row (0x3F800000 ∷ []) 3 3 0x80071234 0x40400000 (0 ∷ 0x3F800000 ∷ 0x40400000 ∷ 0xC0000000 ∷ [])
    -- digit 4
    ∷ row (0x3F800000 ∷ []) 4 4 0x80071234 0x40400000 (0 ∷ 0x3F800000 ∷ 0x40400000 ∷ 0xC0000000 ∷ [])
    -- digit 5
    ∷ row (0x3F800000 ∷ []) 5 5 0x80071234 0x40400000 (14 ∷ [])
    -- digit 6
    ∷ row (0x3F800000 ∷ []) 6 6 0x80071234 0x40400000 (14 ∷ [])
    -- digits 0 and 1
    ∷ row (0x3F800000 ∷ []) 0 1 0xFF071234 0x40400000 (14 ∷ [])
    -- digits 1 and 0
    ∷ row (0x3F800000 ∷ []) 1 0 0xFF071234 0x40400000 (14 ∷ [])
    -- digits 3 and 4
    ∷ row (0x3F800000 ∷ []) 3 4 0xFF071234 0x40400000 (14 ∷ [])
    -- digits 4 and 3
    ∷ row (0x3F800000 ∷ []) 4 3 0xFF071234 0x40400000 (14 ∷ [])
    -- digits 4 and 5
    ∷ row (0x3F800000 ∷ []) 4 5 0xFF071234 0x40400000 (14 ∷ [])
    -- digits 5 and 4
    ∷ row (0x3F800000 ∷ []) 5 4 0xFF071234 0x40400000 (14 ∷ [])
    -- digits 0 and 256
    ∷ row (0x3F800000 ∷ []) 0 256 0xFF071234 0x40400000 (14 ∷ [])
    -- digits 256 and 0
    ∷ row (0x3F800000 ∷ []) 256 0 0xFF071234 0x40400000 (14 ∷ [])
    -- digits 0 and 4
    ∷ row (0x3F800000 ∷ []) 0 4 0xFF071234 0x40400000 (14 ∷ [])
    ∷ []
