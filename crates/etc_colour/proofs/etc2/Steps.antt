-- The steps of a code, in a block that is opaque and in one that is not, and the colours that they make.
-- Assumes nothing.
use Rattle.std.proofs.Common.{◌≡◌, ℕ, ◌+◌, ◌*◌, ◌<◌, Bool, true, false, cond, List, [], get_or, ℤ, pos, refl, zero-add, lit<}
use lib.Signed.{mag}
use Rattle.std.specs.Int.{from_bool}
use Rattle.laws.proofs.Every.{below}
use Rattle.laws.proofs.Signed.{small, small_at}
use Rattle.rules.specs.Colour.{steps_of, half_colours}
use Rattle.tables.specs.consts.Tables.{four_steps, clear_four, signed_steps}
use Rattle.tables.proofs.consts.Order.{clear_at, steps_at}
use Rattle.etc_colour.specs.shade.Pick.{eight}
use Rattle.etc_colour.specs.shade.Tone.{punched, Steps}
use Rattle.etc_colour.proofs.shade.Tone.{steps_opaque, steps_clear}
use Rattle.etc_colour.specs.etc1.Halves.{shades, of_half_lem}
use Rattle.etc_colour.proofs.etc1.Steps.{small_step}
use Rattle.etc_colour.specs.etc2.Colours.{steps_where}

-- the steps of a code
abbrev pub row_where : Bool → ℕ → List ℤ
row_where opaque code = cond opaque (four_steps (steps_of code)) (clear_four (steps_of code))

-- where the table has them
pub row_at : (opaque : Bool) (t : List (List ℤ)) (code : ℕ) → t ≡ signed_steps → code < 8 → get_or t (cond opaque 8 0 + code) [] ≡ row_where opaque code
row_at true t code e h = steps_at t e code h
row_at false t code e h = rw (zero-add code) (clear_at t e code h)

-- the row that the code reads, of a number that is 1 where the block is opaque
pub row_read : (opaque : Bool) (t : List (List ℤ)) (n code : ℕ) → n ≡ from_bool opaque → t ≡ signed_steps → code < 8 → get_or t (8 * n + code) [] ≡ row_where opaque code
row_read true t n code e f h = rw e (row_at true t code f h)
row_read false t n code e f h = rw e (row_at false t code f h)

small_clear : (code k : ℕ) → code < 8 → mag (get_or (clear_four (steps_of code)) k (pos 0)) < 1024
small_clear code k h =
    small_at 1024 (clear_four (steps_of code)) (lit< tt) (below (λ j. small 1024 (clear_four (steps_of j))) 8 tt code h) k

pub steps_where_lem : (opaque : Bool) (code : ℕ) → code < 8 → Steps opaque (row_where opaque code)
steps_where_lem true code h = steps_opaque (four_steps (steps_of code)) (λ k. small_step code k h)
steps_where_lem false code h = steps_clear (clear_four (steps_of code)) (λ k. small_clear code k h) refl

-- the colours of both halves
pub coloured : (opaque : Bool) (c : List (List ℕ)) (code : ℕ → ℕ) (first second : List ℤ)
    → first ≡ row_where opaque (code 0)
    → second ≡ row_where opaque (code 1)
    → eight (λ h. shades opaque (get_or c h []) (of_half_lem first second h)) ≡ eight (λ h. punched opaque (half_colours (get_or c h []) (steps_where opaque (code h))))
coloured true c code first second p q = rw (p, q)
coloured false c code first second p q = rw (p, q)
