-- What 02 says of the lowest signed base: which values changed, which did not, and what the crate has to be given to show the same.
-- Assumes nothing.
use mathlib.Core.Path.{◌≡◌, refl, ap}
use mathlib.Core.Bool.{Bool, true, false, cond}
use mathlib.Core.List.{List, []}
use Prim.Native.Nat.{ℕ, ◌+◌, ◌*◌, ◌/◌}
use lib.Dec.{eqb, eqb→eq, T}
use lib.IntN.{ℤ, pos, ◌+ℤ◌, ◌*ℤ◌}
use lib.ListN.{get_or}
use Rattle.rules.specs.Notation.{byte, bits, twos, minus, clamp}
use Rattle.rules.specs.Channels.{alpha_steps_lem, alpha_index, alpha_step, signed_base, multiplier, eac_value}

-- the rule as it was, "-128 to 127 as the crate has it"
abbrev pub old_base : ℕ → ℤ
old_base b = twos 8 b

-- the eleven bits of a base, a multiplier, a row and an index, by a rule for bases; by the definitions' own rule they are a pixel's
abbrev pub value_by : (ℕ → ℤ) → ℕ → ℕ → ℕ → ℕ → ℕ
value_by base b m row i = clamp 2047 (pos 8 *ℤ base b +ℤ pos 1023 +ℤ pos (multiplier m) *ℤ get_or (get_or alpha_steps_lem row []) i (pos 0))

pub a_pixels_value : (d : List ℕ) (x y : ℕ)
    → eac_value true d x y ≡ value_by signed_base (byte d 0) (bits 7 4 (byte d 1)) (bits 3 0 (byte d 1)) (alpha_index d (4 * x + y))
unfolding eac_value alpha_step
a_pixels_value d x y = refl

-- "All other bases answer as before.": for every multiplier, row and index
unless : (t : Bool) → (T t → ⊥) → (y z : ℤ) → cond t y z ≡ z
unless true n y z = absurd (n tt)
unless false n y z = refl

pub all_other_bases_answer_as_before : (b m row i : ℕ) → (b ≡ 128 → ⊥) → value_by signed_base b m row i ≡ value_by old_base b m row i
all_other_bases_answer_as_before b m row i n =
    ap (λ (z : ℤ). value_by (λ b. z) b m row i) (unless (eqb b 128) (λ t. n (eqb→eq b 128 t)) (minus 127) (twos 8 b))

-- "treat -128 as -127": ours of 80 hex is the old rule's of 81
pub the_lowest_base_is_read_as_the_next : (m row i : ℕ) → value_by signed_base 128 m row i ≡ value_by old_base 129 m row i
the_lowest_base_is_read_as_the_next m row i = refl

-- "A block 80 10 whose index is 6 everywhere gives the byte 7 by the old rule, 8 by the new."
pub seven_by_the_old_rule : value_by old_base 128 1 0 6 / 8 ≡ 7
seven_by_the_old_rule = refl

pub eight_by_the_new : value_by signed_base 128 1 0 6 / 8 ≡ 8
eight_by_the_new = refl
