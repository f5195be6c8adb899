-- The tables as the code holds them, made from those of the rules.
-- Assumes nothing.
use Rattle.std.specs.Prelude.{cond, List, [], ◌∷◌, ℕ, ◌+◌, ◌-◌, ◌*◌, ◌/◌, ◌%◌, ltb, ℤ, pos, get_or}
use Rattle.rules.specs.Notation.{build, minus}
use Rattle.rules.specs.Colour.{steps_of}

-- the four steps of a code, by index: "low bit picks the column, high bit negates"
abbrev pub four_steps : List ℕ → List ℤ
four_steps steps =
    pos (get_or steps 0 0) ∷ pos (get_or steps 1 0) ∷ minus (get_or steps 0 0) ∷ minus (get_or steps 1 0) ∷ []

-- the same where a block is not opaque: "steps 0 and the larger one", and index 2, which is transparent there, takes each channel to 0
abbrev pub clear_four : List ℕ → List ℤ
clear_four steps =
    pos 0 ∷ pos (get_or steps 1 0) ∷ minus 512 ∷ minus (get_or steps 1 0) ∷ []

-- the steps of every code, first of blocks that are not opaque
unfoldable pub signed_steps : List (List ℤ)
signed_steps = build 16 (λ n. cond (ltb n 8) (clear_four (steps_of n)) (four_steps (steps_of (n - 8))))

-- pixel i = 4x + y stands at 4y + x
unfoldable pub write_order_lem : List ℕ
write_order_lem = build 16 (λ i. 4 * (i % 4) + i / 4)
