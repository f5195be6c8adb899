-- The checks with the length exact or not, and a picture that has passed them: what the crates above are told of it.
-- Assumes nothing.
use Rattle.std.specs.Prelude.{Bool, ◌&&◌, List, [], ◌∷◌, ℕ, ◌*◌, ◌≤◌, ltb}
use Rattle.rules.specs.Places.{needed, blocks}
use Rattle.rules.specs.Answers.{Check, refusal, limit, limit_check, pitch_check, data_check, image_check}
use Rattle.rules.specs.declared.Picture.{Picture}

-- all checks of a picture, 6 where the length must be exact: so `exact_checks`, and where it need not be, check 6 never fails
abbrev pub checks_of : Bool → ℕ → Picture → ℕ → ℕ → List Check
checks_of exact s p bytes elements =
    limit_check p
    ∷ pitch_check p
    ∷ data_check (blocks p * s) bytes
    ∷ refusal 6 (exact && ltb (blocks p * s) bytes)
    ∷ image_check (needed p) elements
    ∷ []

-- what holds where every check passes, of a picture in blocks of s bytes
pub record Passed (s : ℕ) (pic : Picture) (bytes elements : ℕ) : Type 0 where
  pub narrow : pic.width ≤ limit
  pub low : pic.height ≤ limit
  pub close : pic.pitch ≤ limit
  pub fits : pic.width ≤ pic.pitch
  pub enough : blocks pic * s ≤ bytes
  pub roomy : needed pic ≤ elements
