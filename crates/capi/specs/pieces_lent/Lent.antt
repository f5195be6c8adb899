-- The state of a picture in pieces, in two arrays: five numbers, which are the format's, the width, the height, the pitch and the bytes
-- taken, and fifteen kept bytes. What a caller is told who lends them.
-- Assumes nothing.
use Rattle.std.specs.Prelude.{◌≡◌, List, [], ◌∷◌, ℕ, get_or}
use Rattle.rules.specs.Places.{pitched}
use Rattle.rules.specs.Pieces.{Starts, Takes}
use Rattle.rules.specs.FileFormats.{format_at_lem, format_number}
use Rattle.rules.specs.Answers.{Answer}
use Rattle.rules.specs.declared.Format.{Format}
use Rattle.rules.specs.declared.Picture.{Picture}
use Rattle.rules.specs.declared.Progress.{Progress}

-- the state that the arrays hold, whatever is in them
abbrev pub state_in_lem : List ℕ → List ℕ → Progress
state_in_lem numbers kept =
    record {
      format = format_at_lem (get_or numbers 0 0);
      picture = pitched (get_or numbers 1 0) (get_or numbers 2 0) (get_or numbers 3 0);
      taken = get_or numbers 4 0;
      kept = kept;
    }

-- five numbers, with another one for the bytes taken
abbrev pub with_taken : List ℕ → ℕ → List ℕ
with_taken numbers taken = get_or numbers 0 0 ∷ get_or numbers 1 0 ∷ get_or numbers 2 0 ∷ get_or numbers 3 0 ∷ taken ∷ []

-- Starting: the arrays hold the state that comes of it, and the five numbers are these.
pub record StartLent (f : Format) (p : Picture) (elements : ℕ) (answer : Answer) (numbers kept : List ℕ) : Type 0 where
  pub starts : Starts f p elements (record { answer = answer; progress = state_in_lem numbers kept })
  pub these : numbers ≡ format_number f ∷ p.width ∷ p.height ∷ p.pitch ∷ 0 ∷ []

-- A piece e: so do they, and of the five numbers only that of the bytes taken is written.
pub record PieceLent (numbers kept e image : List ℕ) (answer : Answer) (numbers' kept' : List ℕ) (painted unused : ℕ) (new : List ℕ)
    : Type 0 where
  pub takes :
      Takes (state_in_lem numbers kept) e image
      (record { answer = answer; progress = state_in_lem numbers' kept'; painted = painted; unused = unused })
      new
  pub only : numbers' ≡ with_taken numbers (get_or numbers' 4 0)
