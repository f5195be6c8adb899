-- What the walk over a sheet says of it as a file.
-- Assumes nothing.
use mathlib.Core.Path.{◌≡◌, ◌∙◌, sym, ap}
use mathlib.Core.Bool.{true, false}
use mathlib.Core.List.{List, [], ◌∷◌}
use Prim.Native.Nat.{ℕ}
use Rattle.std.specs.Prelude.{Ok, Err}
use Rattle.rules.specs.Answers.{Answer, answer_of, given}
use Rattle.rules.specs.Records.{records_of, later, payload_at}
use Rattle.rules.specs.Sheets.{format_of, format_in, size_in, head_in, head_verdict}
use Rattle.rules.specs.SheetFile.{sheet_layout, sheet_header}
use Rattle.rules.specs.declared.Container.TheVariants.{Sheet}
use Rattle.rules.specs.declared.Orientation.TheVariants.{Untold}
use Rattle.rules.specs.declared.Format.{Format}
use Rattle.rules.specs.declared.Head.{Head}
use Rattle.rules.specs.declared.Layout.{Layout}
use Rattle.rules.specs.declared.Picture.{Picture}
use Rattle.rules.specs.declared.Refusal.{Refusal}
use Rattle.laws.proofs.Unique.{answered}
use Rattle.sheet.specs.Shown.{walk, Refuses, size_of_head}
use Rattle.sheet.specs.find.Found.{Sheeted}
use Rattle.sheet.proofs.Formats.{formatted}

-- the layout of a sheet of a format and a size whose blocks start at a byte
abbrev laid : Format → Picture → ℕ → Layout
laid f p s =
    record {
      container = Sheet;
      format = f;
      srgb = false;
      width = p.width;
      height = p.height;
      levels = 1;
      big_endian = false;
      orientation = Untold;
      start = s;
      agrees = true;
    }

abbrev said_of_head : List ℕ → List ℕ
said_of_head d = format_in (head_in d) ∷ (size_in (head_in d)).width ∷ (size_in (head_in d)).height ∷ []

pub holds : (d : List ℕ) (h : Head) (s n : ℕ) → Sheeted d h s n → Ok (laid h.format (size_of_head h) s) ≡ sheet_header d
unfolding sheet_header head_verdict
holds d h s n p =
    let b = p.shown.begins in
    let f : format_of (format_in (head_in d)) ≡ h.format = ap format_of b.format ∙ formatted h.format b.sound.known in
    sym
    (ap (λ (l : List ℕ). given (answer_of l) (sheet_layout d)) (p.shown.passes (0 ∷ said_of_head d))
    ∙ ap (λ (z : Format). Ok (laid z (size_in (head_in d)) (payload_at 15 (later (records_of d))))) f
    ∙ ap (λ (z : Picture). Ok (laid h.format z (payload_at 15 (later (records_of d))))) b.size
    ∙ ap (λ (z : ℕ). Ok (laid h.format (size_of_head h) z)) p.start)

pub refused : (d : List ℕ) (a : Refusal) → Refuses (walk d) a → Err a ≡ sheet_header d
unfolding sheet_header head_verdict
refused d a p =
    sym
    (ap (λ (z : List ℕ). given (answer_of z) (sheet_layout d)) (sym (p (0 ∷ said_of_head d)))
    ∙ ap (λ (x : Answer). given x (sheet_layout d)) (answered (Err a)))
