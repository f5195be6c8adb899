-- The state in the two arrays: what starting writes is the fresh one, and what a piece writes is the one after it.
-- Assumes nothing.
use mathlib.Core.Path.{◌≡◌, ◌∙◌, ap}
use mathlib.Core.List.{List, [], ◌∷◌}
use Prim.Native.Nat.{ℕ}
use Rattle.rules.specs.Pieces.{Starts}
use Rattle.rules.specs.FileFormats.{format_at_lem, format_number}
use Rattle.rules.specs.declared.Format.{Format}
use Rattle.rules.specs.declared.Picture.{Picture}
use Rattle.rules.specs.declared.Progress.{Progress}
use Rattle.rules.specs.declared.Started.{Started}
use Rattle.capi.specs.pieces_lent.Lent.{StartLent}
use Rattle.sheet.proofs.Formats.{of_number}

pub begun : (f : Format) (p : Picture) (n m : ℕ) (t : Started) → Starts f p n t → m ≡ format_number f → StartLent f p n t.answer (m ∷ p.width ∷ p.height ∷ p.pitch ∷ 0 ∷ []) t.progress.kept
begun f p n m t a e =
    record {
      starts =
          record {
            says = a.says;
            state =
                ap (λ (g : Format). make g t.progress.kept) (ap format_at_lem e ∙ of_number f)
                ∙ ap (make f) (ap (λ (q : Progress). q.kept) a.state);
          };
      these = ap (λ (x : ℕ). x ∷ p.width ∷ p.height ∷ p.pitch ∷ 0 ∷ []) e;
    }
  where
    make : Format → List ℕ → Progress
    make g k = record { format = g; picture = p; taken = 0; kept = k }
