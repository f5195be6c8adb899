-- What the writer owes where it refuses, and where it is done.
-- Assumes nothing.
use mathlib.Core.Path.{◌≡◌, ◌∙◌, sym, ap}
use mathlib.Core.Bool.{Bool, cond}
use mathlib.Core.List.{List}
use Prim.Native.Nat.{ℕ, ◌+◌}
use lib.ListN.{length}
use Rattle.rules.specs.Answers.{said, refusal_said, accepts}
use Rattle.rules.specs.declared.Refusal.{Refusal}
use Rattle.laws.proofs.Unique.{refusal}
use Rattle.std.specs.Prelude.{Ok, Err}
use Rattle.rules.specs.declared.Picture.{Picture}
use Rattle.laws.proofs.Outcome.{unchanged, done}
use Rattle.rules.specs.Sheets.{sheet_of, write_verdict, sheet_over, WritesSheet}
use Rattle.sheet.proofs.Checks.{sheet_length}

module _ (f : ℕ) (p : Picture) (b out : List ℕ) where
  abbrev verdict : List ℕ
  verdict = write_verdict f p b (length out)

  pub refuses : (a : Refusal) → refusal_said a ≡ verdict → WritesSheet f p b out (Err a) out
  refuses a e =
      record {
        outcome = unchanged verdict (sheet_over f p b out) out (Err a) e (refusal a);
        bytes = sym (ap (λ (t : Bool). cond t (length (sheet_of f p b)) 0) (sym (ap accepts e) ∙ refusal a));
      }

  pub writes : (new : List ℕ) → said (Ok tt) ≡ verdict → new ≡ sheet_over f p b out → WritesSheet f p b out (Ok (21 + length b)) new
  writes new e i =
      record {
        outcome = done verdict (sheet_over f p b out) out new e i;
        bytes =
            sym (sheet_length f p b) ∙ ap (λ (v : List ℕ). cond (accepts v) (length (sheet_of f p b)) 0) e;
      }
