-- No second outcome satisfies what a caller is told who lends the state of a picture in pieces: answer, arrays, counts and image are fixed.
-- Assumes nothing.
use mathlib.Core.Path.{◌≡◌, ◌∙◌, sym, ap}
use mathlib.Core.List.{List}
use Prim.Native.Nat.{ℕ}
use Rattle.rules.specs.Answers.{Answer}
use Rattle.rules.specs.declared.Format.{Format}
use Rattle.rules.specs.declared.Picture.{Picture}
use Rattle.rules.specs.declared.Progress.{Progress}
use Rattle.laws.proofs.Unique.{answer}
use Rattle.capi.specs.pieces_lent.Lent.{with_taken, StartLent, PieceLent}

pub start_lent : (f : Format) (p : Picture) (elements : ℕ) (a b : Answer) (n n' k k' : List ℕ)
    → StartLent f p elements a n k
    → StartLent f p elements b n' k'
    → (a ≡ b) × (n ≡ n') × (k ≡ k')
start_lent f p elements a b n n' k k' x y = (
  answer a b (x.starts.says ∙ sym y.starts.says),
  x.these ∙ sym y.these,
  ap (λ (q : Progress). q.kept) (x.starts.state ∙ sym y.starts.state),
)

pub piece_lent : (numbers kept e image : List ℕ) (a b : Answer) (n n' k k' : List ℕ) (painted painted' unused unused' : ℕ) (new new' : List ℕ)
    → PieceLent numbers kept e image a n k painted unused new
    → PieceLent numbers kept e image b n' k' painted' unused' new'
    → (a ≡ b) × (n ≡ n') × (k ≡ k') × (painted ≡ painted') × (unused ≡ unused') × (new ≡ new')
piece_lent numbers kept e image a b n n' k k' painted painted' unused unused' new new' x y =
    let s = x.takes.state ∙ sym y.takes.state in (
      answer a b (x.takes.says ∙ sym y.takes.says),
      x.only ∙ ap (λ (q : Progress). with_taken numbers q.taken) s ∙ sym y.only,
      ap (λ (q : Progress). q.kept) s,
      x.takes.painted ∙ sym y.takes.painted,
      x.takes.unused ∙ sym y.takes.unused,
      x.takes.leaves ∙ sym y.takes.leaves,
    )
