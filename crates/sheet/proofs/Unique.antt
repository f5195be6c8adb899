-- What a sheet tells, and what its writer answers, is fixed by what is said on paper.
-- Assumes nothing.
use mathlib.Core.Path.{◌≡◌, ◌∙◌, refl, sym, ap}
use mathlib.Core.Bool.{true≢false}
use mathlib.Core.List.{List}
use Prim.Native.Nat.{ℕ}
use lib.ListN.{get_or}
use Rattle.std.specs.Prelude.{Result, Ok, Err}
use Rattle.std.specs.Result.{result_unwrap_or}
use Rattle.rules.specs.Answers.{Answer, answered, given, accepts}
use Rattle.rules.specs.FileFormats.{format_number, format_at_lem}
use Rattle.rules.specs.declared.Format.{Format}
use Rattle.rules.specs.declared.Format.TheVariants.{Etc1}
use Rattle.rules.specs.declared.Head.{Head}
use Rattle.rules.specs.declared.Picture.{Picture}
use Rattle.rules.specs.declared.Refusal.{Refusal}
use Rattle.laws.proofs.Unique.{answer, refusal, no_second_outcome}
use Rattle.rules.specs.Sheets.{told, TellsHead, WritesSheet}
use Rattle.sheet.proofs.Formats.{of_number}

-- a head says 0, and a refusal says another number
pub differ : (h : Head) (a : Refusal) → told (Ok h) ≡ told (Err a) → ⊥
differ h a e = true≢false (ap accepts e ∙ refusal a)

one : (s t : Result Head Refusal) → told s ≡ told t → s ≡ t
one (Ok h) (Ok k) e =
    let at : Head → Head = λ z. record { format = format_at_lem (format_number z.format); width = z.width; height = z.height } in
    let same : at h ≡ at k = ap (λ (l : List ℕ). record { format = format_at_lem (get_or l 1 0); width = get_or l 2 0; height = get_or l 3 0 }) e in
    let back : (z : Head) → at z ≡ z = λ z. ap (λ (f : Format). record { format = f; width = z.width; height = z.height }) (of_number z.format) in
    ap (λ (z : Head). Ok z) (sym (back h) ∙ same ∙ back k)
one (Ok h) (Err a) e = absurd (differ h a e)
one (Err a) (Ok h) e = absurd (differ h a (sym e))
one (Err a) (Err b) e =
    ap (λ (x : Answer). given x (record { format = Etc1; width = 0; height = 0 })) (answer (Err a) (Err b) e)

pub one_head : (d : List ℕ) (s t : Result Head Refusal) → TellsHead d s → TellsHead d t → s ≡ t
one_head d s t p q = one s t (p ∙ sym q)

-- what is written is the answer, and the number of bytes
whole : (r : Result ℕ Refusal) → given (answered r) (result_unwrap_or r 0) ≡ r
whole (Ok n) = refl
whole (Err a) = refl

pub one_written : (f : ℕ) (p : Picture) (b out : List ℕ) (r s : Result ℕ Refusal) (new new' : List ℕ) → WritesSheet f p b out r new → WritesSheet f p b out s new' → (r ≡ s) × (new ≡ new')
one_written f p b out r s new new' x y =
    let same = no_second_outcome _ _ out (answered r) (answered s) new new' x.outcome y.outcome in (
      sym (whole r)
          ∙ ap (λ (a : Answer). given a (result_unwrap_or r 0)) same.0
          ∙ ap (λ (n : ℕ). given (answered s) n) (x.bytes ∙ sym y.bytes)
          ∙ whole s,
      same.1,
    )
