-- What follows from the promise of any reader, `Outcome`, whatever the verdict and whatever is painted.
-- Assumes nothing.
use mathlib.Core.Path.{◌≡◌, ◌∙◌, refl, sym, ap}
use mathlib.Core.Bool.{Bool, true, false, cond}
use mathlib.Core.List.{List}
use Prim.Native.Nat.{ℕ, ◌<◌}
use lib.ListN.{length, get_or}
use Rattle.rules.specs.Places.{painted}
use Rattle.rules.specs.Answers.{accepts, Outcome, said}
use Rattle.rules.specs.Answers.{Answer}
use Rattle.laws.proofs.Paint.{get_d_painted, length_painted}
use Rattle.laws.proofs.Unique.{answer}

-- two outcomes, each an answer and an image, are one
abbrev pub Same : Answer → Answer → List ℕ → List ℕ → Type 0
Same a b new new' = (a ≡ b) × (new ≡ new')

-- promises of one verdict and one picture have one outcome
module _ (verdict verdict' after after' old : List ℕ) (a b : Answer) (new new' : List ℕ) (e : verdict ≡ verdict') (f : after ≡ after') where
  pub same_outcome : Outcome verdict after a old new → Outcome verdict' after' b old new' → Same a b new new'
  same_outcome p q = (
    answer a b (p.says ∙ e ∙ sym q.says),
    p.leaves
        ∙ ap (λ (v : List ℕ). cond (accepts v) after old) e
        ∙ ap (λ (l : List ℕ). cond (accepts verdict') l old) f
        ∙ sym q.leaves,
  )

-- "a refusal alters no pixel" (demand 1), and this of every reader
pub a_refusal_alters_nothing : (verdict after old new : List ℕ) (a : Answer) → Outcome verdict after a old new → accepts (said a) ≡ false → new ≡ old
a_refusal_alters_nothing verdict after old new a p r =
    p.leaves ∙ ap (λ (t : Bool). cond t after old) (sym (ap accepts p.says) ∙ r)

-- and an answer of 0 means that the image is the painted one
pub an_acceptance_paints : (verdict after old new : List ℕ) (a : Answer) → Outcome verdict after a old new → accepts (said a) ≡ true → new ≡ after
an_acceptance_paints verdict after old new a p r =
    p.leaves ∙ ap (λ (t : Bool). cond t after old) (sym (ap accepts p.says) ∙ r)

module _ (P : ℕ → Bool) (v : ℕ → ℕ) (verdict image new : List ℕ) (a : Answer) (p : Outcome verdict (painted P v image) a image new) where
  -- the image keeps its length, whatever the answer
  pub the_length_stays : length new ≡ length image
  the_length_stays = ap length p.leaves ∙ kept (accepts verdict)
    where
      kept : (t : Bool) → length (cond t (painted P v image) image) ≡ length image
      kept true = length_painted P v image
      kept false = refl

  -- and every element that is not painted
  pub the_rest_stays : (k : ℕ) → k < length image → P k ≡ false → get_or new k 0 ≡ get_or image k 0
  the_rest_stays k h o = ap (λ (l : List ℕ). get_or l k 0) p.leaves ∙ kept (accepts verdict)
    where
      kept : (t : Bool) → get_or (cond t (painted P v image) image) k 0 ≡ get_or image k 0
      kept true = get_d_painted P v image k h ∙ ap (λ (t : Bool). cond t (v k) (get_or image k 0)) o
      kept false = refl
