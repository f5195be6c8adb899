-- No second outcome satisfies a reader's promise. The promise is `Outcome`, whatever the verdict and the picture, so this one
-- lemma serves every reader. What is known of each answer by itself stands here alone: it is looked up in the list of answers.
-- Assumes nothing.
use mathlib.Core.Path.{◌≡◌, ◌∙◌, refl, sym, ap}
use mathlib.Core.Bool.{Bool, true, false, true≢false}
use mathlib.Core.List.{List, [], ◌∷◌}
use Prim.Native.Nat.{ℕ}
use lib.Dec.{eqb}
use lib.ListN.{length, get_or}
use borrow.Author.Tests.{eqb-true}
use Rattle.std.specs.Prelude.{Result, Ok, Err}
use Rattle.rules.specs.Answers.{Answer, refusal_said, said_with, given, said, answers, find_answer, answer_of, accepts, Outcome}
use Rattle.rules.specs.declared.Refusal.{Refusal}
use Rattle.rules.specs.declared.Refusal.TheVariants.{TooLarge, ShortData, ShortImage, OutOfRange, NoChannel, LongData, CutShort, NoHead, OtherKind, WrongBlocks, NotOpaque, ShortPitch}
use Rattle.rules.specs.declared.Refusal.TheVariants.{HeaderCut, UnknownContainer, UnknownVersion, UnknownFormat, SizesDisagree, NotFlat, NoPixel, LevelsMissing, NoLevel, Supercompressed}

-- every answer is the one that says what it says
pub answered : (a : Answer) → answer_of (said a) ≡ a
answered (Ok tt) = refl
answered (Err TooLarge) = refl
answered (Err ShortData) = refl
answered (Err ShortImage) = refl
answered (Err (OutOfRange n)) = refl
answered (Err NoChannel) = refl
answered (Err LongData) = refl
answered (Err CutShort) = refl
answered (Err NoHead) = refl
answered (Err OtherKind) = refl
answered (Err WrongBlocks) = refl
answered (Err (NotOpaque n)) = refl
answered (Err ShortPitch) = refl
answered (Err HeaderCut) = refl
answered (Err UnknownContainer) = refl
answered (Err UnknownVersion) = refl
answered (Err UnknownFormat) = refl
answered (Err SizesDisagree) = refl
answered (Err NotFlat) = refl
answered (Err NoPixel) = refl
answered (Err LevelsMissing) = refl
answered (Err NoLevel) = refl
answered (Err Supercompressed) = refl

-- the answer is fixed by what it says on paper
pub answer : (a b : Answer) → said a ≡ said b → a ≡ b
answer a b e = sym (answered a) ∙ ap answer_of e ∙ answered b

-- the only answer with number 0 is "done"
pub only_done : (a : Answer) → accepts (said a) ≡ true → a ≡ Ok tt
only_done a e = sym (answered a) ∙ ap (λ (n : ℕ). find_answer answers n (get_or (said a) 1 0)) (eqb-true (get_or (said a) 0 0) 0 e)

-- so an error is a refusal
pub refusal : (r : Refusal) → accepts (said (Err r)) ≡ false
refusal r = decide (accepts (said (Err r))) refl
  where
    is_done : Answer → Bool
    is_done (Ok u) = true
    is_done (Err e) = false

    decide : (b : Bool) → accepts (said (Err r)) ≡ b → b ≡ false
    decide true e = absurd (true≢false (sym (ap is_done (only_done (Err r) e))))
    decide false e = refl

-- what is handed out with an answer is fixed too, where its values say what it is
module _ {A : Type 0} (values : A → List ℕ) (back : List ℕ → A) (is_back : (a : A) → back (values a) ≡ a) where
  tail : List ℕ → List ℕ
  tail [] = []
  tail (x ∷ l) = l

  result_of : List ℕ → Result A Refusal
  result_of l = given (answer_of l) (back (tail l))

  said_back : (r : Result A Refusal) → result_of (said_with values r) ≡ r
  unfolding result_of tail
  said_back (Ok a) = ap (λ (x : A). Ok x) (is_back a)
  said_back (Err e) = ap (λ (x : Answer). given x (back (tail (refusal_said e)))) (answered (Err e))

  pub one_result : (r s : Result A Refusal) → said_with values r ≡ said_with values s → r ≡ s
  one_result r s e = sym (said_back r) ∙ ap result_of e ∙ said_back s

-- and so the whole outcome is
pub no_second_outcome : (verdict after old : List ℕ) (a b : Answer) (new new' : List ℕ) → Outcome verdict after a old new → Outcome verdict after b old new' → (a ≡ b) × (new ≡ new')
no_second_outcome verdict after old a b new new' p q =
    (answer a b (p.says ∙ sym q.says), p.leaves ∙ sym q.leaves)
