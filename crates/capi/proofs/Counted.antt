-- What a caller from C is told of a census that refuses, and of one that counts, with room for the counts or without.
-- Assumes nothing.
use mathlib.Core.Path.{◌≡◌, ◌∙◌, refl, sym, ap}
use mathlib.Core.Bool.{Bool, true, false, cond, true≢false}
use mathlib.Core.List.{List, [], ◌∷◌}
use Prim.Native.Nat.{ℕ}
use lib.Dec.{T, ltb}
use lib.ListN.{length, get_or, drop}
use Rattle.rules.specs.Places.{blocks, bytes_of}
use Rattle.rules.specs.Answers.{refusal_said, accepts, Check, judged, verdict}
use Rattle.rules.specs.Census.{Test, counts, census_checks, census}
use Rattle.rules.specs.declared.Refusal.{Refusal}
use Rattle.rules.specs.declared.Refusal.TheVariants.{ShortImage}
use Rattle.laws.proofs.Unique.{refusal}
use Rattle.std.specs.Prelude.{Ok, Err}
use Rattle.rules.specs.declared.Picture.{Picture}
use Rattle.laws.proofs.Judged.{Clear, numbered, all_pass, passed, halted}
use Rattle.laws.proofs.Outcome.{unchanged, done}
use Rattle.capi.specs.pictures.Told.{Told}
use Rattle.capi.specs.census_lent.Lays.{laid, Lays}
use Rattle.capi.specs.Census.{room_checks, LaidInto, CountsInto}

-- a refusal is the same whatever comes behind the checks, where what came there was none
halts : (cs : List Check) → T (numbered cs) → (v l m : List ℕ) → accepts v ≡ false → v ≡ judged cs (0 ∷ l) → v ≡ judged cs m
halts cs numbers v l m r e = decide (accepts (verdict cs)) refl
  where
    decide : (t : Bool) → accepts (verdict cs) ≡ t → v ≡ judged cs m
    decide true q = absurd (true≢false (sym (ap accepts (e ∙ all_pass cs (0 ∷ l) (passed cs (0 ∷ []) numbers q))) ∙ r))
    decide false q = e ∙ sym (halted cs (0 ∷ l) q) ∙ halted cs m q

-- and what is counted has passed them
counted : (cs : List Check) → T (numbered cs) → (l k : List ℕ) → 0 ∷ l ≡ judged cs (0 ∷ k) → Clear cs
counted cs numbers l k e = passed cs (0 ∷ k) numbers (sym (ap accepts e))

length_counts : (block : ℕ → List ℕ) (n : ℕ) (tests : List Test) → length (counts block n tests) ≡ length tests
length_counts block n [] = refl
length_counts block n (test ∷ tests) = simp (length_counts block n tests)

-- n counts that are due, over what they count
module _ (n : ℕ) (due d : List ℕ) (p : Picture) (room : List ℕ) where
  abbrev checks : List Check
  checks = census_checks p (length d)

  -- what is told of a room that is left so
  abbrev Tells : List ℕ → ℕ → Type 0
  Tells new number = Told (λ b. LaidInto n due d p room b new) number

  pub refused : (r : Refusal) (number : ℕ) → refusal_said r ≡ judged checks (0 ∷ due) → number ≡ get_or (refusal_said r) 0 0 → Tells room number
  refused r number e n =
      record {
        answer = Err r;
        reads = unchanged _ _ room (Err r) (halts checks tt (refusal_said r) due _ (refusal r) e) (refusal r);
        says = n;
      }

  -- room for the counts, or not
  module _ (long : length due ≡ n) (l : List ℕ) (c : 0 ∷ l ≡ judged checks (0 ∷ due)) where
    same : l ≡ due
    same = ap (drop 1) (c ∙ all_pass checks (0 ∷ due) (counted checks tt l due c))

    says : (s : Bool) → ltb (length room) (length l) ≡ s → cond s (3 ∷ []) (0 ∷ []) ≡ verdict (room_checks n p (length d) (length room))
    says s h =
        let e : ltb (length room) n ≡ s = ap (ltb (length room)) (sym (ap length same ∙ long)) ∙ h in
        ap (λ (t : Bool). cond t (3 ∷ []) (0 ∷ [])) (sym e) ∙ sym (all_pass checks _ (counted checks tt l due c))

    fits : (s : Bool) → ltb (length room) (length l) ≡ s → Tells (cond s room (laid l room)) (cond s 3 0)
    fits true h = record { answer = Err ShortImage; reads = unchanged _ _ room (Err ShortImage) (says true h) refl; says = refl }
    fits false h =
        record { answer = (Ok tt); reads = done _ _ room (laid l room) (says false h) (ap (λ (z : List ℕ). laid z room) same); says = refl }

    pub lays : (number : ℕ) (new : List ℕ) → Lays l room number new → Tells new number
    lays number new r = rw (r.says, r.leaves) (fits (ltb (length room) (length l)) refl)

-- a census counts as often as it has tests
module _ (tests : List Test) (d : List ℕ) (p : Picture) (room : List ℕ) where
  abbrev due_of : List ℕ
  due_of = counts (bytes_of 8 d) (blocks p) tests

  pub census_refused : (r : Refusal) (number : ℕ) → refusal_said r ≡ census tests d p → number ≡ get_or (refusal_said r) 0 0
      → Told (λ b. CountsInto tests d p room b room) number
  census_refused = refused (length tests) due_of d p room

  pub census_lays : (l : List ℕ) → 0 ∷ l ≡ census tests d p → (number : ℕ) (new : List ℕ) → Lays l room number new → Told (λ b. CountsInto tests d p room b new) number
  census_lays = lays (length tests) due_of d p room (length_counts (bytes_of 8 d) (blocks p) tests)
