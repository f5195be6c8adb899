-- One more place compared; what is compared; and that nothing is found where two rules agree.
-- Assumes nothing.
use mathlib.Core.Path.{◌≡◌, ◌∙◌, refl, sym}
use mathlib.Core.Bool.{Bool, true, false, cond, ◌&&◌}
use Prim.Native.Nat.{ℕ, zero, suc, ◌+◌, ◌<◌, ◌≤◌, max}
use native.Mathlib.Numerals.{add-one}
use mir.Val.{bool_byte}
use native.Mathlib.Omega.{arith}
use borrow.Author.Tests.{eq-eqb}
use Rattle.rules.specs.Pixel.{alpha_of}
use Rattle.rules.specs.Answers.{first_of}
use Rattle.rules.specs.Census.{more, count_of}
use Rattle.rules.specs.Counting.{most_of}
use Rattle.rules.specs.Checking.{apart, farthest}
use Rattle.laws.proofs.First.{first, only, first_alike}
use Rattle.laws.proofs.Counts.{same_below, nowhere}
use Rattle.rules.specs.Older.{wrong, colour_off_lem, alpha_off_lem}
use Rattle.older.specs.Compared.{Compared, Finds}
use Rattle.older.specs.declared.Found.{Found}

-- a count is at most the number of places
pub more_most : (t : Bool) (n k : ℕ) → n ≤ k → more t n ≤ k + 1
more_most true n k h = omega arith
more_most false n k h = omega arith

-- one more where a test holds is the sum with 1 or 0
pub one_or_none : (t : Bool) (n r : ℕ) → r ≡ bool_byte t → n + r ≡ more t n
one_or_none true n r e = omega (arith, e)
one_or_none false n r e = omega (arith, e)

module _ (shown : ℕ → Bool) (old new : ℕ → ℕ) where
  pub begin : Compared shown old new 0 0 0 0
  unfolding count_of most_of
  begin = record { few = omega arith; counted = refl; farthest = refl; clearest = refl }

  pub turn : (k n c a : ℕ) (w : Bool) (n' c' a' : ℕ) → Compared shown old new k n c a
      → w ≡ wrong shown old new k
      → n' ≡ more w n
      → c' ≡ max (cond w (farthest (old k) (new k)) 0) c
      → a' ≡ max (cond w (apart (alpha_of (old k)) (alpha_of (new k))) 0) a
      → Compared shown old new (k + 1) n' c' a'
  unfolding count_of most_of
  turn k n c a w n' c' a' p e en ec ea =
      rw (add-one k)
      (record {
        few = let h = more_most w n k p.few in omega (arith, h, en);
        counted = rw (en, e, p.counted);
        farthest = rw (ec, e, p.farthest);
        clearest = rw (ea, e, p.clearest);
      })

-- what is compared is what stands at each place
most_alike : (f g : ℕ → ℕ) (n : ℕ) → ((k : ℕ) → k < n → f k ≡ g k) → most_of f n ≡ most_of g n
unfolding most_of
most_alike f g zero h = refl
most_alike f g (suc n) h = rw (h n (omega arith), most_alike f g n (λ k l. h k (omega arith)))

module _ (shown shown' : ℕ → Bool) (old old' new new' : ℕ → ℕ)
    (s : (k : ℕ) → k < 16 → shown k ≡ shown' k) (o : (k : ℕ) → k < 16 → old k ≡ old' k) (w : (k : ℕ) → k < 16 → new k ≡ new' k) where
  pub alike : (f : Found) → Finds shown old new f → Finds shown' old' new' f
  alike f q =
      record {
        all =
            record {
              few = q.all.few;
              counted = q.all.counted ∙ same_below (wrong shown old new) (wrong shown' old' new') 16 (λ k l. rw (s k l, o k l, w k l));
              farthest = q.all.farthest ∙ most_alike (colour_off_lem shown old new) (colour_off_lem shown' old' new') 16 (λ k l. rw (s k l, o k l, w k l));
              clearest = q.all.clearest ∙ most_alike (alpha_off_lem shown old new) (alpha_off_lem shown' old' new') 16 (λ k l. rw (s k l, o k l, w k l));
            };
        first = q.first ∙ first_alike (wrong shown old new) (wrong shown' old' new') 16 (λ k l. rw (s k l, o k l, w k l));
      }

-- where two rules agree, nothing is wrong
neither : (t : Bool) → (t && false) ≡ false
neither true = refl
neither false = refl

zeros : (n : ℕ) → most_of (λ k. 0) n ≡ 0
unfolding most_of
zeros zero = refl
zeros (suc n) = rw (zeros n)

module _ (shown : ℕ → Bool) (old new : ℕ → ℕ) (same : (k : ℕ) → old k ≡ new k) where
  right : (k : ℕ) → wrong shown old new k ≡ false
  right k = rw (eq-eqb (old k) (new k) (same k)) (neither (shown k))

  pub nothing : Finds shown old new (record { pixels = 0; place = 16; colour = 0; alpha = 0 })
  nothing =
      record {
        all =
            record {
              few = omega arith;
              counted = sym (nowhere (wrong shown old new) 16 (λ k l. right k));
              farthest = sym (most_alike (colour_off_lem shown old new) (λ k. 0) 16 (λ k l. rw (right k)) ∙ zeros 16);
              clearest = sym (most_alike (alpha_off_lem shown old new) (λ k. 0) 16 (λ k l. rw (right k)) ∙ zeros 16);
            };
        first =
            only (wrong shown old new) 16 16 (first_of (wrong shown old new) 16)
            (record { within = omega arith; found = λ l. absurd (omega (arith, l)); none = λ k l. right k })
            (first (wrong shown old new) 16);
      }
