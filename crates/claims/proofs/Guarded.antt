-- Demand 3 and M-109, over any guard: its number and the answer that names a block, its test, its own rule and the rule that is shown.
-- The checks before it are any list. Strict.antt and Opaque.antt have its two instances.
-- Assumes nothing.
use mathlib.Core.Path.{◌≡◌, ◌∙◌, sym, ap}
use mathlib.Core.Bool.{Bool, true, false, cond, true≢false}
use mathlib.Core.List.{List, [], ◌∷◌}
use Prim.Native.Nat.{ℕ, ◌%◌, ◌<◌, ◌≤◌}
use native.Mathlib.Omega.{arith}
use native.Mathlib.Decide.{dec_lt}
use borrow.Author.Tests.{ne_eqb}
use lib.Dec.{T, ltb}
use lib.ListN.{length, get_or}
use Rattle.rules.specs.Places.{inside, blocks, block_at, bytes_of, column, row, pixel_at, Alike}
use Rattle.rules.specs.Answers.{said, accepts, Check, verdict, first_of, guarded}
use Rattle.rules.specs.Formats.{size_of, shows_of}
use Rattle.rules.specs.Guards.{Guard, bad_at}
use Rattle.rules.specs.Readers.{picture_of, ReadsPicture, ReadsGuarded}
use Rattle.rules.specs.Answers.{Answer}
use Rattle.std.specs.Prelude.{Ok, Err}
use Rattle.rules.specs.declared.Picture.{Picture}
use Rattle.laws.proofs.First.{first, first_alike}
use Rattle.laws.proofs.Guards.{Sound, finds, finds_none}
use Rattle.laws.proofs.Judged.{numbered, goes_on}
use Rattle.laws.proofs.Paint.{get_d_painted}
use Rattle.laws.proofs.Unique.{answer}
use Rattle.picture.proofs.Guard.{agree}
use Rattle.claims.proofs.Outcomes.{a_refusal_alters_nothing, an_acceptance_paints}

-- some block of n meets a test, or none does: what the first place says of it
some : (bad : ℕ → Bool) (n k : ℕ) → k < n → bad k ≡ true → first_of bad n < n
some bad n k h b =
    elim (dec_lt (first_of bad n) n) [
      | yes q ↦ q
      | no q ↦ absurd (true≢false (sym b ∙ (first bad n).none k (omega (arith, q, (first bad n).within))))
    ]

none : (bad : ℕ → Bool) (n : ℕ) → ((k : ℕ) → k < n → bad k ≡ false) → n ≤ first_of bad n
none bad n f =
    elim (dec_lt (first_of bad n) n) [
      | yes q ↦ absurd (true≢false (sym ((first bad n).found q) ∙ f (first_of bad n) q))
      | no q ↦ omega (arith, q)
    ]

module _ (g : Guard) (sound : Sound g) (name : ℕ → Answer) (spoken : (n : ℕ) → said (name n) ≡ g.number ∷ n ∷ []) (d : List ℕ) (pic : Picture) (image : List ℕ) (a : Answer) (new : List ℕ) where
  -- the first block that must not be there was named, and nothing has changed
  pub record Refused : Type 0 where
    pub block : ℕ
    pub names : a ≡ name block
    pub within : block < blocks pic
    pub is_bad : bad_at g d block ≡ true
    pub is_first : (k : ℕ) → k < block → bad_at g d k ≡ false
    pub unchanged : new ≡ image

  -- the picture was painted by the rule that is shown, which is then its own rule too
  pub record Accepted : Type 0 where
    pub accepted : a ≡ (Ok tt)
    pub shows : new ≡ picture_of g.shown pic d image
    pub shows_own : new ≡ picture_of g.own pic d image

  -- "For sizes and lengths that pass the checks"
  module _ (checks : List Check) (numbers : T (numbered checks)) (p : ReadsGuarded g checks d pic image a new) (ok : 0 ∷ [] ≡ verdict checks) where
    -- then what the reader says is the guard's alone
    left : said a ≡ guarded g.number (bad_at g d) (blocks pic)
    left = p.says ∙ goes_on checks (guarded g.number (bad_at g d) (blocks pic)) numbers ok

    -- "refuses exactly when some block ..": where there is one, it refuses, "and it names the first such block"
    pub refuses_and_names_the_first : (n : ℕ) → n < blocks pic → bad_at g d n ≡ true → Refused
    refuses_and_names_the_first n h b =
        let l = some (bad_at g d) (blocks pic) n h b in
        let f = first (bad_at g d) (blocks pic) in
        let told : said a ≡ g.number ∷ first_of (bad_at g d) (blocks pic) ∷ [] = left ∙ finds g.number (bad_at g d) (blocks pic) l in
        record {
          block = first_of (bad_at g d) (blocks pic);
          names = answer a (name (first_of (bad_at g d) (blocks pic))) (told ∙ sym (spoken (first_of (bad_at g d) (blocks pic))));
          within = l;
          is_bad = f.found l;
          is_first = f.none;
          unchanged =
              a_refusal_alters_nothing _ _ image new a p
              (ap accepts told ∙ ne_eqb g.number 0 (λ z. omega (arith, z, sound.is_refusal)));
        }

    -- ".. exactly": where there is none, it accepts, and each pixel is as the rule that is shown gives it
    pub accepts_otherwise : ((n : ℕ) → n < blocks pic → bad_at g d n ≡ false) → Accepted
    accepts_otherwise f =
        let l = none (bad_at g d) (blocks pic) f in
        let e : a ≡ (Ok tt) = answer a (Ok tt) (left ∙ finds_none g.number (bad_at g d) (blocks pic) l) in
        let painted = an_acceptance_paints _ _ image new a p (ap (λ (x : Answer). accepts (said x)) e) in
        record { accepted = e; shows = painted; shows_own = painted ∙ sym (agree g sound pic d image l) }

-- What an older reader shows, that has no guard.
module _ (g : Guard) (sound : Sound g) (d : List ℕ) (pic : Picture) where
  -- at a pixel it is what the newer one shows, unless the pixel's own block is one that must not be there
  pub differs_only_there : (k : ℕ) → bad_at g d (block_at pic k) ≡ false → pixel_at (shows_of g.own) (size_of g.own) pic d k ≡ pixel_at (shows_of g.shown) (size_of g.shown) pic d k
  differs_only_there k e =
      sound.agree (bytes_of (size_of g.own) d (block_at pic k)) (column pic k % 4) (row pic k % 4) e
      ∙ ap (λ (s : ℕ). pixel_at (shows_of g.shown) s pic d k) sound.one_size

  -- so of pictures of the same bytes that both accept over one image, every element is the same outside the tiles of such blocks
  pub older_reader_differs_only_there : (image old new : List ℕ) (a b : Answer)
      → ReadsPicture g.own d pic image a old
      → ReadsPicture g.shown d pic image b new
      → accepts (said a) ≡ true
      → accepts (said b) ≡ true
      → (k : ℕ)
      → k < length image
      → bad_at g d (block_at pic k) ≡ false
      → get_or old k 0 ≡ get_or new k 0
  older_reader_differs_only_there image old new a b p q r t k l e =
      ap (λ (l : List ℕ). get_or l k 0) (an_acceptance_paints _ _ image old a p r)
      ∙ get_d_painted (inside pic) (pixel_at (shows_of g.own) (size_of g.own) pic d) image k l
      ∙ ap (λ (v : ℕ). cond (inside pic k) v (get_or image k 0)) (differs_only_there k e)
      ∙ sym (get_d_painted (inside pic) (pixel_at (shows_of g.shown) (size_of g.shown) pic d) image k l)
      ∙ sym (ap (λ (l : List ℕ). get_or l k 0) (an_acceptance_paints _ _ image new b q t))

-- what a guard says of inputs that agree on the blocks of a picture
pub guard_alike : (g : Guard) (d e : List ℕ) (pic : Picture) → Alike (size_of g.own) pic d e → guarded g.number (bad_at g d) (blocks pic) ≡ guarded g.number (bad_at g e) (blocks pic)
guard_alike g d e pic same =
    ap (λ (n : ℕ). cond (ltb n (blocks pic)) (g.number ∷ n ∷ []) (0 ∷ []))
    (first_alike (bad_at g d) (bad_at g e) (blocks pic) (λ n l. ap g.bad (same n l)))
