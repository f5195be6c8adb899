-- What the baker's promise means to a user, with nothing left to look up.
-- Assumes nothing.
use mathlib.Core.Path.{◌≡◌, ◌∙◌, refl, sym, ap, subst}
use mathlib.Core.Bool.{Bool, true, false, cond}
use mathlib.Core.List.{List, [], ◌∷◌}
use Prim.Native.Nat.{ℕ, zero, suc, ◌/◌, ◌%◌, ◌<◌, ◌≤◌}
use native.Mathlib.Omega.{arith}
use borrow.Author.Tests.{ltb-false}
use lib.Dec.{eqb, ltb, leb}
use lib.ListN.{length, get_or, take, drop}
use lib.Seq.{take_at, drop_at}
use Rattle.std.specs.Prelude.{Result, Ok, Err, ⊤}
use Rattle.rules.specs.Answers.{accepts}
use Rattle.rules.specs.Colour.{index, code, differs, flipped, individual, unused, out_of_range_lem}
use Rattle.rules.specs.Checking.{cost, largest, check_verdict, baking_said, Checks}
use Rattle.rules.specs.Baking.{seventeen, half_of, block_with, baked_block, above, no_base, eight_over, Bakes}
use Rattle.rules.specs.declared.BakingRefusal.{BakingRefusal}
use Rattle.rules.specs.declared.BakingRefusal.TheVariants.{ShortBlock, ShortTile, NoBase, NotAccepted}
use Rattle.bake.specs.baking.Four.{Four}
use Rattle.bake.proofs.baking.Bases.{none, four}
use Rattle.bake.proofs.baking.Block.{Legal, Reads, reads_back, small_half}
use Rattle.claims.proofs.Least.{codes_of, indices_of, baked_reads, baked_in_range, least_of_all, lower_code, lower_index}
use Rattle.claims.proofs.Checker.{nonzero, from_the_largest_on}

sorted : (a b c : Bool) → ◌≡◌ {A = List ℕ} (0 ∷ []) (cond a (16 ∷ []) (cond b (2 ∷ []) (cond c (3 ∷ []) (0 ∷ [])))) → (a ≡ false) × (b ≡ false) × (c ≡ false)
sorted true b c e = absurd (nonzero 15 e)
sorted false true c e = absurd (nonzero 1 e)
sorted false false true e = absurd (nonzero 2 e)
sorted false false false e = (refl, refl, refl)

-- an individual block of these bases and this flip
pub record Allowed (first second : List ℕ) (flip : ℕ) (d : List ℕ) : Type 0 where
  pub alone : differs d ≡ false
  pub flips : flipped d ≡ eqb flip 1
  pub bases : individual d ≡ seventeen first ∷ seventeen second ∷ unused ∷ []

-- it has its own codes and indices
abbrev pub index_of : List ℕ → ℕ → ℕ
index_of d k = index d (k % 4) (k / 4)

own_reads : {first second : List ℕ} {flip : ℕ} {d : List ℕ} → Allowed first second flip d → Reads first second flip (code d) (index_of d) d
own_reads p = record { alone = p.alone; flips = p.flips; bases = p.bases; coded = λ h m. refl; indexed = λ k m. refl }

own_legal : (d : List ℕ) → Legal (code d) (index_of d)
own_legal d = record { coded = by; indexed = λ k m. omega arith }
  where
    by : (h : ℕ) → h < 2 → code d h < 8
    by zero m = omega arith
    by (suc h) m = omega arith

module _ (first second : List ℕ) (flip : ℕ) (t old new : List ℕ) (p : Bakes first second flip t (Ok tt) old new) where
  checks : (no_base first second flip ≡ false) × (ltb (length old) 8 ≡ false) × (ltb (length t) 16 ≡ false)
  checks = sorted (no_base first second flip) (ltb (length old) 8) (ltb (length t) 16) p.says

  bad : (above first ≡ false) × (above second ≡ false) × (ltb 1 flip ≡ false)
  bad = none (above first) (above second) (ltb 1 flip) checks.0

  a : Four first
  a = four first bad.0

  b : Four second
  b = four second bad.1

  f : flip < 2
  f = omega (arith, ltb-false 1 flip bad.2)

  whole : 16 ≤ length t
  whole = ltb-false (length t) 16 checks.2

  -- the block that was written
  abbrev pub block : List ℕ
  block = take 8 new

  written : new ≡ eight_over (baked_block first second flip t) old
  written =
      p.leaves
      ∙ rw (checks.0, checks.1, checks.2)

  pub the_block : block ≡ baked_block first second flip t
  unfolding block_with
  the_block = ap (take 8) written ∙ take_at (baked_block first second flip t) (drop 8 old) 8 refl

  -- "it writes 8 bytes only"
  pub eight_bytes_only : drop 8 new ≡ drop 8 old
  unfolding block_with
  eight_bytes_only = ap (drop 8) written ∙ drop_at (baked_block first second flip t) (drop 8 old) 8 refl

  -- it is individual, of these bases and this flip, and in range
  pub it_is_allowed : Allowed first second flip block
  it_is_allowed =
      let r = baked_reads first second flip t a b f in
      subst (Allowed first second flip) (sym the_block) (record { alone = r.alone; flips = r.flips; bases = r.bases })

  pub it_is_in_range : out_of_range_lem block ≡ false
  it_is_in_range = ap out_of_range_lem the_block ∙ baked_in_range first second flip t a b f

  -- its codes and indices are the chosen ones
  pub its_codes : (h : ℕ) → h < 2 → code block h ≡ codes_of first second flip t h
  its_codes h m = ap (λ (l : List ℕ). code l h) the_block ∙ (baked_reads first second flip t a b f).coded h m

  pub its_indices : (k : ℕ) → k < 16 → index_of block k ≡ indices_of first second flip t k
  its_indices k m = ap (λ (l : List ℕ). index_of l k) the_block ∙ (baked_reads first second flip t a b f).indexed k m

  sum : cost block t ≡ cost (baked_block first second flip t) t
  sum = ap (λ (l : List ℕ). cost l t) the_block

  -- no individual block of these bases and this flip has a lesser sum
  module _ (d : List ℕ) (q : Allowed first second flip d) where
    pub no_lesser_block : cost block t ≤ cost d t
    no_lesser_block = omega (arith, sum, least_of_all first second flip t a b f (code d) (index_of d) (own_legal d) d (own_reads q))

    -- and of one with the same sum, no code is lower, and where a half's code is the same, no index of it
    module _ (tie : cost d t ≡ cost block t) where
      even : cost d t ≤ cost (baked_block first second flip t) t
      even = omega (arith, tie, sum)

      pub no_lower_code : (h : ℕ) → h < 2 → code block h ≤ code d h
      no_lower_code h m = omega (arith, its_codes h m, lower_code first second flip t a b f (code d) (index_of d) (own_legal d) d (own_reads q) even h m)

      pub no_lower_index : (k : ℕ) → k < 16 → code d (half_of flip k) ≡ code block (half_of flip k) → index_of block k ≤ index_of d k
      no_lower_index k m e =
          omega (arith, its_indices k m, lower_index first second flip t a b f (code d) (index_of d) (own_legal d) d (own_reads q) even k m (e ∙ its_codes (half_of flip k) (small_half flip k m)))

  -- the same over every choice of codes and indices
  pub no_lesser_choice : (codes indices : ℕ → ℕ) → Legal codes indices → cost block t ≤ cost (block_with first second flip codes indices) t
  no_lesser_choice codes indices l =
      omega (arith, sum, least_of_all first second flip t a b f codes indices l (block_with first second flip codes indices) (reads_back first second flip codes indices a b f l))

  -- the checker accepts it exactly for tolerances from the largest difference of its channels on
  pub accepted_from_the_largest_on : (tolerance : ℕ) → check_verdict tolerance block t ≡ cond (leb (largest block t) tolerance) (0 ∷ []) (18 ∷ [])
  unfolding block_with
  accepted_from_the_largest_on tolerance =
      from_the_largest_on tolerance block t (omega (arith, ap length the_block)) whole it_is_in_range

-- the answer that says a number
answers : List (Result ⊤ BakingRefusal)
answers = Ok tt ∷ Err ShortBlock ∷ Err ShortTile ∷ Err NoBase ∷ Err NotAccepted ∷ []

answer_of : List (Result ⊤ BakingRefusal) → List ℕ → Result ⊤ BakingRefusal
answer_of [] l = Ok tt
answer_of (a ∷ rest) l = cond (eqb (get_or (baking_said a) 0 0) (get_or l 0 0)) a (answer_of rest l)

answered : (a : Result ⊤ BakingRefusal) → answer_of answers (baking_said a) ≡ a
unfolding answer_of answers
answered (Ok tt) = refl
answered (Err ShortBlock) = refl
answered (Err ShortTile) = refl
answered (Err NoBase) = refl
answered (Err NotAccepted) = refl

only_answer : (a b : Result ⊤ BakingRefusal) → baking_said a ≡ baking_said b → a ≡ b
only_answer a b e = sym (answered a) ∙ ap (answer_of answers) e ∙ answered b

-- no second outcome satisfies the promise of the checker, or that of the baker
pub check_determined : (tolerance : ℕ) (d t : List ℕ) (a b : Result ⊤ BakingRefusal) → Checks tolerance d t a → Checks tolerance d t b → a ≡ b
check_determined tolerance d t a b p q = only_answer a b (p ∙ sym q)

pub bake_determined : (first second : List ℕ) (flip : ℕ) (t : List ℕ) (a b : Result ⊤ BakingRefusal) (old new new' : List ℕ)
    → Bakes first second flip t a old new → Bakes first second flip t b old new' → (a ≡ b) × (new ≡ new')
bake_determined first second flip t a b old new new' p q =
    (only_answer a b (p.says ∙ sym q.says), p.leaves ∙ sym q.leaves)

-- "writing nothing"
pub a_refusal_writes_nothing : (first second : List ℕ) (flip : ℕ) (t : List ℕ) (a : Result ⊤ BakingRefusal) (old new : List ℕ)
    → Bakes first second flip t a old new → accepts (baking_said a) ≡ false → new ≡ old
a_refusal_writes_nothing first second flip t a old new p r =
    p.leaves ∙ ap (λ (x : Bool). cond x (eight_over (baked_block first second flip t) old) old) (sym (ap accepts p.says) ∙ r)
