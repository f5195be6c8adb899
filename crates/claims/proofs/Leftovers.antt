-- M-107: strict ETC1 and bytes behind the blocks. It accepts only an exact length, answers 6 exactly where there are more bytes than the
-- blocks need and 1, 12 and 2 are not due, and so never accepts a file of 16-byte blocks that is called ETC1.
-- Assumes nothing.
use mathlib.Core.Path.{◌≡◌, ◌∙◌, refl, sym, ap}
use mathlib.Core.Bool.{Bool, true, false, cond}
use mathlib.Core.List.{List, [], ◌∷◌}
use Prim.Native.Nat.{ℕ, ◌*◌, ◌<◌, ◌≤◌}
use native.Mathlib.Omega.{arith}
use native.Mathlib.Nat.{zero-mul}
use native.Mathlib.Decide.{dec_lt}
use borrow.Author.Tests.{lt-ltb, le-ltb, ltb-true}
use lib.Dec.{ltb}
use lib.ListN.{length, get_or}
use Rattle.rules.specs.Places.{needed, blocks}
use Rattle.rules.specs.Answers.{said, accepts, over_limit_lem, verdict, data_check, leftover_check, first_of, guarded}
use Rattle.rules.specs.Formats.{size_of}
use Rattle.rules.specs.Guards.{in_range, bad_at}
use Rattle.rules.specs.Readers.{strict_checks, ReadsPicture, ReadsStrict}
use Rattle.rules.specs.Answers.{Answer}
use Rattle.rules.specs.declared.Refusal.TheVariants.{LongData}
use Rattle.std.specs.Prelude.{Ok, Err}
use Rattle.rules.specs.declared.Format.{Format}
use Rattle.rules.specs.declared.Picture.{Picture}
use Rattle.laws.proofs.Guards.{finds, finds_none}
use Rattle.laws.proofs.Unique.{answer}
use Rattle.checks.specs.Passed.{Passed}
use Rattle.checks.proofs.Checks.{passed_by_lem, exact_length}
use Rattle.claims.proofs.Outcomes.{Same, a_refusal_alters_nothing}
use Rattle.claims.proofs.Alike.{none_left}
use Rattle.claims.proofs.Pictures.{Empty, no_blocks}
use Rattle.claims.proofs.Strict.{strict_changes_nothing_of_an_empty_picture}

-- 2 and 6 are never both due, so that nobody can see which of them is tested first
pub never_both_due : (most bytes : ℕ) → (data_check most bytes).fails ≡ true → (leftover_check most bytes).fails ≡ false
never_both_due most bytes e = le-ltb most bytes (omega (arith, ltb-true bytes most e))

-- "Demand 3's premise, and M-100's sentence about strict, then include an exact data length."
pub the_checks_pass_only_at_the_exact_length : (d : List ℕ) (pic : Picture) (image : List ℕ) → 0 ∷ [] ≡ verdict (strict_checks pic d image) → length d ≡ blocks pic * 8
the_checks_pass_only_at_the_exact_length d pic image ok =
    exact_length 8 pic (length d) (length image) (0 ∷ []) (sym (ap accepts ok))

-- the verdict where 6 is the first check that fails
sixth : (sides pitch short long : Bool) (rest : List ℕ) → sides ≡ false → pitch ≡ false → short ≡ false → long ≡ true
    → cond sides (1 ∷ []) (cond pitch (12 ∷ []) (cond short (2 ∷ []) (cond long (6 ∷ []) rest))) ≡ 6 ∷ []
sixth sides pitch short long rest e f g h = rw (e, f, g, h)

-- and where it is not among them
not_six : (sides pitch short room : Bool) (then : List ℕ) → (get_or then 0 0 ≡ 6 → ⊥)
    → get_or (cond sides (1 ∷ []) (cond pitch (12 ∷ []) (cond short (2 ∷ []) (cond room (3 ∷ []) then)))) 0 0 ≡ 6 → ⊥
not_six true pitch short room then other e = omega (arith, e)
not_six false true short room then other e = omega (arith, e)
not_six false false true room then other e = omega (arith, e)
not_six false false false true then other e = omega (arith, e)
not_six false false false false then other e = other e

guard_not_six : (test : ℕ → Bool) (n : ℕ) → get_or (guarded 4 test n) 0 0 ≡ 6 → ⊥
guard_not_six test n e =
    elim (dec_lt (first_of test n) n) [
      | yes h ↦ omega (arith, e, ap (λ (l : List ℕ). get_or l 0 0) (finds 4 test n h))
      | no h ↦ omega (arith, e, ap (λ (l : List ℕ). get_or l 0 0) (finds_none 4 test n (omega (arith, h))))
    ]

-- sixteen bytes a block are more than eight, unless there is no block
more_than_eight : (n long : ℕ) → n * 16 ≤ long → 0 < n → n * 8 < long
more_than_eight n long h some = omega (arith, h, some)

module _ (d : List ℕ) (pic : Picture) (image : List ℕ) (a : Answer) (new : List ℕ) (p : ReadsStrict d pic image a new) where
  -- what is asked after the checks
  abbrev then : List ℕ
  then = guarded 4 (bad_at in_range d) (blocks pic)

  -- an accepted picture has as many bytes as its blocks need
  pub strict_accepts_only_the_exact_length : a ≡ (Ok tt) → length d ≡ blocks pic * 8
  strict_accepts_only_the_exact_length e =
      exact_length 8 pic (length d) (length image) then (sym (ap accepts p.says) ∙ ap (λ (x : Answer). accepts (said x)) e)

  -- "the strict reader refuses with 6 when there are more bytes than the blocks need", where 1 and 12 are not due; nothing changes
  pub strict_refuses_leftovers : over_limit_lem pic ≡ false → pic.width ≤ pic.pitch → blocks pic * 8 < length d → Same a (Err LongData) new image
  strict_refuses_leftovers t i l =
      let told : said a ≡ 6 ∷ [] =
      p.says
      ∙ sixth (over_limit_lem pic) (ltb pic.pitch pic.width) (ltb (length d) (blocks pic * 8)) (ltb (blocks pic * 8) (length d)) _ t
      (le-ltb pic.pitch pic.width i) (le-ltb (length d) (blocks pic * 8) (omega (arith, l))) (lt-ltb (blocks pic * 8) (length d) l) in
      (answer a (Err LongData) told, a_refusal_alters_nothing _ _ image new a p (ap accepts told))

  -- and with 6 only then
  pub strict_answers_6_only_then : a ≡ Err LongData → blocks pic * 8 < length d
  strict_answers_6_only_then e =
      elim (dec_lt (blocks pic * 8) (length d)) [
        | yes h ↦ h
        | no h ↦
            absurd
            (not_six (over_limit_lem pic) (ltb pic.pitch pic.width) (ltb (length d) (blocks pic * 8)) (ltb (length image) (needed pic)) then
            (guard_not_six (bad_at in_range d) (blocks pic))
            (sym
            (ap (λ (l : List ℕ). get_or l 0 0)
            (p.says ∙ none_left 8 pic (length d) (length image) then (omega (arith, h))))
            ∙ ap (λ (x : Answer). get_or (said x) 0 0) e))
      ]

  -- "A mislabelled RGBA8 file passed strict ETC1: only its first half was looked at." A file of 16-byte blocks for this size of picture is
  -- twice as long as the ETC1 file, and strict never accepts it, unless it has no blocks
  module _ (f : Format) (sixteen : size_of f ≡ 16) where
    longer : blocks pic * size_of f ≤ length d → 0 < blocks pic → blocks pic * 8 < length d
    longer enough some = more_than_eight (blocks pic) (length d) (rw sixteen at enough) some

    pub a_file_of_16_byte_blocks_is_never_accepted : length d ≡ blocks pic * size_of f → 0 < blocks pic → a ≡ (Ok tt) → ⊥
    a_file_of_16_byte_blocks_is_never_accepted long some e =
        omega (arith, longer (omega (arith, long)) some, strict_accepts_only_the_exact_length e)

    -- it is refused with 6, where the size is none to refuse
    pub a_file_of_16_byte_blocks_gets_6 : length d ≡ blocks pic * size_of f → 0 < blocks pic → over_limit_lem pic ≡ false → pic.width ≤ pic.pitch → Same a (Err LongData) new image
    a_file_of_16_byte_blocks_gets_6 long some t i = strict_refuses_leftovers t i (longer (omega (arith, long)) some)

    -- a file without blocks is the one exception: it has no bytes under either name
    pub unless_it_has_no_blocks : Empty pic → length d ≡ blocks pic * size_of f → over_limit_lem pic ≡ false → pic.width ≤ pic.pitch → Same a (Ok tt) new image
    unless_it_has_no_blocks e long t i =
        strict_changes_nothing_of_an_empty_picture d pic image a new p e t i (long ∙ rw (no_blocks pic e) (zero-mul (size_of f)))

    -- so no bytes of a picture with blocks are accepted both by a reader of 16-byte blocks and by strict ETC1, whatever the images
    pub no_file_passes_both : (old new' : List ℕ) → ReadsPicture f d pic old (Ok tt) new' → 0 < blocks pic → a ≡ (Ok tt) → ⊥
    no_file_passes_both old new' q some e =
        let k : Passed (size_of f) pic (length d) (length old) = passed_by_lem (size_of f) pic (length d) (length old) (0 ∷ []) (Ok tt) q.says refl in
        omega (arith, longer k.enough some, strict_accepts_only_the_exact_length e)
