-- What the writer's checks say of its input: each where it is the first to fail, and all where none does.
-- Assumes nothing.
use mathlib.Core.Path.{◌≡◌, refl, sym, ap}
use mathlib.Core.Bool.{Bool, true, false, not, true≢false}
use mathlib.Core.List.{List, [], ◌∷◌}
use Prim.Native.Nat.{ℕ, ◌+◌, ◌≤◌, ◌<◌}
use native.Mathlib.Omega.{arith}
use borrow.Author.Tests.{eq-eqb, ne_eqb, lt-ltb, le-ltb, ltb-false, eqb-true}
use lib.Dec.{eqb, ltb}
use lib.ListN.{length}
use Rattle.rules.specs.Answers.{accepts, Check, refusal, verdict, too_large_lem, sides_check, image_check}
use Rattle.rules.specs.declared.Picture.{Picture}
use Rattle.numbers.specs.Numbers.{in_bytes}
use Rattle.rules.specs.Sheets.{sheet_limit, block_bytes_lem, sheet_of, write_checks, write_verdict}
use Rattle.laws.proofs.Judged as judged-laws
use Rattle.checks.proofs.Checks.{fails, passes, within}

-- the head's record and the first six bytes of the blocks' are 21 bytes
pub sheet_length : (f : ℕ) (p : Picture) (b : List ℕ) → length (sheet_of f p b) ≡ 21 + length b
unfolding sheet_of in_bytes
sheet_length f p b = omega arith

-- a test of equality, turned round
unequal : (t : Bool) → t ≡ false → not t ≡ true
unequal true e = absurd (true≢false e)
unequal false e = refl

equal : (t : Bool) → t ≡ true → not t ≡ false
equal true e = refl
equal false e = absurd (true≢false (sym e))

equal_back : (t : Bool) → not t ≡ false → t ≡ true
equal_back true e = refl
equal_back false e = absurd (true≢false e)

module _ (f : ℕ) (p : Picture) (b : List ℕ) (room : ℕ) where
  -- the four checks
  abbrev known : Check
  known = refusal 8 (ltb 7 f)

  abbrev small : Check
  small = sides_check sheet_limit p

  abbrev exact : Check
  exact = refusal 10 (not (eqb (length b) (block_bytes_lem f p)))

  abbrev roomy : Check
  roomy = image_check (length (sheet_of f p b)) room

  -- each, where it is the first to fail
  pub no_format : 7 < f → 8 ∷ [] ≡ write_verdict f p b room
  unfolding write_verdict
  no_format h = fails known (small ∷ exact ∷ roomy ∷ []) (0 ∷ []) (lt-ltb 7 f h)

  module _ (k : f ≤ 7) where
    pub too_large : too_large_lem sheet_limit p ≡ true → 1 ∷ [] ≡ write_verdict f p b room
    unfolding write_verdict
    too_large h =
        passes known (small ∷ exact ∷ roomy ∷ []) (0 ∷ []) (1 ∷ []) (le-ltb 7 f k)
        (fails small (exact ∷ roomy ∷ []) (0 ∷ []) h)

    module _ (s : too_large_lem sheet_limit p ≡ false) where
      -- the format and the sides pass
      past : (v : List ℕ) → v ≡ verdict (exact ∷ roomy ∷ []) → v ≡ write_verdict f p b room
      unfolding write_verdict
      past v e =
          passes known (small ∷ exact ∷ roomy ∷ []) (0 ∷ []) v (le-ltb 7 f k)
          (passes small (exact ∷ roomy ∷ []) (0 ∷ []) v s e)

      pub wrong_blocks_lem : (length b ≡ block_bytes_lem f p → ⊥) → 10 ∷ [] ≡ write_verdict f p b room
      wrong_blocks_lem h =
          past (10 ∷ [])
          (fails exact (roomy ∷ []) (0 ∷ []) (unequal (eqb (length b) (block_bytes_lem f p)) (ne_eqb (length b) (block_bytes_lem f p) h)))

      module _ (x : length b ≡ block_bytes_lem f p) where
        last : (v : List ℕ) → v ≡ verdict (roomy ∷ []) → v ≡ write_verdict f p b room
        last v e =
            past v
            (passes exact (roomy ∷ []) (0 ∷ []) v (equal (eqb (length b) (block_bytes_lem f p)) (eq-eqb (length b) (block_bytes_lem f p) x)) e)

        pub no_room : room < 21 + length b → 3 ∷ [] ≡ write_verdict f p b room
        no_room h =
            last (3 ∷ [])
            (fails roomy [] (0 ∷ []) (lt-ltb room (length (sheet_of f p b)) (omega (arith, sheet_length f p b))))

        -- and where none does
        pub accepted : 21 + length b ≤ room → 0 ∷ [] ≡ write_verdict f p b room
        accepted h =
            last (0 ∷ [])
            (passes roomy [] (0 ∷ []) (0 ∷ []) (le-ltb room (length (sheet_of f p b)) (omega (arith, sheet_length f p b))) refl)

-- an input that the writer accepts
pub record Accepted (f : ℕ) (p : Picture) (b : List ℕ) (room : ℕ) : Type 0 where
  pub known : f ≤ 7
  pub narrow : p.width ≤ sheet_limit
  pub low : p.height ≤ sheet_limit
  pub exact : length b ≡ block_bytes_lem f p
  pub roomy : 21 + length b ≤ room

-- and back
pub passed : (f : ℕ) (p : Picture) (b : List ℕ) (room : ℕ) → 0 ∷ [] ≡ write_verdict f p b room → Accepted f p b room
unfolding write_verdict
passed f p b room e =
    let k = judged-laws.passed (write_checks f p b room) (0 ∷ []) tt (sym (ap accepts e)) in
    let t = within sheet_limit p k.rest.first in
    let r = ltb-false room (length (sheet_of f p b)) k.rest.rest.rest.first in
    record {
      known = ltb-false 7 f k.first;
      narrow = t.0;
      low = t.1;
      exact = eqb-true (length b) (block_bytes_lem f p) (equal_back (eqb (length b) (block_bytes_lem f p)) k.rest.rest.first);
      roomy = omega (arith, r, sheet_length f p b);
    }
