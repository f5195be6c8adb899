-- A guard, row by row: what is said after a row that was read, where nothing was said before it, is what is to be said of
-- all blocks that were read; and a refusal stands, whatever comes after.
-- Assumes nothing.
use mathlib.Core.Path.{◌≡◌, ◌∙◌, sym, ap}
use mathlib.Core.Bool.{Bool, false, true≢false}
use mathlib.Core.List.{List, [], ◌∷◌, ◌++◌}
use Prim.Native.Nat.{ℕ, ◌+◌, ◌*◌, ◌<◌, ◌≤◌}
use native.Mathlib.Omega.{arith}
use native.Mathlib.Decide.{dec_lt}
use native.Mathlib.Nat.{mul_assoc}
use borrow.Author.Tests.{lt-ltb, le-ltb}
use lib.ListN.{length}
use Rattle.rules.specs.Places.{bytes_of}
use Rattle.rules.specs.Answers.{first_of, guarded, accepts}
use Rattle.rules.specs.Guards.{Guard}
use Rattle.laws.proofs.First.{first, only, first_alike}
use Rattle.laws.proofs.Guards.{none_bad}
use Rattle.bands.specs.Rows.{scanned, first_in, scanned_row}
use Rattle.bands.proofs.Bytes as bytes
use Rattle.bands.proofs.Bands.{later}
use Rattle.bands.proofs.Whole.{block}

-- ---- the first place, of any test

module _ (test : ℕ → Bool) where
  -- a refusal stands, however many places follow
  pub settled : (number a b : ℕ) → a ≤ b → accepts (guarded number test a) ≡ false → guarded number test a ≡ guarded number test b
  settled number a b h r =
      elim (dec_lt (first_of test a) a) [
        | yes i ↦
            let f = first test a in
            let e : first_of test a ≡ first_of test b =
            only test b (first_of test a) (first_of test b)
            (record { within = omega arith; found = λ q. f.found i; none = f.none })
            (first test b) in
            rw (lt-ltb (first_of test a) a i)
            (ap (λ (z : ℕ). number ∷ z ∷ []) e ∙ sym (rw (lt-ltb (first_of test b) b (omega arith))))
        | no i ↦
            let g : guarded number test a ≡ 0 ∷ [] = rw (le-ltb (first_of test a) a (omega (arith, i))) in
            absurd (true≢false (sym (ap accepts g) ∙ r))
      ]

-- ---- rows of n blocks, read one after another

module _ (g : Guard) (is_refusal : 0 < g.number) (n j : ℕ) (d row : List ℕ) (before : length d ≡ j * (n * 8)) (long : length row ≡ n * 8) where
  abbrev test : ℕ → Bool
  test i = g.bad (bytes_of 8 (d ++ row) i)

  place : scanned g d (j * n) ≡ 0 ∷ [] → first_of test (j * n + n) ≡ j * n + first_in g n row
  place e =
      let l : j * n * 8 ≤ length d = omega (arith, mul_assoc j n 8) in
      later test (j * n) n
      (λ k h. ap g.bad (bytes.kept 8 k (j * n) d row h l) ∙ none_bad g.number (λ i. g.bad (bytes_of 8 d i)) (j * n) is_refusal e k h)
      ∙ ap (λ (z : ℕ). j * n + z)
      (first_alike (λ i. test (j * n + i)) (λ i. g.bad (bytes_of 8 row i)) n
      (λ i h.
      ap g.bad
      (sym (block n 8 i j (d ++ row) h) ∙ ap (λ (l : List ℕ). bytes_of 8 l i) (bytes.read (n * 8) j d row before long))))

  -- what is said after a row is what is to be said of all blocks so far
  pub after_row : scanned g d (j * n) ≡ 0 ∷ [] → scanned_row g n j row ≡ scanned g (d ++ row) (j * n + n)
  unfolding scanned_row
  after_row e =
      elim (dec_lt (first_in g n row) n) [
        | yes h ↦
            rw (lt-ltb (first_in g n row) n h)
            (ap (λ (z : ℕ). g.number ∷ z ∷ []) (sym (place e)) ∙ sym (rw (lt-ltb (first_of test (j * n + n)) (j * n + n) (omega (arith, place e)))))
        | no h ↦
            rw (le-ltb (first_in g n row) n (omega (arith, h)))
            (sym (rw (le-ltb (first_of test (j * n + n)) (j * n + n) (omega (arith, h, place e)))))
      ]
