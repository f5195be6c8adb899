-- The counts of no block, and of one block more.
-- Assumes nothing.
use mathlib.Core.Path.{◌≡◌, refl}
use mathlib.Core.Bool.{cond}
use mathlib.Core.List.{List}
use Prim.Native.Nat.{ℕ, suc, ◌+◌, ◌≤◌}
use native.Mathlib.Numerals.{add-one}
use native.Mathlib.Decide.{dec_lt}
use native.Mathlib.Omega.{arith}
use borrow.Author.Tests.{lt-ltb, le-ltb}
use lib.Dec.{ltb}
use Rattle.rules.specs.Answers.{first_of}
use Rattle.rules.specs.Census.{count_of}
use Rattle.rules.specs.Counting.{sum_of, most_of}
use Rattle.rules.specs.Guards.{Guard}
use Rattle.rules.specs.declared.Picture.{Picture}
use Rattle.laws.proofs.First.{first}
use Rattle.rules.specs.Older.{wrong_at, has_wrong}
use Rattle.older.specs.Compared.{FindsIn, Counted, Joined}
use Rattle.older.specs.declared.Found.{Found}
use Rattle.rules.specs.declared.OlderCounts.{OlderCounts}
use Rattle.older.proofs.Turn.{more_most}

-- the first place of the first block: where a block was found before, it stays; otherwise it is that of the last block, if it has one
first_place_lem : (place : ℕ → ℕ) (f n : ℕ) → place n ≤ 16
    → cond (ltb f n) (cond (ltb f n) (place f) 16) (place n)
    ≡ cond (ltb (cond (ltb f n) f (cond (ltb (place n) 16) n (suc n))) (suc n)) (place (cond (ltb f n) f (cond (ltb (place n) 16) n (suc n)))) 16
first_place_lem place f n h =
    elim (dec_lt f n) [
      | yes l ↦ rw (lt-ltb f n l, lt-ltb f (suc n) (omega (arith, l)))
      | no l ↦ elim (dec_lt (place n) 16) [
        | yes k ↦ rw (le-ltb f n (omega (arith, l)), lt-ltb (place n) 16 k, lt-ltb n (suc n) (omega arith))
        | no k ↦ rw (le-ltb f n (omega (arith, l)), le-ltb (place n) 16 (omega (arith, k)), le-ltb (suc n) (suc n) (omega arith)) (omega (arith, k))
      ]
    ]

place_turn : (place : ℕ → ℕ) (f n block before here r : ℕ) → place n ≤ 16 → block ≡ f → before ≡ cond (ltb f n) (place f) 16 → here ≡ place n
    → r ≡ cond (ltb block n) before here
    → r ≡ cond (ltb (cond (ltb f n) f (cond (ltb (place n) 16) n (suc n))) (suc n)) (place (cond (ltb f n) f (cond (ltb (place n) 16) n (suc n)))) 16
place_turn place f n block before here r h b e p j = rw (j, b, e, p) (first_place_lem place f n h)

module _ (g : Guard) (p : Picture) (d : List ℕ) where
  pub begin : Counted g p d 0 (record { pixels = 0; blocks = 0; block = 0; place = 16; colour = 0; alpha = 0 })
  unfolding sum_of count_of first_of most_of
  begin = record { few = omega arith; fewer = omega arith; pixels = refl; blocks = refl; block = refl; place = refl; colour = refl; alpha = refl }

  pub joins : (c r : OlderCounts) (n : ℕ) (f : Found) → Counted g p d n c → FindsIn g p d n f → Joined c n f r → Counted g p d (n + 1) r
  unfolding sum_of count_of first_of most_of
  joins c r n f q w j =
      rw (add-one n)
      (record {
        few = omega (arith, q.few, w.all.few, j.pixels);
        fewer = let h = more_most (ltb f.place 16) c.blocks n q.fewer in omega (arith, h, j.blocks);
        pixels = rw (j.pixels, q.pixels, w.all.counted);
        blocks = rw (j.blocks, q.blocks, w.first);
        block = rw (j.block, q.block, w.first);
        place =
            place_turn (λ b. first_of (wrong_at g p d b) 16) (first_of (has_wrong g p d) n) n c.block c.place f.place r.place
            (first (wrong_at g p d n) 16).within q.block q.place w.first j.place;
        colour = rw (j.colour, q.colour, w.all.farthest);
        alpha = rw (j.alpha, q.alpha, w.all.clearest);
      })
