-- Runs of a picture's blocks: one after another, from other bytes that are the same where they are looked at, and as a list that is
-- painted by a test.
-- Assumes nothing.
use mathlib.Core.Path.{◌≡◌, ◌∙◌, refl, sym, ap}
use mathlib.Core.Bool.{Bool, true, false, cond, ◌&&◌}
use mathlib.Core.List.{List}
use mathlib.Core.Logic.{inl, inr}
use Prim.Native.Nat.{ℕ, ◌%◌, ◌<◌, ◌≤◌}
use native.Mathlib.Omega.{arith}
use native.Mathlib.Decide.{dec_lt}
use lib.Dec.{T, leb, ltb, leb→le, le→leb, ltb→lt, lt→ltb}
use lib.ListN.{length, get_or, get_or-eq_default}
use Rattle.rules.specs.Pixel.{Shows}
use Rattle.rules.specs.Places.{inside, block_at, column, row, pixel_by, painted}
use Rattle.rules.specs.Pieces.{in_run}
use Rattle.rules.specs.declared.Picture.{Picture}
use Rattle.laws.specs.Painted.{Painted}
use Rattle.laws.proofs.Paint.{said, also, is_painted, length_painted, get_d_painted}
use Rattle.pixel.specs.place.Tile.{Room}
use Rattle.blocks.specs.Run.{InRun}

-- both of two tests
both : (a b : Bool) → T a → T b → T (a && b)
both true b x y = y
both false b x y = absurd x

one : (a b : Bool) → T (a && b) → T a
one true b x = tt
one false b x = absurd x

two : (a b : Bool) → T (a && b) → T b
two true b x = x
two false b x = absurd x

-- a choice whose test is known
pub taken : (t : Bool) (x y : ℕ) → T t → cond t x y ≡ x
taken true x y h = refl
taken false x y h = absurd h

pub left : (t : Bool) (x y : ℕ) → (T t → ⊥) → cond t x y ≡ y
left true x y h = absurd (h tt)
left false x y h = refl

module _ (pic : Picture) where
  -- the run as a test
  pub tested : (a b k : ℕ) → T (in_run pic a b k) → InRun pic a b k
  tested a b k t =
      let r = two (inside pic k) (leb a (block_at pic k) && ltb (block_at pic k) b) t in
      record {
        within = one (inside pic k) (leb a (block_at pic k) && ltb (block_at pic k) b) t;
        from = leb→le a (block_at pic k) (one (leb a (block_at pic k)) (ltb (block_at pic k) b) r);
        to = ltb→lt (block_at pic k) b (two (leb a (block_at pic k)) (ltb (block_at pic k) b) r);
      }

  pub tests : (a b k : ℕ) → InRun pic a b k → T (in_run pic a b k)
  tests a b k r =
      both (inside pic k) (leb a (block_at pic k) && ltb (block_at pic k) b) r.within
      (both (leb a (block_at pic k)) (ltb (block_at pic k) b) (le→leb a (block_at pic k) r.from) (lt→ltb (block_at pic k) b r.to))

  pub run_painted : (a b : ℕ) (v : ℕ → ℕ) (old new : List ℕ) → Painted (InRun pic a b) v old new → new ≡ painted (in_run pic a b) v old
  run_painted a b v old new p = is_painted (InRun pic a b) (in_run pic a b) v old new (tested a b) (tests a b) p

  -- one run, and then the next, of an image whose element k belongs to pixel `at k`
  pub two_runs_in : (at : ℕ → ℕ) (a b c : ℕ) (v : ℕ → ℕ) (old mid new : List ℕ) → a ≤ b → b ≤ c
      → Painted (λ k. InRun pic a b (at k)) v old mid
      → Painted (λ k. InRun pic b c (at k)) v mid new
      → Painted (λ k. InRun pic a c (at k)) v old new
  two_runs_in at a b c v old mid new h i p q =
      also (λ k. InRun pic a b (at k)) (λ k. InRun pic b c (at k)) (λ k. InRun pic a c (at k)) v old mid new p q
      (λ k z. record { within = z.within; from = z.from; to = omega (arith, z.to) })
      (λ k z. record { within = z.within; from = omega (arith, z.from); to = z.to })
      (λ k z.
      elim (dec_lt (block_at pic (at k)) b) [
        | yes m ↦ inl (record { within = z.within; from = z.from; to = m }, λ o. omega (arith, o.from, m))
        | no m ↦ inr (record { within = z.within; from = omega (arith, m); to = z.to })
      ])

  pub two_runs : (a b c : ℕ) (v : ℕ → ℕ) (old mid new : List ℕ) → a ≤ b → b ≤ c
      → Painted (InRun pic a b) v old mid
      → Painted (InRun pic b c) v mid new
      → Painted (InRun pic a c) v old new
  two_runs = two_runs_in (λ k. k)

  -- the same, from other bytes that are equal where they are looked at
  pub other_bytes : (shows : Shows) (a b : ℕ) (g h : ℕ → List ℕ) (old new : List ℕ)
      → ((n : ℕ) → a ≤ n → n < b → g n ≡ h n)
      → Painted (InRun pic a b) (pixel_by shows g pic) old new
      → Painted (InRun pic a b) (pixel_by shows h pic) old new
  other_bytes shows a b g h old new e p =
      said (InRun pic a b) (InRun pic a b) (pixel_by shows g pic) (pixel_by shows h pic) old new p (λ k z. z) (λ k z. z)
      (λ k z. ap (λ (l : List ℕ). shows l (column pic k % 4) (row pic k % 4)) (e (block_at pic k) z.from z.to))

  -- what a list that is painted by the test holds, where it has room for the picture
  module _ (a b : ℕ) (v : ℕ → ℕ) (old new : List ℕ) (room : Room pic (length old)) (e : new ≡ painted (in_run pic a b) v old) where
    at : (k : ℕ) → k < length old → get_or new k 0 ≡ cond (in_run pic a b k) (v k) (get_or old k 0)
    at k h = ap (λ (l : List ℕ). get_or l k 0) e ∙ get_d_painted (in_run pic a b) v old k h

    same : length new ≡ length old
    same = ap length e ∙ length_painted (in_run pic a b) v old

    pub was_painted : Painted (InRun pic a b) v old new
    was_painted =
        record {
          hit = λ k r. at k (room.reach k r.within) ∙ taken (in_run pic a b k) (v k) (get_or old k 0) (tests a b k r);
          miss =
              λ k n.
              elim (dec_lt k (length old)) [
                | yes h ↦ at k h ∙ left (in_run pic a b k) (v k) (get_or old k 0) (λ t. n (tested a b k t))
                | no h ↦ get_or-eq_default new 0 (omega (arith, h, same)) ∙ sym (get_or-eq_default old 0 (omega (arith, h)))
              ];
          same = same;
        }
