-- The walk through the levels of a file, level by level, and that what fits lies in the file.
-- Assumes nothing.
use mathlib.Core.Path.{◌≡◌, ◌∙◌, refl, sym, ap}
use mathlib.Core.Bool.{Bool, true, false, cond, not, ◌||◌}
use mathlib.Core.List.{List}
use Prim.Native.Nat.{ℕ, zero, suc, ◌+◌, ◌-◌, ◌*◌, ◌/◌, ◌≤◌, ◌<◌, min, max}
use native.Mathlib.Omega.{arith}
use borrow.Author.Tests.{lt-ltb, le-ltb, ltb-true, ltb-false}
use lib.Dec.{eqb, ltb}
use lib.ListN.{length}
use Rattle.numbers.specs.Numbers.{little}
use Rattle.rules.specs.FileFormats.{word32}
use Rattle.rules.specs.FileLevels.{bytes_for_lem, inside_of, after_size_lem, in_index_lem, fit_in, fit_of_lem, level_at_lem, next_spot_lem}
use Rattle.rules.specs.FileLevels.{lesser, chosen, fits_then, levels_from, too_many_lem, larger}
use Rattle.rules.specs.Places.{sized}
use Rattle.rules.specs.Answers.{limit, too_large_lem}
use Rattle.std.specs.Prelude.{Result, Ok, Err}
use Rattle.rules.specs.declared.Container.{Container}
use Rattle.rules.specs.declared.Container.TheVariants.{Pkm, Ktx1, Ktx2, Dds, Sheet}
use Rattle.rules.specs.declared.Refusal.{Refusal}
use Rattle.rules.specs.declared.Layout.{Layout}
use Rattle.rules.specs.declared.Spot.{Spot}
use Rattle.rules.specs.declared.FileLevel.{FileLevel}

-- ---- what fits lies in the file

-- a test that refuses was not met
past : (b : Bool) (a : Refusal) (x : Result ℕ Refusal) (s : ℕ) → Ok s ≡ cond b (Err a) x → (b ≡ false) × (Ok s ≡ x)
past true a x s e = absurd (let z : ◌≡◌ {A = ℕ} 0 1 = cc in omega arith)
past false a x s e = (refl, e)

pub inside_fits : (d : List ℕ) (start need s : ℕ) → Ok s ≡ inside_of d start need → s + need ≤ length d
unfolding inside_of
inside_fits d start need s e =
    let p = past (ltb (length d) start) _ _ s e in
    let q = past (ltb (length d - start) need) _ _ s p.1 in
    let r : s ≡ start = (let g = q.1 in cc) in
    omega (arith, ltb-false (length d) start p.0, ltb-false (length d - start) need q.0)

after_fits : (order : Bool) (d : List ℕ) (at need s : ℕ) → Ok s ≡ after_size_lem order d at need → s + need ≤ length d
unfolding after_size_lem
after_fits order d at need s e =
    let p = past (ltb (length d) (at + 4)) _ _ s e in
    let q = past (not (eqb (word32 order d at) need)) _ _ s p.1 in
    inside_fits d (at + 4) need s q.1

index_fits : (d : List ℕ) (n need s : ℕ) → Ok s ≡ in_index_lem d n need → s + need ≤ length d
unfolding in_index_lem
index_fits d n need s e =
    let p = past (ltb (length d) (104 + 24 * n)) _ _ s e in
    let q = past (not (eqb (little 8 (88 + 24 * n) d) need)) _ _ s p.1 in
    inside_fits d (little 8 (80 + 24 * n) d) need s q.1

-- by its container
pub fits : (c : Container) (order : Bool) (d : List ℕ) (n at need start : ℕ) → Ok start ≡ fit_in c order d n at need → start + need ≤ length d
unfolding fit_in
fits Ktx1 order d n at need start e = after_fits order d at need start e
fits Ktx2 order d n at need start e = index_fits d n need start e
fits Pkm order d n at need start e = inside_fits d at need start e
fits Dds order d n at need start e = inside_fits d at need start e
fits Sheet order d n at need start e = inside_fits d at need start e

-- ---- level by level

-- the least of two numbers, as the rules have it
pub least : (a b : ℕ) → min a b ≡ lesser a b
least a b = by (ltb a b) refl
  where
    by : (t : Bool) → ltb a b ≡ t → min a b ≡ cond t a b
    by true e = omega (arith, ltb-true a b e)
    by false e = omega (arith, ltb-false a b e)

module _ (l : Layout) (d : List ℕ) (n left : ℕ) (level : FileLevel) (i : ℕ) (s : Spot) where
  -- what is left to walk
  pub rest : Result (ℕ × FileLevel) Refusal
  rest = levels_from l d n left level i (l.levels - i) s

  turn :
      i < l.levels
      → levels_from l d n left level i (l.levels - i) s
      ≡ fits_then (fit_of_lem l d i s)
      (λ start.
      levels_from l d n
      (lesser left (length d - (start + bytes_for_lem l.format s.width s.height)))
      (chosen n i (level_at_lem l s start) level)
      (i + 1)
      (l.levels - (i + 1))
      (next_spot_lem l s start))
  unfolding levels_from
  turn h =
      let one : l.levels - i ≡ suc (l.levels - (i + 1)) = omega arith in
      ap (λ (k : ℕ). levels_from l d n left level i k s) one

  pub stops : (a : Refusal) → i < l.levels → Err a ≡ fit_of_lem l d i s → Err a ≡ levels_from l d n left level i (l.levels - i) s
  stops a h e =
      ap
      (λ (z : Result ℕ Refusal).
      fits_then z
      (λ start.
      levels_from l d n
      (lesser left (length d - (start + bytes_for_lem l.format s.width s.height)))
      (chosen n i (level_at_lem l s start) level)
      (i + 1)
      (l.levels - (i + 1))
      (next_spot_lem l s start)))
      e
      ∙ sym (turn h)

  pub onward :
      (start left' : ℕ) (level' : FileLevel) (s' : Spot)
      → i < l.levels
      → Ok start ≡ fit_of_lem l d i s
      → left' ≡ lesser left (length d - (start + bytes_for_lem l.format s.width s.height))
      → level' ≡ chosen n i (level_at_lem l s start) level
      → s' ≡ next_spot_lem l s start
      → levels_from l d n left' level' (i + 1) (l.levels - (i + 1)) s' ≡ levels_from l d n left level i (l.levels - i) s
  onward start left' level' s' h e a b g =
      ap (λ (z : ℕ). levels_from l d n z level' (i + 1) (l.levels - (i + 1)) s') a
      ∙ ap (λ (z : FileLevel). levels_from l d n (lesser left (length d - (start + bytes_for_lem l.format s.width s.height))) z (i + 1) (l.levels - (i + 1)) s') b
      ∙ ap
      (λ (z : Spot).
      levels_from l d n
      (lesser left (length d - (start + bytes_for_lem l.format s.width s.height)))
      (chosen n i (level_at_lem l s start) level)
      (i + 1)
      (l.levels - (i + 1))
      z)
      g
      ∙ ap
      (λ (z : Result ℕ Refusal).
      fits_then z
      (λ start.
      levels_from l d n
      (lesser left (length d - (start + bytes_for_lem l.format s.width s.height)))
      (chosen n i (level_at_lem l s start) level)
      (i + 1)
      (l.levels - (i + 1))
      (next_spot_lem l s start)))
      e
      ∙ sym (turn h)

  pub over : l.levels ≤ i → levels_from l d n left level i (l.levels - i) s ≡ Ok (left, level)
  unfolding levels_from
  over h =
      let none : l.levels - i ≡ 0 = omega arith in
      ap (λ (k : ℕ). levels_from l d n left level i k s) none

-- ---- how many levels a picture can have

module _ (side n i : ℕ) where
  pub halves : i < n → 2 ≤ side → too_many_lem (side / 2) (n - (i + 1)) ≡ too_many_lem side (n - i)
  unfolding too_many_lem
  halves h g =
      let one : n - i ≡ suc (n - (i + 1)) = omega arith in
      sym (ap (too_many_lem side) one ∙ ap (λ (b : Bool). cond b true (too_many_lem (side / 2) (n - (i + 1)))) (le-ltb side 2 g))

  pub ends : i < n → side < 2 → too_many_lem side (n - i) ≡ true
  unfolding too_many_lem
  ends h g =
      let one : n - i ≡ suc (n - (i + 1)) = omega arith in
      ap (too_many_lem side) one ∙ ap (λ (b : Bool). cond b true (too_many_lem (side / 2) (n - (i + 1)))) (lt-ltb side 2 g)

  pub enough : n ≤ i → too_many_lem side (n - i) ≡ false
  unfolding too_many_lem
  enough h =
      let none : n - i ≡ 0 = omega arith in
      ap (too_many_lem side) none

-- twice as often as 1, k times
doubled : ℕ → ℕ
doubled zero = 1
doubled (suc k) = 2 * doubled k

-- a side below that has at most as many halves
few : (k side n : ℕ) → side < doubled (suc k) → too_many_lem side n ≡ false → n ≤ k
unfolding too_many_lem doubled
few k side zero h e = omega arith
few zero side (suc n) h e =
    let t : cond true true (too_many_lem (side / 2) n) ≡ false = rw (lt-ltb side 2 (omega arith)) at e in
    absurd (let z : ◌≡◌ {A = ℕ} 0 1 = cc in omega arith)
few (suc k) side (suc n) h e = go (few k (side / 2) n (omega arith)) (ltb side 2) refl
  where
    go : (too_many_lem (side / 2) n ≡ false → n ≤ k) → (b : Bool) → ltb side 2 ≡ b → suc n ≤ suc k
    go f true p =
        let t = rw p at e in
        absurd (let z : ◌≡◌ {A = ℕ} 0 1 = cc in omega arith)
    go f false p =
        let t = rw p at e in
        let r : n ≤ k = f t in
        omega arith

pub seventeen : (side levels : ℕ) → side ≤ 65536 → too_many_lem side (levels - 1) ≡ false → levels ≤ 17
unfolding doubled
seventeen side levels h e = let r = few 16 side (levels - 1) (omega arith) e in omega arith

neither : (a b : Bool) → (a || b) ≡ false → (a ≡ false) × (b ≡ false)
neither true b e = absurd (let z : ◌≡◌ {A = ℕ} 0 1 = cc in omega arith)
neither false b e = (refl, e)

most : (w h levels : ℕ) (b : Bool) → w ≤ limit → h ≤ limit → too_many_lem (cond b h w) (levels - 1) ≡ false → levels < 256
most w h levels true p q e = let r = seventeen h levels q e in omega arith
most w h levels false p q e = let r = seventeen w levels p e in omega arith

-- the larger of two numbers, as the rules have it
pub largest : (a b : ℕ) → max a b ≡ larger a b
largest a b = by (ltb a b) refl
  where
    by : (t : Bool) → ltb a b ≡ t → max a b ≡ cond t b a
    by true e = omega (arith, ltb-true a b e)
    by false e = omega (arith, ltb-false a b e)

-- a picture that is not too large has few levels
pub sound :
    (w h levels : ℕ)
    → too_large_lem limit (sized w h) ≡ false
    → too_many_lem (larger w h) (levels - 1) ≡ false
    → (w ≤ limit) × (h ≤ limit) × (levels < 256)
sound w h levels p q =
    let n = neither (ltb limit w) (ltb limit h) p in
    let a : w ≤ limit = ltb-false limit w n.0 in
    let b : h ≤ limit = ltb-false limit h n.1 in
    (a, b, most w h levels (ltb w h) a b q)
