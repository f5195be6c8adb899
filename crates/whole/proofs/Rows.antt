-- The blocks of a row one after another, and the rows of blocks, of a picture with n numbers to a pixel.
-- Assumes nothing.
use mathlib.Core.Path.{◌≡◌, ◌∙◌, refl, sym, ap, subst}
use mathlib.Core.Bool.{Bool}
use mathlib.Core.List.{List}
use Prim.Native.Nat.{ℕ, ◌+◌, ◌-◌, ◌*◌, ◌/◌, ◌%◌, ◌<◌, ◌≤◌}
use native.Mathlib.Nat.{mul_comm, add-mul, one-mul}
use native.Mathlib.Omega.{arith}
use lib.ListN.{take, drop}
use Rattle.rules.specs.Places.{column, row, across, blocks, bytes_of}
use Rattle.rules.specs.Answers.{limit}
use Rattle.rules.specs.declared.Picture.{Picture}
use Rattle.rules.specs.Whole.{whole_pixel, whole_at, whole_picture}
use Rattle.laws.proofs.Paint.{none}
use Rattle.laws.proofs.Parts.{part}
use Rattle.laws.proofs.Signed.{times_le}
use Rattle.pixel.proofs.place.Grid.{before}
use Rattle.blocks.proofs.Blocks.{next_in, all_in, room}
use Rattle.blocks.proofs.Runs.{two_runs_in}
use Rattle.whole.specs.Lanes.{PaintsBlock, PaintsBlocks}

-- a block of the picture, and its bytes; the numbers of the loop are told to be the picture's
module _ (pic : Picture) (by bx w s n m : ℕ) (ew : w ≡ across pic.width) (es : s ≡ n * 8) (h : bx < w) (g : by < across pic.height) where
  numbered : by * w + bx < blocks pic
  numbered = rw ew (omega (arith, before (across pic.width) bx by (across pic.height) (omega arith) g, mul_comm (across pic.width) (across pic.height)))

  pub fits : blocks pic * (n * 8) ≤ m → (by * w + bx) * s + s ≤ m
  fits e = rw es (room (n * 8) (blocks pic) (by * w + bx) m numbered e)

-- and its number is small
pub small : (pic : Picture) (by w : ℕ) → w ≡ across pic.width → pic.width ≤ limit → pic.height ≤ limit → by < across pic.height → by * w ≤ 65536 * 65536
small pic by w e i j g = times_le by 65536 w 65536 (omega arith) (omega arith)

module _ (n : ℕ) (signed : Bool) (d : List ℕ) (pic : Picture) where
  -- what holds before block bx of row by: those from one on to it have been painted, over old
  abbrev pub Turned : ℕ → ℕ → List ℕ → List ℕ → ℕ → Type 0
  Turned by from old new bx =
      (from ≤ bx) × (bx ≤ across pic.width) × PaintsBlocks n signed d pic (by * across pic.width + from) (by * across pic.width + bx) old new

  pub start : (by bx : ℕ) (l : List ℕ) → bx ≤ across pic.width → Turned by bx l l bx
  start by bx l h = (omega arith, h, none _ _ l (λ k z. omega (arith, z.from, z.to)))

  pub turn : (by from bx w s : ℕ) (old mid new : List ℕ) → w ≡ across pic.width → s ≡ n * 8 → bx < w
      → Turned by from old mid bx
      → PaintsBlock n signed (take ((by * w + bx) * s + s - (by * w + bx) * s) (drop ((by * w + bx) * s) d)) pic bx by mid new
      → Turned by from old new (bx + 1)
  turn by from bx w s old mid new ew es h a p =
      let f = by * across pic.width in
      let own : take ((by * w + bx) * s + s - (by * w + bx) * s) (drop ((by * w + bx) * s) d) ≡ bytes_of (n * 8) d (f + bx) =
      part s (by * w + bx) d ∙ ap (λ (z : ℕ). bytes_of z d (by * w + bx)) es ∙ ap (λ (z : ℕ). bytes_of (n * 8) d (by * z + bx)) ew in (
        omega (arith, a.0),
        omega arith,
        subst (λ (m : ℕ). PaintsBlocks n signed d pic (f + from) m old new) (omega arith)
            (next_in pic (λ k. k / n) (whole_at signed n pic d) _ (f + from) (f + bx) bx by old mid new (omega (arith, a.0))
            (record { short = omega arith; counted = refl })
            a.2
            p
            (λ k e.
            ap (λ (l : List ℕ). whole_pixel signed (k % n) l (column pic (k / n) % 4) (row pic (k / n) % 4))
            (own ∙ ap (bytes_of (n * 8) d) (sym e)))),
      )

  -- the first ones, as many as there are
  pub from_first : (by m : ℕ) (old new : List ℕ) → Turned by 0 old new m
      → (m ≤ across pic.width) × PaintsBlocks n signed d pic (by * across pic.width) (by * across pic.width + m) old new
  from_first by m old new a =
      (a.1, subst (λ (z : ℕ). PaintsBlocks n signed d pic z (by * across pic.width + m) old new) (omega arith) a.2)

  -- and then the others
  pub ended : (by from bx w : ℕ) (old mid new : List ℕ) → w ≡ across pic.width → w ≤ bx
      → PaintsBlocks n signed d pic (by * across pic.width) (by * across pic.width + from) old mid
      → Turned by from mid new bx
      → PaintsBlocks n signed d pic (by * across pic.width) (by * across pic.width + across pic.width) old new
  ended by from bx w old mid new ew h p a =
      let f = by * across pic.width in
      let e : bx ≡ across pic.width = omega (arith, a.1) in
      subst (λ (m : ℕ). PaintsBlocks n signed d pic f (f + m) old new) e
      (two_runs_in pic (λ k. k / n) f (f + from) (f + bx) (whole_at signed n pic d) old mid new (omega arith) (omega (arith, a.0)) p a.2)

  -- and before row by: so many rows of blocks
  abbrev pub Down : List ℕ → List ℕ → ℕ → Type 0
  Down old new by = (by ≤ across pic.height) × PaintsBlocks n signed d pic 0 (by * across pic.width) old new

  pub top : (l : List ℕ) → Down l l 0
  top l = (omega arith, none _ _ l (λ k z. omega (arith, z.to)))

  pub next_row : (by : ℕ) (old mid new : List ℕ) → by < across pic.height → Down old mid by
      → PaintsBlocks n signed d pic (by * across pic.width) (by * across pic.width + across pic.width) mid new
      → Down old new (by + 1)
  next_row by old mid new h a p =
      let w = across pic.width in (
        omega arith,
        subst (λ (m : ℕ). PaintsBlocks n signed d pic 0 m old new) (sym (add-mul by 1 w ∙ ap (λ (z : ℕ). by * w + z) (one-mul w)))
            (two_runs_in pic (λ k. k / n) 0 (by * w) (by * w + w) (whole_at signed n pic d) old mid new (omega arith) (omega arith) a.1 p),
      )

  pub bottom : (by : ℕ) (old new : List ℕ) → across pic.height ≤ by → Down old new by → new ≡ whole_picture signed n pic d old
  bottom by old new h a =
      let e : by ≡ across pic.height = omega (arith, a.0) in
      let all : by * across pic.width ≡ blocks pic = ap (λ (z : ℕ). z * across pic.width) e ∙ mul_comm (across pic.height) (across pic.width) in
      all_in pic (λ k. k / n) (whole_at signed n pic d) old new
      (subst (λ (m : ℕ). PaintsBlocks n signed d pic 0 m old new) all a.1)
