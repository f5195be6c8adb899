-- One block alone, as a picture of 4 by 4.
-- Assumes nothing.
use mathlib.Core.Path.{◌≡◌, ◌∙◌, ap, subst}
use mathlib.Core.Bool.{Bool, cond}
use mathlib.Core.List.{List}
use Prim.Native.Nat.{ℕ, ◌+◌, ◌-◌, ◌*◌, ◌/◌, ◌%◌, ◌<◌, ◌≤◌}
use native.Mathlib.Omega.{arith}
use native.Mathlib.Nat.{zero-mul}
use borrow.Author.Tests.{lt-ltb}
use lib.ListN.{length, get_or, take, drop, length-take, length-drop}
use lib.Dec.{ltb}
use lib.Seq.{take_all}
use Rattle.rules.specs.Notation.{build}
use Rattle.rules.specs.Pixel.{Shows}
use Rattle.rules.specs.Places.{sized, bytes_of, tile, pixel_by, painted}
use Rattle.laws.proofs.Filled.{build_same}
use Rattle.laws.proofs.Parts.{part}
use Rattle.pixel.proofs.place.Grid.{roomy}
use Rattle.pixel.proofs.place.Plain.{needed_plain, painted_plain}
use Rattle.blocks.specs.Run.{Whole, PaintsRow}
use Rattle.blocks.proofs.Blocks.{whole}

-- a place of sixteen, in a picture of 4 by 4: its block is number 0
pub small : (k : ℕ) → k < 16 → (k / 4 / 4 * 1 + k % 4 / 4 ≡ 0) × (k % 4 % 4 ≡ k % 4) × (k / 4 % 4 ≡ k / 4)
small k h = (omega arith, omega arith, omega arith)

module _ (shows : Shows) (s n : ℕ) (d : List ℕ) where
  -- the bytes that are lent
  abbrev lent : List ℕ
  lent = take (n * s + s - n * s) (drop (n * s) d)

  -- block 0 of them is block n
  bytes : bytes_of s lent 0 ≡ bytes_of s d n
  bytes =
      ap (λ (l : List ℕ). bytes_of s l 0) (part s n d)
      ∙ ap (λ (m : ℕ). take s (drop m (bytes_of s d n))) (zero-mul s)
      ∙ take_all s (bytes_of s d n) (simp length-take (omega arith))

  pixel : (k : ℕ) → k < 16 → pixel_by shows (bytes_of s lent) (sized 4 4) k ≡ shows (bytes_of s d n) (k % 4) (k / 4)
  pixel k h =
      let m = small k h in
      ap (λ (b : ℕ). shows (bytes_of s lent b) (k % 4 % 4) (k / 4 % 4)) m.0
      ∙ ap (λ (l : List ℕ). shows l (k % 4 % 4) (k / 4 % 4)) bytes
      ∙ ap (λ (x : ℕ). shows (bytes_of s d n) x (k / 4 % 4)) m.1
      ∙ ap (λ (y : ℕ). shows (bytes_of s d n) (k % 4) y) m.2

  -- what is painted over sixteen elements is the block's tile
  tiled : (old new : List ℕ) → length old ≡ 16 → PaintsRow shows s lent (sized 4 4) 0 0 1 old new → new ≡ tile shows (bytes_of s d n)
  unfolding painted
  tiled old new h p =
      let v = pixel_by shows (bytes_of s lent) (sized 4 4) in
      whole (sized 4 4) shows s lent old new p
      ∙ painted_plain 4 4 v old
      ∙ ap (λ (m : ℕ). build m (λ k. cond (ltb k 16) (v k) (get_or old k 0))) h
      ∙ build_same 0 (λ k. cond (ltb k 16) (v k) (get_or old k 0)) (λ k. shows (bytes_of s d n) (k % 4) (k / 4)) 16
      (λ k l. ap (λ (t : Bool). cond t (v k) (get_or old k 0)) (lt-ltb k 16 l) ∙ pixel k l)

-- the same where z is how many bytes a block has, which s was told to be
module _ (shows : Shows) (s z n : ℕ) (d : List ℕ) (e : s ≡ z) where
  pub enough : n * s + s ≤ length d → 1 * z ≤ length (take (n * s + s - n * s) (drop (n * s) d))
  enough h = simp (length-take, length-drop) (omega arith)

  pub alone : (old new : List ℕ) → length old ≡ 16
      → PaintsRow shows z (take (n * s + s - n * s) (drop (n * s) d)) (sized 4 4) 0 0 1 old new
      → new ≡ tile shows (bytes_of z d n)
  alone old new h =
      subst (λ (m : ℕ). PaintsRow shows m (take (n * s + s - n * s) (drop (n * s) d)) (sized 4 4) 0 0 1 old new → new ≡ tile shows (bytes_of m d n)) e
      (tiled shows s n d old new h)

-- a picture of 4 by 4 has its block whole
pub whole_four : Whole (sized 4 4) 0 0 1 16
whole_four =
    record {
      narrow = omega arith;
      low = omega arith;
      room = roomy (sized 4 4) 16 (omega arith) (omega (arith, needed_plain 4 4));
    }
