-- A picture read in rows of blocks is the picture, for any format: each row, read from its own bytes as a picture of its own,
-- has the elements that it has in the whole, and all of them one after another are the whole. Rows of pixels have no gap. A row is a
-- band of one row of blocks (Bands.antt).
-- Assumes nothing.
use mathlib.Core.Path.{◌≡◌, ◌∙◌, sym, ap, subst}
use mathlib.Core.Bool.{Bool, cond}
use mathlib.Core.List.{List, ◌++◌}
use Prim.Native.Nat.{ℕ, zero, suc, ◌+◌, ◌-◌, ◌*◌, ◌<◌, ◌≤◌, min}
use native.Mathlib.Omega.{arith}
use native.Mathlib.Nat.{mul_comm, mul_assoc, one-mul, mul-add, mul-zero}
use native.Mathlib.Decide.{dec_lt}
use borrow.Author.Tests.{lt-ltb}
use lib.Dec.{T, lt→ltb}
use lib.ListN.{length, get_or, take, drop, length-take, length-append, get_or-append}
use lib.Seq.{get_or-take, get_or-append-add}
use Rattle.rules.specs.Notation.{build}
use Rattle.rules.specs.Pixel.{Shows}
use Rattle.rules.specs.Places.{sized, inside, across, bytes_of, pixel_at, painted}
use Rattle.rules.specs.declared.Picture.{Picture}
use Rattle.laws.proofs.Filled.{is_build, length_build, get_or_build}
use Rattle.laws.proofs.Paint.{length_painted, get_d_painted}
use Rattle.pixel.proofs.place.Grid.{wide}
use Rattle.pixel.proofs.place.Plain.{inside_plain}
use Rattle.bands.specs.Rows.{high, row_of, row_bytes, row_pixels, joined}
use Rattle.bands.specs.Bands.{bytes_in, below}
use Rattle.bands.proofs.Bands.{in_front, behind, pixel_top, pixel_below_lem}

-- ---- the bytes of a block

-- block i of row j is block j * n + i of the whole
pub block : (n s i j : ℕ) (d : List ℕ) → i < n → bytes_of s (bytes_of (n * s) d j) i ≡ bytes_of s d (j * n + i)
block n s i j d h =
    in_front s n i (drop (j * (n * s)) d) h
    ∙ ap (λ (z : ℕ). bytes_of s (drop z d) i) (sym (mul_assoc j n s))
    ∙ behind s (j * n) i d

-- ---- the place of a pixel: row j is the first band of what is below j rows

module _ (breadth tall j k : ℕ) (h : k < breadth * high tall j) where
  abbrev p : Picture
  p = sized breadth tall

  -- the picture has a column
  broad : 0 < p.width
  broad = wide p.width (high p.height j) k (omega (arith, mul_comm p.width (high p.height j)))

  own_bytes : (s : ℕ) (d : List ℕ) → row_bytes s p d j ≡ take (bytes_in s (below p j) 1) (drop (bytes_in s p j) d)
  own_bytes s d =
      let m = across p.width in
      ap (λ (z : ℕ). take (z * s) (drop (j * (m * s)) d)) (sym (one-mul m))
      ∙ ap (λ (z : ℕ). take (1 * m * s) (drop z d)) (sym (mul_assoc j m s))

  own : T (inside (row_of p j) k)
  own = subst (λ (t : Bool). T t) (sym (inside_plain breadth (high tall j) k)) (lt→ltb k (breadth * high tall j) h)

  -- what a row shows at a pixel is what the whole shows there
  pub pixel : (shows : Shows) (s : ℕ) (d : List ℕ) → pixel_at shows s (row_of p j) (row_bytes s p d j) k ≡ pixel_at shows s p d (p.width * (j * 4) + k)
  pixel shows s d =
      ap (λ (l : List ℕ). pixel_at shows s (row_of p j) l k) (own_bytes s d)
      ∙ pixel_top (below p j) 1 shows s (drop (bytes_in s p j) d) k own
      ∙ sym (pixel_below_lem p j broad shows s d k)
      ∙ ap (λ (z : ℕ). pixel_at shows s p d (z + k)) (mul_comm (j * 4) p.width)

-- ---- a row, and all rows

module _ (shows : Shows) (s breadth tall : ℕ) (d : List ℕ) where
  abbrev pic : Picture
  pic = sized breadth tall

  -- an image over which row j was painted, from its own bytes, has the pixels of row j in front
  pub row_painted :
      (j : ℕ) (image : List ℕ) → pic.width * high pic.height j ≤ length image
      → take (pic.width * high pic.height j) (painted (inside (row_of pic j)) (pixel_at shows s (row_of pic j) (row_bytes s pic d j)) image) ≡ row_pixels shows s pic d j
  row_painted j image h =
      let n = pic.width * high pic.height j in
      let l = painted (inside (row_of pic j)) (pixel_at shows s (row_of pic j) (row_bytes s pic d j)) image in
      is_build (λ k. pixel_at shows s pic d (pic.width * (j * 4) + k)) 0 n (take n l)
      (simp (length-take, length_painted) (omega arith))
      (λ k q.
      get_or-take n l k 0 q
      ∙ get_d_painted (inside (row_of pic j)) (pixel_at shows s (row_of pic j) (row_bytes s pic d j)) image k (omega arith)
      ∙ ap (λ (b : Bool). cond b (pixel_at shows s (row_of pic j) (row_bytes s pic d j) k) (get_or image k 0)) (inside_plain breadth (high tall j) k ∙ lt-ltb k n q)
      ∙ pixel breadth tall j k q shows s d)

  -- the pixels of the first n elements
  first : ℕ → List ℕ
  first n = build n (pixel_at shows s pic d)

  -- the first a elements and the b after them
  more : (a b : ℕ) → first a ++ build b (λ k. pixel_at shows s pic d (a + k)) ≡ first (a + b)
  unfolding first
  more a b =
      let g : ℕ → ℕ = λ k. pixel_at shows s pic d (a + k) in
      let e : length (first a) ≡ a = length_build (pixel_at shows s pic d) 0 a in
      let m : length (build b g) ≡ b = length_build g 0 b in
      is_build (pixel_at shows s pic d) 0 (a + b) (first a ++ build b g) (length-append (first a) (build b g) ∙ omega arith)
      (λ k q.
      elim (dec_lt k a) [
        | yes i ↦ get_or-append (first a) (build b g) 0 k (omega arith) ∙ get_or_build (pixel_at shows s pic d) 0 a k i
        | no i ↦
            let z : k ≡ length (first a) + (k - a) = omega (arith, i) in
            ap (λ (t : ℕ). get_or (first a ++ build b g) t 0) z
            ∙ get_or-append-add (first a) (build b g) (k - a) 0
            ∙ get_or_build g 0 b (k - a) (omega (arith, i))
            ∙ ap (pixel_at shows s pic d) (omega (arith, i))
      ])

  -- n rows are the first elements, as far as the picture goes
  some : (n : ℕ) → n ≤ across pic.height → joined (row_pixels shows s pic d) n ≡ first (pic.width * min (n * 4) pic.height)
  unfolding first
  some zero h = ap first (sym (mul-zero pic.width) ∙ ap (λ (z : ℕ). pic.width * z) (omega arith))
  some (suc n) h =
      let a : pic.width * min (n * 4) pic.height ≡ pic.width * (n * 4) = ap (λ (z : ℕ). pic.width * z) (omega arith) in
      ap (λ (l : List ℕ). l ++ row_pixels shows s pic d n) (some n (omega arith) ∙ ap first a)
      ∙ more (pic.width * (n * 4)) (pic.width * high pic.height n)
      ∙ ap first (sym (mul-add pic.width (n * 4) (high pic.height n)) ∙ ap (λ (z : ℕ). pic.width * z) (omega arith))

  -- all rows are the picture
  pub whole : joined (row_pixels shows s pic d) (across pic.height) ≡ build (pic.width * pic.height) (pixel_at shows s pic d)
  unfolding first
  whole = some (across pic.height) (omega arith) ∙ ap (λ (z : ℕ). first (pic.width * z)) (omega arith)
