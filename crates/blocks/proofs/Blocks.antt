-- The blocks of a picture one after another, for any format: `shows` is what a block's bytes show, and g n are the bytes of
-- block n.
-- Assumes nothing.
use mathlib.Core.Path.{◌≡◌, ◌∙◌, sym, ap}
use mathlib.Core.List.{List}
use mathlib.Core.Logic.{inl, inr, ⊎_elim}
use Prim.Native.Nat.{ℕ, suc, ◌+◌, ◌*◌, ◌/◌, ◌%◌, ◌<◌, ◌≤◌}
use native.Mathlib.Omega.{arith}
use native.Mathlib.Nat.{eq-or-lt_of_le, div-add-mod', mod-lt, mul_comm, mul-le-mul_right, lt_of_mul-lt-mul_right, sub-zero, suc-mul}
use lib.Dec.{T}
use lib.ListN.{get_or}
use Rattle.rules.specs.Pixel.{Shows}
use Rattle.rules.specs.Places.{column, row, inside, across, blocks, block_at, bytes_of, bytes_from, tile, pixel_by, painted, picture_by}
use Rattle.rules.specs.declared.Picture.{Picture}
use Rattle.laws.specs.Painted.{Painted}
use Rattle.laws.proofs.Paint.{none, said, also, is_painted}
use Rattle.laws.proofs.Filled.{get_or_build}
use Rattle.pixel.specs.place.Tile.{InTile, number_in}
use Rattle.pixel.proofs.place.Grid.{rem_at, div_at, before, covered, column_in, row_in}
use Rattle.blocks.specs.Run.{InRun, Stands}

-- the place that a number in a tile stands for
placed : (x y : ℕ) → ((y % 4 * 4 + x % 4) % 4 ≡ x % 4) × ((y % 4 * 4 + x % 4) / 4 ≡ y % 4) × (y % 4 * 4 + x % 4 < 16)
placed x y = omega arith

-- the end of block b, of n, of s bytes each
pub room : (s n b m : ℕ) → b < n → n * s ≤ m → b * s + s ≤ m
room s n b m h r =
    let a : suc b * s ≤ n * s = mul-le-mul_right s h in
    let e : suc b * s ≡ b * s + s = suc-mul b s in
    omega arith

-- where a block stands: at the start, and how low
pub stands : (n b : ℕ) → 0 < n → Stands n b (b % n) (b / n)
stands n b h = record { short = mod-lt b h; counted = div-add-mod' b n }

pub high : (n h b bx by : ℕ) → Stands n b bx by → b < n * h → by < h
high n h b bx by s i = lt_of_mul-lt-mul_right n (omega (arith, s.counted, mul_comm n h))

module _ (pic : Picture) where
  -- a picture that is no block wide has no pixel
  pub empty : (first last k : ℕ) → across pic.width ≡ 0 → InRun pic first last k → ⊥
  empty first last k e z = omega (arith, column_in pic k z.within)

  module _ (b bx by : ℕ) (st : Stands (across pic.width) b bx by) where
    -- the tile of block b has the pixels whose block is b
    there : (k : ℕ) → InTile pic bx by k → block_at pic k ≡ b
    there k t =
        ap (λ (z : ℕ). z * across pic.width + column pic k / 4) t.down
        ∙ ap (λ (z : ℕ). by * across pic.width + z) t.across
        ∙ st.counted

    back : (k : ℕ) → T (inside pic k) → block_at pic k ≡ b → InTile pic bx by k
    back k i e =
        let w = across pic.width in
        let x = column pic k / 4 in
        let y = row pic k / 4 in
        let n : x < w = covered (column pic k) pic.width (column_in pic k i) in
        let q : y * w + x ≡ by * w + bx = e ∙ sym st.counted in
        record {
          within = i;
          across = sym (rem_at w x y n) ∙ ap (λ (z : ℕ). z % w) q ∙ rem_at w bx by st.short;
          down = sym (div_at w x y n) ∙ ap (λ (z : ℕ). z / w) q ∙ div_at w bx by st.short;
        }

  -- the block of a pixel is one of the picture's
  pub block_in : (k : ℕ) → T (inside pic k) → block_at pic k < blocks pic
  block_in k i =
      omega (
        arith,
        before (across pic.width) (column pic k / 4) (row pic k / 4) (across pic.height)
            (covered (column pic k) pic.width (column_in pic k i))
            (covered (row pic k) pic.height (row_in pic k i)),
        mul_comm (across pic.width) (across pic.height),
      )

  -- one tile more, and all of them, of an image whose element k belongs to pixel `at k`: one element to a pixel, or several
  module _ (at : ℕ → ℕ) (v : ℕ → ℕ) where
    pub next_in : (u : ℕ → ℕ) (first b bx by : ℕ) (old mid new : List ℕ)
        → first ≤ b
        → Stands (across pic.width) b bx by
        → Painted (λ k. InRun pic first b (at k)) v old mid
        → Painted (λ k. InTile pic bx by (at k)) u mid new
        → ((k : ℕ) → block_at pic (at k) ≡ b → u k ≡ v k)
        → Painted (λ k. InRun pic first (b + 1) (at k)) v old new
    next_in u first b bx by old mid new h st a r e =
        let in_it : (k : ℕ) → InTile pic bx by (at k) → block_at pic (at k) ≡ b = λ k z. there b bx by st (at k) z in
        also (λ k. InRun pic first b (at k)) (λ k. InTile pic bx by (at k)) (λ k. InRun pic first (b + 1) (at k)) v old mid new a
        (said _ _ u v mid new r (λ k z. z) (λ k z. z) (λ k z. e k (in_it k z)))
        (λ k z. record { within = z.within; from = z.from; to = omega (arith, z.to) })
        (λ k z. record { within = z.within; from = omega (arith, in_it k z); to = omega (arith, in_it k z) })
        (λ k z.
        ⊎_elim (λ q. inr (back b bx by st (at k) z.within q))
        (λ m. inl (record { within = z.within; from = z.from; to = m }, λ o. omega (arith, in_it k o)))
        (eq-or-lt_of_le {n = block_at pic (at k)} {m = b} (omega (arith, z.to))))

    pub all_in : (old new : List ℕ) → Painted (λ k. InRun pic 0 (blocks pic) (at k)) v old new → new ≡ painted (λ k. inside pic (at k)) v old
    all_in old new a =
        is_painted (λ k. InRun pic 0 (blocks pic) (at k)) (λ k. inside pic (at k)) v old new
        (λ k i. record { within = i; from = omega arith; to = block_in (at k) i })
        (λ k z. z.within)
        a

  module _ (shows : Shows) (g : ℕ → List ℕ) where
    -- what the tile of its block has for a pixel
    own : (b k : ℕ) (t : List ℕ) → t ≡ tile shows (g b) → block_at pic k ≡ b → get_or t (number_in pic k) 0 ≡ pixel_by shows g pic k
    own b k t q e =
        let m = placed (column pic k) (row pic k) in
        let l = g b in
        ap (λ (z : List ℕ). get_or z (number_in pic k) 0) q
        ∙ get_or_build (λ j. shows l (j % 4) (j / 4)) 0 16 (number_in pic k) m.2
        ∙ ap (λ (z : ℕ). shows l z (number_in pic k / 4)) m.0
        ∙ ap (λ (z : ℕ). shows l (column pic k % 4) z) m.1
        ∙ ap (λ (z : ℕ). shows (g z) (column pic k % 4) (row pic k % 4)) (sym e)

    -- no block yet
    pub start : (first : ℕ) (l : List ℕ) → Painted (InRun pic first first) (pixel_by shows g pic) l l
    start first l = none _ _ l (λ k z. omega (arith, z.from, z.to))

    -- one block more
    pub next : (first b bx by : ℕ) (t old mid new : List ℕ)
        → first ≤ b
        → Stands (across pic.width) b bx by
        → Painted (InRun pic first b) (pixel_by shows g pic) old mid
        → t ≡ tile shows (g b)
        → Painted (InTile pic bx by) (λ k. get_or t (number_in pic k) 0) mid new
        → Painted (InRun pic first (b + 1)) (pixel_by shows g pic) old new
    next first b bx by t old mid new h st a q r =
        next_in (λ k. k) (pixel_by shows g pic) (λ k. get_or t (number_in pic k) 0) first b bx by old mid new h st a r (λ k e. own b k t q e)

    -- all blocks are the picture
    pub all : (old new : List ℕ) → Painted (InRun pic 0 (blocks pic)) (pixel_by shows g pic) old new → new ≡ picture_by shows g pic old
    all old new a = all_in (λ k. k) (pixel_by shows g pic) old new a

  -- and so they are where the data begins with block 0
  pub whole : (shows : Shows) (s : ℕ) (d old new : List ℕ) → Painted (InRun pic 0 (blocks pic)) (pixel_by shows (bytes_from s 0 d) pic) old new → new ≡ picture_by shows (bytes_of s d) pic old
  whole shows s d old new a =
      all shows (bytes_of s d) old new
      (said _ _ (pixel_by shows (bytes_from s 0 d) pic) (pixel_by shows (bytes_of s d) pic) old new a (λ k z. z) (λ k z. z)
      (λ k z. ap (λ (n : ℕ). shows (bytes_of s d n) (column pic k % 4) (row pic k % 4)) (sub-zero (block_at pic k))))
