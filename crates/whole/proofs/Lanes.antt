-- Two numbers to a pixel: the picture of numbers that is twice as wide, the two tiles of a block in it, and what they hold.
-- Assumes nothing.
use mathlib.Core.Path.{◌≡◌, ◌∙◌, refl, sym, ap, subst}
use mathlib.Core.Bool.{Bool}
use mathlib.Core.List.{List, [], ◌∷◌}
use mathlib.Core.Logic.{◌⊎◌, inl, inr, ⊎_elim}
use Prim.Native.Nat.{ℕ, zero, suc, ◌+◌, ◌*◌, ◌/◌, ◌%◌, ◌<◌, ◌≤◌}
use native.Mathlib.Nat.{div-add-mod', mod-lt, mul_left_comm}
use native.Mathlib.Decide.{dec_lt}
use native.Mathlib.Omega.{arith}
use lib.Dec.{T}
use lib.ListN.{get_or, drop}
use Rattle.rules.specs.Notation.{build}
use Rattle.rules.specs.Places.{column, row, inside, needed}
use Rattle.rules.specs.declared.Picture.{Picture}
use Rattle.rules.specs.Whole.{eac_whole_lem, sixteen, whole_pixel}
use Rattle.laws.specs.Painted.{Painted}
use Rattle.laws.proofs.Paint.{said, also}
use Rattle.laws.proofs.Filled.{get_or_build}
use Rattle.pixel.specs.place.Tile.{InTile, Room, number_in}
use Rattle.pixel.proofs.place.Grid.{rem_at, div_at, column_in, row_in, inside_at, only, within}
use Rattle.whole.specs.Lanes.{twice, paired, PaintsBlock}

-- the sixteen values of a channel
abbrev pub value_at : Bool → List ℕ → ℕ → ℕ
value_at signed d k = sixteen (eac_whole_lem signed d (k % 4) (k / 4))

-- with one number to a pixel the tile of a block is its own
module _ (pic : Picture) (signed : Bool) (d : List ℕ) where
  alone : (k : ℕ) → k / 1 ≡ k
  alone k = omega arith

  first : (k : ℕ) → k % 1 ≡ 0
  first k = omega arith

  here : (x y : ℕ) → (y % 4 * 4 + x % 4 < 16) × ((y % 4 * 4 + x % 4) % 4 ≡ x % 4) × ((y % 4 * 4 + x % 4) / 4 ≡ y % 4)
  here x y = omega arith

  shown : (t : List ℕ) (k : ℕ) → t ≡ build 16 (value_at signed d) → get_or t (number_in pic k) 0 ≡ whole_pixel signed 0 d (column pic k % 4) (row pic k % 4)
  unfolding whole_pixel
  shown t k e =
      let m = here (column pic k) (row pic k) in
      ap (λ (l : List ℕ). get_or l (number_in pic k) 0) e
      ∙ get_or_build (value_at signed d) 0 16 (number_in pic k) m.0
      ∙ ap (λ (u : ℕ). sixteen (eac_whole_lem signed d u (number_in pic k / 4))) m.1
      ∙ ap (λ (u : ℕ). sixteen (eac_whole_lem signed d (column pic k % 4) u)) m.2

  pub one_tile : (bx by : ℕ) (t old new : List ℕ) → t ≡ build 16 (value_at signed d)
      → Painted (InTile pic bx by) (λ k. get_or t (number_in pic k) 0) old new
      → PaintsBlock 1 signed d pic bx by old new
  one_tile bx by t old new e p =
      said _ _ _ _ old new p
      (λ k z. subst (InTile pic bx by) (alone k) z)
      (λ k z. subst (InTile pic bx by) (sym (alone k)) z)
      (λ k z.
      shown t k e
      ∙ ap (λ (u : ℕ). whole_pixel signed 0 d (column pic u % 4) (row pic u % 4)) (sym (alone k))
      ∙ ap (λ (c : ℕ). whole_pixel signed c d (column pic (k / 1) % 4) (row pic (k / 1) % 4)) (sym (first k)))

module _ (pic : Picture) (f : pic.width ≤ pic.pitch) where
  -- an element of the wider picture is in twice the column of its pixel, and in its row
  module _ (k : ℕ) (p : 0 < pic.pitch) where
    parts : k ≡ row pic (k / 2) * (2 * pic.pitch) + (2 * column pic (k / 2) + k % 2)
    parts = omega (arith, div-add-mod' (k / 2) pic.pitch, mul_left_comm (row pic (k / 2)) 2 pic.pitch)

    less : 2 * column pic (k / 2) + k % 2 < 2 * pic.pitch
    less = omega (arith, mod-lt (k / 2) p)

    pub column_twice : column (twice pic) k ≡ 2 * column pic (k / 2) + k % 2
    column_twice =
        ap (λ (z : ℕ). z % (2 * pic.pitch)) parts
        ∙ rem_at (2 * pic.pitch) (2 * column pic (k / 2) + k % 2) (row pic (k / 2)) less

    pub row_twice : row (twice pic) k ≡ row pic (k / 2)
    row_twice =
        ap (λ (z : ℕ). z / (2 * pic.pitch)) parts
        ∙ div_at (2 * pic.pitch) (2 * column pic (k / 2) + k % 2) (row pic (k / 2)) less

  -- an element is the picture's own where its column and its row are
  own : (q : Picture) → q.width ≤ q.pitch → (k : ℕ) → column q k < q.width → row q k < q.height → T (inside q k)
  own q g k i j =
      subst (λ (m : ℕ). T (inside q m)) (sym (only q k (column q k) (row q k) refl refl)) (inside_at q g (column q k) (row q k) i j)

  -- a pixel of the picture has a row with a pitch
  some : (k : ℕ) → T (inside pic k) → 0 < pic.pitch
  some k t = omega (arith, column_in pic k t)

  some_twice : (k : ℕ) → T (inside (twice pic) k) → 0 < pic.pitch
  some_twice k t = omega (arith, column_in (twice pic) k t)

  halved : (k : ℕ) → T (inside (twice pic) k) → T (inside pic (k / 2))
  halved k t =
      let p = some_twice k t in
      own pic f (k / 2) (omega (arith, column_in (twice pic) k t, column_twice k p)) (omega (arith, row_in (twice pic) k t, row_twice k p))

  fits_twice : (twice pic).width ≤ (twice pic).pitch
  fits_twice = omega arith

  -- a number is one of a block's where it is in the first or the second of its tiles
  pub in_tile_lem : (bx by side k : ℕ) → side < 2 → InTile (twice pic) (2 * bx + side) by k → InTile pic bx by (k / 2)
  in_tile_lem bx by side k s z =
      let p = some_twice k z.within in
      let c = column_twice k p in
      let r = row_twice k p in
      record {
        within = halved k z.within;
        across = half (column pic (k / 2)) (k % 2) bx side (omega arith) s (sym (ap (λ (x : ℕ). x / 4) c) ∙ z.across);
        down = sym (ap (λ (x : ℕ). x / 4) r) ∙ z.down;
      }
    where
      half : (x c b s : ℕ) → c < 2 → s < 2 → (2 * x + c) / 4 ≡ 2 * b + s → x / 4 ≡ b
      half x c b s h i e = omega arith

  at_tile : (bx by side k : ℕ) → InTile pic bx by (k / 2) → column pic (k / 2) % 4 / 2 ≡ side → InTile (twice pic) (2 * bx + side) by k
  at_tile bx by side k z e =
      let p = some (k / 2) z.within in
      let c = column_twice k p in
      let r = row_twice k p in
      record {
        within = own (twice pic) fits_twice k (omega (arith, column_in pic (k / 2) z.within, c)) (omega (arith, row_in pic (k / 2) z.within, r));
        across = ap (λ (x : ℕ). x / 4) c ∙ halves (column pic (k / 2)) (k % 2) bx side (omega arith) z.across e;
        down = ap (λ (x : ℕ). x / 4) r ∙ z.down;
      }
    where
      halves : (x c b s : ℕ) → c < 2 → x / 4 ≡ b → x % 4 / 2 ≡ s → (2 * x + c) / 4 ≡ 2 * b + s
      halves x c b s h i e = omega arith

  pub one_of : (bx by k : ℕ) → InTile pic bx by (k / 2) → InTile (twice pic) (2 * bx + 0) by k ⊎ InTile (twice pic) (2 * bx + 1) by k
  one_of bx by k z =
      elim (dec_lt (column pic (k / 2) % 4) 2) [
        | yes h ↦ inl (at_tile bx by 0 k z (omega (arith, h)))
        | no h ↦ inr (at_tile bx by 1 k z (omega (arith, h)))
      ]

  -- an image with two elements for each that the picture needs has every one of the wider picture
  pub room_twice : (n : ℕ) → 2 * needed pic ≤ n → Room (twice pic) n
  room_twice n h = record { fits = fits_twice; reach = λ k t. omega (arith, within pic (k / 2) (halved k t)) }

  -- what the two tiles hold
  module _ (signed : Bool) (d red green : List ℕ) (er : red ≡ build 16 (value_at signed d)) (eg : green ≡ build 16 (value_at signed (drop 8 d))) where
    lane : (c j : ℕ) → c < 2 → j < 16 → get_or (get_or (red ∷ green ∷ []) c []) j 0 ≡ whole_pixel signed c d (j % 4) (j / 4)
    unfolding whole_pixel
    lane zero j h i = ap (λ (l : List ℕ). get_or l j 0) er ∙ get_or_build (value_at signed d) 0 16 j i
    lane (suc zero) j h i = ap (λ (l : List ℕ). get_or l j 0) eg ∙ get_or_build (value_at signed (drop 8 d)) 0 16 j i
    lane (suc (suc c)) j h i = absurd (omega arith)

    -- a tile of them has the value of each of its pixels
    pub held : (bx by side k : ℕ) (t : List ℕ) → side < 2 → t ≡ build 16 (paired red green side) → InTile (twice pic) (2 * bx + side) by k
        → get_or t (number_in (twice pic) k) 0 ≡ whole_pixel signed (k % 2) d (column pic (k / 2) % 4) (row pic (k / 2) % 4)
    unfolding paired
    held bx by side k t s e z =
        let p = some_twice k z.within in
        let x = column pic (k / 2) in
        let y = row pic (k / 2) in
        let c = k % 2 in
        let n = y % 4 * 4 + (2 * x + c) % 4 in
        let m = placed x y c bx side (omega arith) s (sym (ap (λ (u : ℕ). u / 4) (column_twice k p)) ∙ z.across) in
        ap (λ (l : List ℕ). get_or l (number_in (twice pic) k) 0) e
        ∙ ap (λ (u : ℕ). get_or (build 16 (paired red green side)) (u % 4 * 4 + column (twice pic) k % 4) 0) (row_twice k p)
        ∙ ap (λ (u : ℕ). get_or (build 16 (paired red green side)) (y % 4 * 4 + u % 4) 0) (column_twice k p)
        ∙ get_or_build (paired red green side) 0 16 n m.0
        ∙ ap (λ (u : ℕ). get_or (get_or (red ∷ green ∷ []) u []) (n / 4 * 4 + side * 2 + n % 4 / 2) 0) m.1
        ∙ ap (λ (u : ℕ). get_or (get_or (red ∷ green ∷ []) c []) u 0) m.2
        ∙ lane c (y % 4 * 4 + x % 4) (omega arith) (omega arith)
        ∙ ap (λ (u : ℕ). whole_pixel signed c d u ((y % 4 * 4 + x % 4) / 4)) m.3
        ∙ ap (λ (u : ℕ). whole_pixel signed c d (x % 4) u) m.4
      where
        placed : (x y c b s : ℕ) → c < 2 → s < 2 → (2 * x + c) / 4 ≡ 2 * b + s
            → (y % 4 * 4 + (2 * x + c) % 4 < 16)
            × ((y % 4 * 4 + (2 * x + c) % 4) % 2 ≡ c)
            × ((y % 4 * 4 + (2 * x + c) % 4) / 4 * 4 + s * 2 + (y % 4 * 4 + (2 * x + c) % 4) % 4 / 2 ≡ y % 4 * 4 + x % 4)
            × ((y % 4 * 4 + x % 4) % 4 ≡ x % 4)
            × ((y % 4 * 4 + x % 4) / 4 ≡ y % 4)
        placed x y c b s h i e = (omega arith, omega arith, omega arith, omega arith, omega arith)

    -- and the two are the block
    pub both_tiles : (bx by first : ℕ) (left right old mid new : List ℕ) → first ≡ 2 * bx + 0
        → left ≡ build 16 (paired red green 0)
        → right ≡ build 16 (paired red green 1)
        → Painted (InTile (twice pic) first by) (λ k. get_or left (number_in (twice pic) k) 0) old mid
        → Painted (InTile (twice pic) (2 * bx + 1) by) (λ k. get_or right (number_in (twice pic) k) 0) mid new
        → PaintsBlock 2 signed d pic bx by old new
    both_tiles bx by first left right old mid new e el er p q =
        also (InTile (twice pic) (2 * bx + 0) by) (InTile (twice pic) (2 * bx + 1) by) (λ k. InTile pic bx by (k / 2)) v old mid new
        (said _ _ (λ k. get_or left (number_in (twice pic) k) 0) v old mid
        (subst (λ (m : ℕ). Painted (InTile (twice pic) m by) (λ k. get_or left (number_in (twice pic) k) 0) old mid) e p)
        (λ k z. z) (λ k z. z) (λ k z. held bx by 0 k left (omega arith) el z))
        (said _ _ (λ k. get_or right (number_in (twice pic) k) 0) v mid new q (λ k z. z) (λ k z. z) (λ k z. held bx by 1 k right (omega arith) er z))
        (λ k z. in_tile_lem bx by 0 k (omega arith) z)
        (λ k z. in_tile_lem bx by 1 k (omega arith) z)
        (λ k z. ⊎_elim (λ w. inl (w, λ o. omega (arith, w.across, o.across))) (λ w. inr w) (one_of bx by k z))
      where
        v : ℕ → ℕ
        v k = whole_pixel signed (k % 2) d (column pic (k / 2) % 4) (row pic (k / 2) % 4)
