-- A row piece of a picture, and the row pieces of a tile one after another.
-- Assumes nothing.
use mathlib.Core.Path.{◌≡◌, ◌∙◌, refl, sym, ap, subst}
use mathlib.Core.List.{List, ◌++◌}
use mathlib.Core.Logic.{inl, inr, ⊎_elim}
use Prim.Native.Nat.{ℕ, ◌+◌, ◌-◌, ◌*◌, ◌/◌, ◌%◌, ◌<◌, ◌≤◌}
use native.Mathlib.Omega.{arith}
use native.Mathlib.Nat.{eq-or-lt_of_le}
use lib.Dec.{T}
use lib.ListN.{length, get_or, take, drop, length-take, length-drop}
use Rattle.rules.specs.Places.{element, column, row, inside}
use Rattle.rules.specs.declared.Picture.{Picture}
use Rattle.laws.specs.Painted.{PaintedOver}
use Rattle.laws.proofs.Paint.{none, said, also, lent}
use Rattle.pixel.specs.place.Tile.{InPiece, InTile, Room, PaintsTile, number_in, shown, in_row}
use Rattle.pixel.proofs.place.Grid.{column_at, row_at, inside_at, only, column_in, row_in, beside, reached_all}

-- x in column bx of fours is bx * 4 and its place there
four : (x bx : ℕ) → x / 4 ≡ bx → x ≡ bx * 4 + x % 4
four x bx e = omega arith

module _ (pic : Picture) where
  -- the elements of a row piece: the n pixels from the first of column bx of tiles on
  module _ (bx y n : ℕ) (w : bx * 4 < pic.width) (e : n ≡ shown pic.width bx) (j : y < pic.height) where
    pub enough : (m : ℕ) → Room pic m → element pic (bx * 4) y + n ≤ m
    enough m r = reached_all pic (bx * 4) y n m r (omega arith) (omega arith) j

    at : (k : ℕ) → InPiece pic bx y k → (k ≡ element pic (bx * 4) y + column pic k % 4) × (column pic k % 4 < n)
    at k z =
        let f = four (column pic k) bx z.across in (
          only pic k (bx * 4 + column pic k % 4) y f z.down ∙ beside pic (bx * 4) y (column pic k % 4),
          omega (arith, column_in pic k z.within),
        )

    back : pic.width ≤ pic.pitch → (k : ℕ) → element pic (bx * 4) y ≤ k → k < element pic (bx * 4) y + n → InPiece pic bx y k
    back f k l h =
        let i = k - element pic (bx * 4) y in
        let x : bx * 4 + i < pic.width = omega arith in
        let s : k ≡ element pic (bx * 4 + i) y = omega (arith, beside pic (bx * 4) y i) in
        record {
          within = subst (λ (m : ℕ). T (inside pic m)) (sym s) (inside_at pic f (bx * 4 + i) y x j);
          across = ap (λ (m : ℕ). column pic m / 4) s ∙ ap (λ (m : ℕ). m / 4) (column_at pic (bx * 4 + i) y (omega arith)) ∙ omega arith;
          down = ap (row pic) s ∙ row_at pic (bx * 4 + i) y (omega arith);
        }

    -- row i of a tile, written through the piece
    pub pieced : {A : Type 0} {d : A} (t : List A) (i m : ℕ) (old part : List A) → Room pic (length old) → m ≡ n
        → PaintedOver d (λ k. k < length (take m (drop (element pic (bx * 4) y) old))) (λ k. get_or t (i * 4 + k) d) (take m (drop (element pic (bx * 4) y) old)) part
        → PaintedOver d (InPiece pic bx y) (in_row d pic t i) old (take (element pic (bx * 4) y) old ++ (part ++ drop m (drop (element pic (bx * 4) y) old)))
    pieced {A} {d} t i m old part r q p =
        let o = enough (length old) r in
        let s : length (take m (drop (element pic (bx * 4) y) old)) ≡ n = simp (length-take, length-drop) (omega arith) in
        said _ _ _ _ old _ (lent _ _ (element pic (bx * 4) y) m old part (omega arith) p)
        (λ k z. let u = at k z in (omega arith, omega arith, omega arith))
        (λ k z. back r.fits k z.0 (omega (arith, z.1)))
        (λ k z. let u = at k z in ap (λ (m : ℕ). get_or t (i * 4 + m) d) (omega arith))

  -- the end of a row piece, as the function has it that paints row i of a tile there
  pub row_end : (bx y : ℕ) {i n m : ℕ} → (i < 4) × (y < pic.height) × (bx * 4 < pic.width) × (n ≡ shown pic.width bx) × Room pic m → y * pic.pitch + bx * 4 + n ≤ m
  row_end bx y {i} {n} {m} r = enough bx y n r.2 r.3 r.1 m r.4

  -- the pixels of a tile that are painted with the first i rows of it
  abbrev pub First : ℕ → ℕ → ℕ → ℕ → Type 0
  First bx by i k = InTile pic bx by k × (row pic k < by * 4 + i)

  -- what holds before turn i of m: so many rows of the tile t have been painted, over old
  abbrev pub Turned : {A : Type 0} → ℕ → ℕ → ℕ → List A → List A → List A → ℕ → Type 0
  Turned bx by m t old new i = (i ≤ m) × ((d : _) → PaintedOver d (First bx by i) (λ k. get_or t (number_in pic k) d) old new)

  -- one turn
  pub turn : {A : Type 0} (bx by i m : ℕ) (t old mid new : List A) → i < m → m ≤ 4 → Turned bx by m t old mid i
      → ((d : A) → PaintedOver d (InPiece pic bx (by * 4 + i)) (in_row d pic t i) mid new) → Turned bx by m t old new (i + 1)
  turn bx by i m t old mid new n f a b = (
    omega arith,
    λ d. also (First bx by i) (InPiece pic bx (by * 4 + i)) (First bx by (i + 1)) (λ k. get_or t (number_in pic k) d) old mid new (a.1 d)
        (said _ _ (in_row d pic t i) (λ k. get_or t (number_in pic k) d) mid new (b d) (λ k z. z) (λ k z. z)
        (λ k z. let q = z.down in ap (λ (j : ℕ). get_or t (j * 4 + column pic k % 4) d) (place (row pic k) q)))
        (λ k z. (z.0, omega (arith, z.1)))
        (λ k z. let q = z.down in (record { within = z.within; across = z.across; down = omega arith }, omega arith))
        (λ k z.
        ⊎_elim (λ e. inr (record { within = z.0.within; across = z.0.across; down = e }))
        (λ l. inl ((z.0, l), λ o. omega (arith, o.down)))
        (eq-or-lt_of_le {n = row pic k} {m = by * 4 + i} (omega (arith, z.1)))),
  )
    where
      place : (y : ℕ) → y ≡ by * 4 + i → i ≡ y % 4
      place y e = omega arith

  -- after the last turn, the tile
  pub whole : {A : Type 0} (bx by i m : ℕ) (t old new : List A) → m ≡ shown pic.height by → m ≤ i → Turned bx by m t old new i → PaintsTile t pic bx by old new
  whole bx by i m t old new e h a d =
      said _ _ _ _ old new (a.1 d) (λ k z. (z, omega (arith, row_in pic k z.within, z.down))) (λ k z. z.0) (λ k z. refl)

  -- a tile beside the picture has no pixel
  pub nothing : {A : Type 0} (bx by : ℕ) (t l : List A) → pic.width ≤ bx * 4 → PaintsTile t pic bx by l l
  nothing bx by t l o d = none _ _ l (λ k z. omega (arith, column_in pic k z.within, z.across))
