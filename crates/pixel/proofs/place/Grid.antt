-- Rows and columns: of numbers, and of the elements of a picture. What is said of a picture elsewhere leans on these laws
-- alone, and not on how its elements are numbered.
-- Assumes nothing.
use mathlib.Core.Path.{◌≡◌, ◌∙◌, refl, sym, ap}
use mathlib.Core.Logic.{◌⊎◌, ⊎_elim}
use mathlib.Core.Bool.{Bool, true, false, cond, ◌&&◌, ◌||◌}
use Prim.Native.Nat.{ℕ, suc, ◌+◌, ◌-◌, ◌*◌, ◌/◌, ◌%◌, ◌<◌, ◌≤◌}
use native.Mathlib.Nat.{mul-add-mod_self_right, mul-add-div_right, mod-eq_of_lt, div-eq_of_lt, add-zero, div-add-mod'}
use native.Mathlib.Nat.{mul-le-mul_right, mul-zero, suc-mul, eq-zero-or-pos}
use native.Mathlib.Omega.{arith}
use lib.Dec.{T, ltb, eqb, ltb→lt, lt→ltb}
use borrow.Author.Tests.{ne_eqb}
use Rattle.rules.specs.Places.{element, column, row, inside, needed, across}
use Rattle.rules.specs.declared.Picture.{Picture}
use Rattle.pixel.specs.place.Tile.{Room}

-- what stands at y * p + x is in column x and row y, of columns p
pub rem_at : (p x y : ℕ) → x < p → (y * p + x) % p ≡ x
rem_at p x y h = mul-add-mod_self_right y p x ∙ mod-eq_of_lt h

pub div_at : (p x y : ℕ) → x < p → (y * p + x) / p ≡ y
div_at p x y h = mul-add-div_right (omega arith) y x ∙ ap (λ (z : ℕ). y + z) (div-eq_of_lt h) ∙ add-zero y

-- and before row h, where y is
pub before : (p x y h : ℕ) → x < p → y < h → y * p + x < h * p
before p x y h i j =
    let a : suc y * p ≤ h * p = mul-le-mul_right p j in
    let b : suc y * p ≡ y * p + p = suc-mul y p in
    omega arith

-- a number below a product has a factor above 0
pub wide : (p h k : ℕ) → k < h * p → 0 < p
wide p h k i = ⊎_elim (λ e. absurd (gone e)) (λ q. q) (eq-zero-or-pos p)
  where
    gone : p ≡ 0 → ⊥
    gone e = let z : h * p ≡ 0 = rw e (mul-zero h) in omega arith

-- a place of a side lies in one of its blocks
pub covered : (x n : ℕ) → x < n → x / 4 < across n
covered x n h = omega arith

-- both of two tests
fst : (s t : Bool) → T (s && t) → T s
fst true t h = tt
fst false t h = absurd h

snd : (s t : Bool) → T (s && t) → T t
snd true t h = h
snd false t h = absurd h

both : (s t : Bool) → T s → T t → T (s && t)
both true t h i = i
both false t h i = absurd h

not_so : (t : Bool) → (T t → ⊥) → t ≡ false
not_so true h = absurd (h tt)
not_so false h = refl

module _ (pic : Picture) where
  -- the picture's own elements have a column and a row of it
  pub column_in : (k : ℕ) → T (inside pic k) → column pic k < pic.width
  column_in k t = ltb→lt (column pic k) pic.width (fst (ltb (column pic k) pic.width) (ltb (row pic k) pic.height) t)

  pub row_in : (k : ℕ) → T (inside pic k) → row pic k < pic.height
  row_in k t = ltb→lt (row pic k) pic.height (snd (ltb (column pic k) pic.width) (ltb (row pic k) pic.height) t)

  -- an element is the pixel at its column and row
  pub only : (k x y : ℕ) → column pic k ≡ x → row pic k ≡ y → k ≡ element pic x y
  only k x y e f =
      sym (div-add-mod' k pic.pitch)
      ∙ ap (λ (z : ℕ). row pic k * pic.pitch + z) e
      ∙ ap (λ (z : ℕ). z * pic.pitch + x) f

  -- the pixels of a row stand one after another
  pub beside : (x y i : ℕ) → element pic (x + i) y ≡ element pic x y + i
  beside x y i = omega arith

  -- a place of a row, in its gap too, is in its column and its row
  pub column_at : (x y : ℕ) → x < pic.pitch → column pic (element pic x y) ≡ x
  column_at x y i = rem_at pic.pitch x y i

  pub row_at : (x y : ℕ) → x < pic.pitch → row pic (element pic x y) ≡ y
  row_at x y i = div_at pic.pitch x y i

  -- and so is the pixel (x, y), which is the picture's own, where a row fits into the pitch
  pub inside_at : pic.width ≤ pic.pitch → (x y : ℕ) → x < pic.width → y < pic.height → T (inside pic (element pic x y))
  inside_at f x y i j =
      both (ltb (column pic (element pic x y)) pic.width) (ltb (row pic (element pic x y)) pic.height)
      (lt→ltb (column pic (element pic x y)) pic.width (omega (arith, column_at x y (omega arith))))
      (lt→ltb (row pic (element pic x y)) pic.height (omega (arith, row_at x y (omega arith))))

  -- the image has the pixel (x, y)
  pub reached : (x y n : ℕ) → Room pic n → x < pic.width → y < pic.height → element pic x y < n
  reached x y n r i j = r.reach (element pic x y) (inside_at r.fits x y i j)

  -- and n pixels of its row, from that one on
  pub reached_all : (x y n m : ℕ) → Room pic m → 0 < n → x + n ≤ pic.width → y < pic.height → element pic x y + n ≤ m
  reached_all x y n m r p i j = let t = reached (x + (n - 1)) y m r (omega arith) j in omega (arith, beside x y (n - 1))

  -- a picture with a pixel needs its rows but the last by their pitch, and the last by its width
  pub some_needed : 0 < pic.width → 0 < pic.height → needed pic ≡ (pic.height - 1) * pic.pitch + pic.width
  unfolding needed
  some_needed i j = rw (ne_eqb pic.width 0 (λ z. omega (arith, z)), ne_eqb pic.height 0 (λ z. omega (arith, z)))

  -- each of its own elements is one of those that it needs
  pub within : (k : ℕ) → T (inside pic k) → k < needed pic
  within k t =
      let x = column_in k t in
      let y = row_in k t in
      let a : row pic k * pic.pitch ≤ (pic.height - 1) * pic.pitch = mul-le-mul_right pic.pitch (omega arith) in
      omega (arith, div-add-mod' k pic.pitch, some_needed (omega arith) (omega arith))

  -- and one without a pixel needs none
  pub none_needed : (pic.width ≡ 0) ⊎ (pic.height ≡ 0) → needed pic ≡ 0
  unfolding needed
  none_needed = ⊎_elim (λ e. rw e) (λ e. rw e (nothing (eqb pic.width 0)))
    where
      nothing : (t : Bool) → cond (t || true) 0 ((0 - 1) * pic.pitch + pic.width) ≡ 0
      nothing true = refl
      nothing false = refl

  -- what stands behind them is no pixel, and neither is what stands in the gap of a row
  pub beyond : (k : ℕ) → needed pic ≤ k → inside pic k ≡ false
  beyond k h = not_so (inside pic k) (λ t. omega (arith, within k t))

  pub in_gap : (x y : ℕ) → pic.width ≤ x → x < pic.pitch → inside pic (element pic x y) ≡ false
  in_gap x y h i =
      not_so (inside pic (element pic x y)) (λ t. omega (arith, column_in (element pic x y) t, column_at x y i))

  -- an image as long as the picture needs has every element of it
  pub roomy : (n : ℕ) → pic.width ≤ pic.pitch → needed pic ≤ n → Room pic n
  roomy n f h = record { fits = f; reach = λ k t. omega (arith, within k t) }

  -- and so has one as long as another that has
  pub kept : (n m : ℕ) → Room pic n → m ≡ n → Room pic m
  kept n m r e = record { fits = r.fits; reach = λ k t. omega (arith, r.reach k t) }
