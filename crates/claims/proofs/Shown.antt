-- What an older viewer shows wrong, in numbers: what its counts say of the pictures of the two plain readers, of the blocks that its guard
-- refuses, and of every pixel. All of it is over the guard; the two pairs stand at the end, each with a block that is refused though every
-- pixel of it is right.
-- Assumes nothing.
use mathlib.Core.Path.{◌≡◌, ◌∙◌, refl, sym, ap}
use mathlib.Core.Bool.{Bool, true, false, cond, not, ◌&&◌, true≢false}
use mathlib.Core.List.{List, [], ◌∷◌}
use mathlib.Core.Logic.{⊎_elim}
use Prim.Native.Nat.{ℕ, zero, suc, ◌+◌, ◌-◌, ◌*◌, ◌/◌, ◌%◌, ◌<◌, ◌≤◌, max}
use native.Mathlib.Omega.{arith}
use native.Mathlib.Decide.{dec_lt}
use native.Mathlib.Nat.{eq-or-lt_of_le, div-add-mod'}
use borrow.Author.Tests.{ltb-true, lt-ltb, le-ltb, eqb-true, eq-eqb}
use lib.Dec.{T as So, ltb, eqb}
use lib.ListN.{length, get_or}
use Rattle.rules.specs.Pixel.{alpha_of}
use Rattle.rules.specs.Places.{element, column, row, inside, across, needed, blocks, block_at, bytes_of, pixel_at, tile}
use Rattle.rules.specs.Answers.{first_of, guarded}
use Rattle.rules.specs.Census.{count_of}
use Rattle.rules.specs.Checking.{apart, farthest}
use Rattle.rules.specs.Colour.{out_of_range_lem, kind_by_sums_lem, wrapped}
use Rattle.rules.specs.Counting.{sum_of, most_of}
use Rattle.rules.specs.Formats.{size_of, shows_of}
use Rattle.rules.specs.Guards.{Guard, bad_at}
use Rattle.rules.specs.Modes.{etc1_pixel, rgb_pixel, indexed, t_bases, t_distance}
use Rattle.rules.specs.Readers.{picture_of}
use Rattle.rules.specs.declared.Picture.{Picture}
use Rattle.laws.proofs.Counts.{nowhere, somewhere}
use Rattle.laws.proofs.First.{first}
use Rattle.laws.proofs.Guards.{Sound, none_bad}
use Rattle.laws.proofs.Paint.{painted_same, get_d_painted}
use Rattle.pixel.proofs.place.Grid.{rem_at, div_at, covered, column_in, row_in, column_at, row_at, inside_at, reached, roomy}
use Rattle.blocks.proofs.Blocks.{block_in}
use Rattle.rules.specs.Older.{older_at, newer_at, in_picture, wrong_at, has_wrong, colour_off_lem, alpha_off_lem}
use Rattle.rules.specs.Older.{wrong_pixels, wrong_blocks, first_block_lem, most_colour, most_alpha}
use Rattle.older.proofs.Turn.{nothing}
use Rattle.older.proofs.Place.{some_of}

-- ---- laws of the words that the definitions use

most_bounds : (f : ℕ → ℕ) (n k : ℕ) → k < n → f k ≤ most_of f n
unfolding most_of
most_bounds f zero k h = absurd (omega arith)
most_bounds f (suc n) k h =
    ⊎_elim
    (λ e. let z : f k ≡ f n = ap f e in omega (arith, z))
    (λ l. let i = most_bounds f n k l in omega (arith, i))
    (eq-or-lt_of_le {n = k} {m = n} (omega arith))

-- a place at which f is m
pub record Reached (f : ℕ → ℕ) (n m : ℕ) : Type 0 where
  pub at : ℕ
  pub within : at < n
  pub is : f at ≡ m

most_reached : (f : ℕ → ℕ) (n : ℕ) → 0 < most_of f n → Reached f n (most_of f n)
unfolding most_of
most_reached f zero h = absurd (omega arith)
most_reached f (suc n) h =
    elim (dec_lt (f n) (most_of f n)) [
      | yes l ↦
          let r = most_reached f n (omega (arith, l)) in
          let e : most_of f n ≡ max (f n) (most_of f n) = omega (arith, l) in
          record { at = r.at; within = omega (arith, r.within); is = r.is ∙ e }
      | no l ↦ let e : f n ≡ max (f n) (most_of f n) = omega (arith, l) in record { at = n; within = omega arith; is = e }
    ]

most_nothing : (f : ℕ → ℕ) (n : ℕ) → ((k : ℕ) → k < n → f k ≡ 0) → most_of f n ≡ 0
most_nothing f n h =
    elim (dec_lt 0 (most_of f n)) [
      | yes l ↦ let r = most_reached f n l in absurd (omega (arith, l, r.is, h r.at r.within))
      | no l ↦ omega (arith, l)
    ]

sum_nothing : (f : ℕ → ℕ) (n : ℕ) → ((k : ℕ) → k < n → f k ≡ 0) → sum_of f n ≡ 0
unfolding sum_of
sum_nothing f zero h = refl
sum_nothing f (suc n) h = let a = sum_nothing f n (λ k l. h k (omega (arith, l))) in let b = h n (omega arith) in omega (arith, a, b)

no_part : (f : ℕ → ℕ) (n k : ℕ) → sum_of f n ≡ 0 → k < n → f k ≡ 0
unfolding sum_of
no_part f zero k e h = absurd (omega arith)
no_part f (suc n) k e h =
    ⊎_elim
    (λ q. let z : f k ≡ f n = ap f q in omega (arith, z, e))
    (λ l. no_part f n k (omega (arith, e)) l)
    (eq-or-lt_of_le {n = k} {m = n} (omega arith))

no_later : (t u : ℕ → Bool) (n : ℕ) → ((k : ℕ) → t k ≡ true → u k ≡ true) → first_of u n ≤ first_of t n
no_later t u n h =
    elim (dec_lt (first_of t n) (first_of u n)) [
      | yes l ↦
          let f = (first t n).found (omega (arith, l, (first u n).within)) in
          absurd (true≢false (sym (h (first_of t n) f) ∙ (first u n).none (first_of t n) l))
      | no l ↦ omega (arith, l)
    ]

both : (a b : Bool) → (a && b) ≡ true → (a ≡ true) × (b ≡ true)
both true b e = (refl, e)
both false b e = absurd (true≢false (sym e))

from_so : (a : Bool) → So a → a ≡ true
from_so true s = refl
from_so false s = absurd s

not_wrong : (shown : Bool) (q r : ℕ) → (shown ≡ true → q ≡ r) → (shown && not (eqb q r)) ≡ false
not_wrong true q r f = rw (eq-eqb q r (f refl))
not_wrong false q r f = refl

-- two colours that are the same are not apart
near : (p : ℕ) → farthest p p ≡ 0
unfolding farthest
near p = omega arith

-- ---- the blocks that the guard refuses, and those that are counted

module _ (g : Guard) (sound : Sound g) (eight : size_of g.own ≡ 8) (p : Picture) (d : List ℕ) where
  -- both rules show the same of a block that the guard lets pass
  good : (n : ℕ) → bad_at g d n ≡ false → 16 ≡ first_of (wrong_at g p d n) 16
  good n h =
      let e : g.bad (bytes_of 8 d n) ≡ false = ap (λ (s : ℕ). g.bad (bytes_of s d n)) (sym eight) ∙ h in
      (nothing (in_picture p n) (older_at g d n) (newer_at g d n) (λ k. sound.agree (bytes_of 8 d n) (k % 4) (k / 4) e)).first

  right : (n k : ℕ) → bad_at g d n ≡ false → k < 16 → wrong_at g p d n k ≡ false
  right n k h l = (first (wrong_at g p d n) 16).none k (omega (arith, good n h, l))

  -- "every block counted is one that strict (opaque-only) refuses"
  pub every_counted_block_is_refused : (n : ℕ) → has_wrong g p d n ≡ true → bad_at g d n ≡ true
  every_counted_block_is_refused n h = decide (bad_at g d n) refl
    where
      decide : (t : Bool) → bad_at g d n ≡ t → bad_at g d n ≡ true
      decide true e = e
      decide false e = absurd (true≢false (sym h ∙ le-ltb (first_of (wrong_at g p d n) 16) 16 (omega (arith, good n e))))

  -- "the first refused block is at or before the first counted"
  pub the_first_refused_is_no_later : (n : ℕ) → first_of (bad_at g d) n ≤ first_block_lem g p d n
  the_first_refused_is_no_later n = no_later (has_wrong g p d) (bad_at g d) n every_counted_block_is_refused

  -- "where strict (opaque-only) accepts, nothing is counted"
  module _ (accepts : guarded g.number (bad_at g d) (blocks p) ≡ 0 ∷ []) where
    none : (n k : ℕ) → n < blocks p → k < 16 → wrong_at g p d n k ≡ false
    none n k h l = right n k (none_bad g.number (bad_at g d) (blocks p) sound.is_refusal accepts n h) l

    lacks : (n : ℕ) → n < blocks p → has_wrong g p d n ≡ false
    lacks n h = le-ltb (first_of (wrong_at g p d n) 16) 16 (omega (arith, good n (none_bad g.number (bad_at g d) (blocks p) sound.is_refusal accepts n h)))

    pub no_pixel_is_counted : wrong_pixels g p d (blocks p) ≡ 0
    no_pixel_is_counted = sum_nothing _ (blocks p) (λ n h. nowhere (wrong_at g p d n) 16 (λ k l. none n k h l))

    pub no_block_is_counted : wrong_blocks g p d (blocks p) ≡ 0
    no_block_is_counted = nowhere (has_wrong g p d) (blocks p) lacks

    pub no_block_is_first : first_block_lem g p d (blocks p) ≡ blocks p
    no_block_is_first =
        elim (dec_lt (first_of (has_wrong g p d) (blocks p)) (blocks p)) [
          | yes l ↦ absurd (true≢false (sym ((first (has_wrong g p d) (blocks p)).found l) ∙ lacks _ l))
          | no l ↦ omega (arith, l, (first (has_wrong g p d) (blocks p)).within)
        ]

    pub no_colour_is_off : most_colour g p d (blocks p) ≡ 0
    no_colour_is_off =
        most_nothing _ (blocks p) (λ n h. most_nothing _ 16 (λ k l. ap (λ (t : Bool). cond t (farthest (older_at g d n k) (newer_at g d n k)) 0) (none n k h l)))

    pub no_alpha_is_off : most_alpha g p d (blocks p) ≡ 0
    no_alpha_is_off =
        most_nothing _ (blocks p)
        (λ n h. most_nothing _ 16 (λ k l. ap (λ (t : Bool). cond t (apart (alpha_of (older_at g d n k)) (alpha_of (newer_at g d n k))) 0) (none n k h l)))

-- ---- "the largest difference bounds every channel of every pixel and is reached"

module _ (g : Guard) (p : Picture) (d : List ℕ) where
  -- a pixel that is shown is off by its difference
  off : (shown : Bool) (q r v : ℕ) → (q ≡ r → v ≡ 0) → shown ≡ true → v ≤ cond (shown && not (eqb q r)) v 0
  off shown q r v z h = rw h (decide (eqb q r) refl)
    where
      decide : (t : Bool) → eqb q r ≡ t → v ≤ cond (not t) v 0
      decide true e = omega (arith, z (eqb-true q r e))
      decide false e = omega arith

  module _ (n k : ℕ) (h : n < blocks p) (l : k < 16) (s : in_picture p n k ≡ true) where
    pub the_largest_colour_bounds : farthest (older_at g d n k) (newer_at g d n k) ≤ most_colour g p d (blocks p)
    the_largest_colour_bounds =
        let a = off (in_picture p n k) (older_at g d n k) (newer_at g d n k) (farthest (older_at g d n k) (newer_at g d n k))
        (λ e. ap (λ (z : ℕ). farthest z (newer_at g d n k)) e ∙ near (newer_at g d n k)) s in
        let b = most_bounds (colour_off_lem (in_picture p n) (older_at g d n) (newer_at g d n)) 16 k l in
        let c = most_bounds (λ b. most_of (colour_off_lem (in_picture p b) (older_at g d b) (newer_at g d b)) 16) (blocks p) n h in
        omega (arith, a, b, c)

    pub the_largest_alpha_bounds : apart (alpha_of (older_at g d n k)) (alpha_of (newer_at g d n k)) ≤ most_alpha g p d (blocks p)
    the_largest_alpha_bounds =
        let a = off (in_picture p n k) (older_at g d n k) (newer_at g d n k) (apart (alpha_of (older_at g d n k)) (alpha_of (newer_at g d n k)))
        (λ e. let z = ap alpha_of e in omega (arith, z)) s in
        let b = most_bounds (alpha_off_lem (in_picture p n) (older_at g d n) (newer_at g d n)) 16 k l in
        let c = most_bounds (λ b. most_of (alpha_off_lem (in_picture p b) (older_at g d b) (newer_at g d b)) 16) (blocks p) n h in
        omega (arith, a, b, c)

  -- a pixel of the picture whose difference is m
  pub record Shown (difference : ℕ → ℕ → ℕ) (m : ℕ) : Type 0 where
    pub block : ℕ
    pub place : ℕ
    pub in_it : block < blocks p
    pub in_block : place < 16
    pub is_shown_lem : in_picture p block place ≡ true
    pub is : difference (older_at g d block place) (newer_at g d block place) ≡ m

  -- what is not 0 is the difference of a pixel that is shown
  told : (t : Bool) (v m : ℕ) → cond t v 0 ≡ m → 0 < m → (t ≡ true) × (v ≡ m)
  told true v m e h = (refl, e)
  told false v m e h = absurd (omega (arith, e, h))

  off_by : (ℕ → ℕ → ℕ) → ℕ → ℕ → ℕ
  off_by difference b k = cond (wrong_at g p d b k) (difference (older_at g d b k) (newer_at g d b k)) 0

  most_shown : (difference : ℕ → ℕ → ℕ) → 0 < most_of (λ b. most_of (off_by difference b) 16) (blocks p) → Shown difference (most_of (λ b. most_of (off_by difference b) 16) (blocks p))
  unfolding off_by most_of
  most_shown difference h =
      let r = most_reached (λ b. most_of (off_by difference b) 16) (blocks p) h in
      let q = most_reached (off_by difference r.at) 16 (omega (arith, h, r.is)) in
      let v = told (wrong_at g p d r.at q.at) (difference (older_at g d r.at q.at) (newer_at g d r.at q.at)) _ (q.is ∙ r.is) h in
      record {
        block = r.at;
        place = q.at;
        in_it = r.within;
        in_block = q.within;
        is_shown_lem = (both (in_picture p r.at q.at) _ v.0).0;
        is = v.1;
      }

  pub the_largest_colour_is_reached : 0 < most_colour g p d (blocks p) → Shown farthest (most_colour g p d (blocks p))
  unfolding off_by
  the_largest_colour_is_reached = most_shown farthest

  pub the_largest_alpha_is_reached : 0 < most_alpha g p d (blocks p) → Shown (λ q r. apart (alpha_of q) (alpha_of r)) (most_alpha g p d (blocks p))
  unfolding off_by
  the_largest_alpha_is_reached = most_shown (λ q r. apart (alpha_of q) (alpha_of r))

-- ---- "no pixel is counted exactly where the pictures of the two plain readers are equal"

-- the place of a pixel in its block, and the block of a place
placed : (x y : ℕ) → ((y % 4 * 4 + x % 4) % 4 ≡ x % 4) × ((y % 4 * 4 + x % 4) / 4 ≡ y % 4) × (y % 4 * 4 + x % 4 < 16)
placed x y = omega arith

-- a pixel of the picture is shown at its place
at_pixel : (w h x y : ℕ) → x < w → y < h
    → (ltb ((y / 4 * across w + x / 4) % across w * 4 + (y % 4 * 4 + x % 4) % 4) w && ltb ((y / 4 * across w + x / 4) / across w * 4 + (y % 4 * 4 + x % 4) / 4) h) ≡ true
at_pixel w h x y i j =
    let c = covered x w i in
    let q = placed x y in
    rw (rem_at (across w) (x / 4) (y / 4) c, div_at (across w) (x / 4) (y / 4) c, q.0, q.1, lt-ltb (x / 4 * 4 + x % 4) w (omega arith), lt-ltb (y / 4 * 4 + y % 4) h (omega arith))

-- and the pixel of a place, of block n of rows of m
of_place : (m n k : ℕ) → 0 < m → k < 16
    → ((n / m * 4 + k / 4) / 4 * m + (n % m * 4 + k % 4) / 4 ≡ n) × ((n % m * 4 + k % 4) % 4 ≡ k % 4) × ((n / m * 4 + k / 4) % 4 ≡ k / 4)
of_place m n k h l =
    let a : (n / m * 4 + k / 4) / 4 ≡ n / m = omega arith in
    let b : (n % m * 4 + k % 4) / 4 ≡ n % m = omega arith in
    (rw (a, b) (div-add-mod' n m), omega arith, omega arith)

module _ (g : Guard) (sound : Sound g) (eight : size_of g.own ≡ 8) (p : Picture) (d image : List ℕ) where
  other_eight : size_of g.shown ≡ 8
  other_eight = sym sound.one_size ∙ eight

  -- what is shown at element k, by the place
  by_eight : (s k : ℕ) → s ≡ 8 → (f : List ℕ → ℕ → ℕ → ℕ) → pixel_at f s p d k ≡ f (bytes_of 8 d (block_at p k)) (column p k % 4) (row p k % 4)
  by_eight s k e f = ap (λ (z : ℕ). f (bytes_of z d (block_at p k)) (column p k % 4) (row p k % 4)) e

  module _ (e : wrong_pixels g p d (blocks p) ≡ 0) where
    no_wrong : (n k : ℕ) → n < blocks p → k < 16 → wrong_at g p d n k ≡ false
    no_wrong n k h l = decide (wrong_at g p d n k) refl
      where
        decide : (t : Bool) → wrong_at g p d n k ≡ t → wrong_at g p d n k ≡ false
        decide true q = absurd (omega (arith, somewhere (wrong_at g p d n) 16 k l q, no_part (λ b. count_of (wrong_at g p d b) 16) (blocks p) n e h))
        decide false q = q

    same_at : (n k : ℕ) → n < blocks p → k < 16 → in_picture p n k ≡ true → older_at g d n k ≡ newer_at g d n k
    same_at n k h l s = alike (in_picture p n k) (eqb (older_at g d n k) (newer_at g d n k)) s (no_wrong n k h l) refl
      where
        alike : (a b : Bool) → a ≡ true → (a && not b) ≡ false → eqb (older_at g d n k) (newer_at g d n k) ≡ b → older_at g d n k ≡ newer_at g d n k
        alike true true s q r = eqb-true _ _ r
        alike true false s q r = absurd (true≢false q)
        alike false b s q r = absurd (true≢false (sym s))

    pub nothing_counted_then_alike : picture_of g.own p d image ≡ picture_of g.shown p d image
    nothing_counted_then_alike =
        painted_same (inside p) (pixel_at (shows_of g.own) (size_of g.own) p d) (pixel_at (shows_of g.shown) (size_of g.shown) p d) image
        (λ k i.
        let x = column p k in
        let y = row p k in
        let q = placed x y in
        by_eight (size_of g.own) k eight (shows_of g.own)
        ∙ sym (rw (q.0, q.1) at (sym (same_at (block_at p k) (y % 4 * 4 + x % 4) (block_in p k i) q.2 (at_pixel p.width p.height x y (column_in p k i) (row_in p k i)))))
        ∙ sym (by_eight (size_of g.shown) k other_eight (shows_of g.shown)))

  module _ (wide : p.width ≤ p.pitch) (long : needed p ≤ length image) (e : picture_of g.own p d image ≡ picture_of g.shown p d image) where
    same_pixel : (k : ℕ) → So (inside p k) → k < length image → pixel_at (shows_of g.own) (size_of g.own) p d k ≡ pixel_at (shows_of g.shown) (size_of g.shown) p d k
    same_pixel k i l =
        let t = from_so (inside p k) i in
        sym (ap (λ (b : Bool). cond b (pixel_at (shows_of g.own) (size_of g.own) p d k) (get_or image k 0)) t)
        ∙ sym (get_d_painted (inside p) (pixel_at (shows_of g.own) (size_of g.own) p d) image k l)
        ∙ ap (λ (z : List ℕ). get_or z k 0) e
        ∙ get_d_painted (inside p) (pixel_at (shows_of g.shown) (size_of g.shown) p d) image k l
        ∙ ap (λ (b : Bool). cond b (pixel_at (shows_of g.shown) (size_of g.shown) p d k) (get_or image k 0)) t

    at_place : (n k : ℕ) → 0 < across p.width → k < 16 → in_picture p n k ≡ true → older_at g d n k ≡ newer_at g d n k
    at_place n k some l s =
        let m = across p.width in
        let x = n % m * 4 + k % 4 in
        let y = n / m * 4 + k / 4 in
        let t = both (ltb x p.width) (ltb y p.height) s in
        let i = ltb-true x p.width t.0 in
        let j = ltb-true y p.height t.1 in
        let c = column_at p x y (omega (arith, i, wide)) in
        let r = row_at p x y (omega (arith, i, wide)) in
        let q = of_place m n k some l in
        let a = same_pixel (element p x y) (inside_at p wide x y i j) (reached p x y (length image) (roomy p (length image) wide long) i j) in
        rw (eight, other_eight, c, r, q.0, q.1, q.2) at a

    pub alike_then_nothing_counted : wrong_pixels g p d (blocks p) ≡ 0
    alike_then_nothing_counted = sum_nothing (λ b. count_of (wrong_at g p d b) 16) (blocks p) (λ n h.
        nowhere (wrong_at g p d n) 16
        (λ k l. not_wrong (in_picture p n k) (older_at g d n k) (newer_at g d n k) (at_place n k (some_of p n h (across p.width) refl) l)))

-- ---- "A refused block that shows no difference exists": of ETC1 for RGB, a T block. Of RGB for RGBA1, `white` (Older.antt)

abbrev pub hidden : List ℕ
hidden = 0xFB ∷ 0x33 ∷ 0x30 ∷ 0x1F ∷ 0xCC ∷ 0xCC ∷ 0xCC ∷ 0xCC ∷ []

pub refused_though_every_pixel_is_right : (out_of_range_lem hidden ≡ true) × (tile etc1_pixel hidden ≡ tile rgb_pixel hidden)
unfolding out_of_range_lem etc1_pixel rgb_pixel indexed kind_by_sums_lem wrapped t_bases t_distance
refused_though_every_pixel_is_right = (refl, refl)
