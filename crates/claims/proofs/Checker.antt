-- "A checker accepts exactly if the block is in range and each red, green and blue of each pixel differs from the tile by at most
-- the tolerance."
-- Assumes nothing.
use mathlib.Core.Path.{◌≡◌, ◌∙◌, refl, sym, ap}
use mathlib.Core.Bool.{Bool, true, false, cond, not, ◌&&◌}
use mathlib.Core.List.{List, [], ◌∷◌}
use Prim.Native.Nat.{ℕ, suc, ◌<◌, ◌≤◌, max}
use native.Mathlib.Omega.{arith}
use borrow.Author.Tests.{le-ltb, le-leb, leb-true, ltb-false}
use lib.Dec.{ltb, leb}
use lib.ListN.{length, get_or}
use Rattle.rules.specs.Colour.{out_of_range_lem}
use Rattle.rules.specs.Pixel.{red_of, green_of, blue_of}
use Rattle.rules.specs.Checking.{apart, near, farthest, pixel, like, largest, check_verdict, Checks}
use Rattle.std.specs.Prelude.{Ok}
use Rattle.bake.proofs.baking.Each.{each_at, each_all}
use Rattle.bake.proofs.baking.Near.{near_farthest, like_largest}

pub nonzero : (n : ℕ) → 0 ∷ [] ≡ suc n ∷ [] → ⊥
nonzero n p = omega (arith, ap (λ (l : List ℕ). get_or l 0 0) p)

-- two pixels, channel by channel
pub record Near (t a b : ℕ) : Type 0 where
  pub by_red : apart (red_of a) (red_of b) ≤ t
  pub by_green : apart (green_of a) (green_of b) ≤ t
  pub by_blue : apart (blue_of a) (blue_of b) ≤ t

most : (r g b t : ℕ) → max r (max g b) ≤ t → (r ≤ t) × (g ≤ t) × (b ≤ t)
most r g b t h = (omega arith, omega arith, omega arith)

least : (r g b t : ℕ) → r ≤ t → g ≤ t → b ≤ t → max r (max g b) ≤ t
least r g b t h i j = omega arith

pub near_means : (t a b : ℕ) → near t a b ≡ true → Near t a b
unfolding farthest
near_means t a b e =
    let m = most _ _ _ t (leb-true (farthest a b) t (sym (near_farthest t a b) ∙ e)) in
    record { by_red = m.0; by_green = m.1; by_blue = m.2 }

pub means_near : (t a b : ℕ) → Near t a b → near t a b ≡ true
unfolding farthest
means_near t a b p = near_farthest t a b ∙ le-leb (farthest a b) t (least _ _ _ t p.by_red p.by_green p.by_blue)

-- what an acceptance says
pub record Accepts (t : ℕ) (d tile : List ℕ) : Type 0 where
  pub enough : 8 ≤ length d
  pub whole : 16 ≤ length tile
  pub ranged : out_of_range_lem d ≡ false
  pub close : (k : ℕ) → k < 16 → Near t (pixel d k) (get_or tile k 0)

sorted : (a b r l : Bool) → ◌≡◌ {A = List ℕ} (0 ∷ []) (cond a (2 ∷ []) (cond b (3 ∷ []) (cond (not r && l) (0 ∷ []) (18 ∷ [])))) → (a ≡ false) × (b ≡ false) × (r ≡ false) × (l ≡ true)
sorted true b r l e = absurd (nonzero 1 e)
sorted false true r l e = absurd (nonzero 2 e)
sorted false false true l e = absurd (nonzero 17 e)
sorted false false false true e = (refl, refl, refl, refl)
sorted false false false false e = absurd (nonzero 17 e)

-- "A checker accepts exactly if": it accepts only then,
pub accepts_only : (t : ℕ) (d tile : List ℕ) → Checks t d tile (Ok tt) → Accepts t d tile
unfolding check_verdict
accepts_only t d tile e =
    let s = sorted (ltb (length d) 8) (ltb (length tile) 16) (out_of_range_lem d) (like t d tile) e in
    record {
      enough = ltb-false (length d) 8 s.0;
      whole = ltb-false (length tile) 16 s.1;
      ranged = s.2;
      close = λ k h. near_means t (pixel d k) (get_or tile k 0) (each_at (λ k. near t (pixel d k) (get_or tile k 0)) 16 s.3 k h);
    }

module _ (t : ℕ) (d tile : List ℕ) (h : 8 ≤ length d) (i : 16 ≤ length tile) (e : out_of_range_lem d ≡ false) where
  -- of a block that is in range: exactly from the largest difference on
  pub from_the_largest_on : check_verdict t d tile ≡ cond (leb (largest d tile) t) (0 ∷ []) (18 ∷ [])
  unfolding check_verdict
  from_the_largest_on =
      rw (le-ltb (length d) 8 h, le-ltb (length tile) 16 i, e) (ap (λ (b : Bool). cond b (0 ∷ []) (18 ∷ [])) (like_largest t d tile))

-- and it accepts then
pub accepts_all : (t : ℕ) (d tile : List ℕ) → Accepts t d tile → Checks t d tile (Ok tt)
unfolding check_verdict
accepts_all t d tile p =
    let l = each_all (λ k. near t (pixel d k) (get_or tile k 0)) 16 (λ k h. means_near t (pixel d k) (get_or tile k 0) (p.close k h)) in
    rw (le-ltb (length d) 8 p.enough, le-ltb (length tile) 16 p.whole, p.ranged, l)
