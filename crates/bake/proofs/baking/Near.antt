-- How near a block is to a tile: what the checker's test says of each channel, and from which tolerance on it holds.
-- Assumes nothing.
use mathlib.Core.Path.{◌≡◌, ◌∙◌, ap}
use mathlib.Core.Bool.{Bool, ◌&&◌}
use mathlib.Core.List.{List}
use Prim.Native.Nat.{ℕ, ◌≤◌, max}
use native.Mathlib.Omega.{arith}
use lib.Dec.{leb}
use lib.ListN.{get_or}
use Rattle.rules.specs.Pixel.{red_of, green_of, blue_of}
use Rattle.rules.specs.Checking.{apart, near, farthest, differ, pixel, like, largest}
use Rattle.bake.proofs.baking.Each.{both_most, each_most, each_same}

pub near_farthest : (t a b : ℕ) → near t a b ≡ leb (farthest a b) t
unfolding near farthest
near_farthest t a b =
    let r = apart (red_of a) (red_of b) in
    let g = apart (green_of a) (green_of b) in
    let u = apart (blue_of a) (blue_of b) in
    ap (λ (x : Bool). leb r t && x) (both_most g u t) ∙ both_most r (max g u) t

pub like_largest : (t : ℕ) (d tile : List ℕ) → like t d tile ≡ leb (largest d tile) t
like_largest t d tile =
    each_same (λ k. near t (pixel d k) (get_or tile k 0)) (λ k. leb (farthest (pixel d k) (get_or tile k 0)) t) 16 (λ k h. near_farthest t (pixel d k) (get_or tile k 0))
    ∙ each_most (λ k. farthest (pixel d k) (get_or tile k 0)) t 16

pub differ_most : (a b : ℕ) → differ a b ≤ 765
unfolding differ
differ_most a b = omega arith
