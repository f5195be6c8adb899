-- Turn i stores alpha i: the base moved by product i, as the machine holds it.
-- Assumes nothing.
use mathlib.Core.Path.{◌≡◌, ◌∙◌, ap}
use mathlib.Core.List.{List}
use Prim.Native.Nat.{ℕ, ◌<◌}
use native.Mathlib.Omega.{arith}
use lib.IntN.{ℤ, pos, ◌+ℤ◌}
use lib.ListN.{get_or}
use lib.Signed.{mag}
use mir.Syntax.{w16}
use Rattle.rules.specs.Notation.{bits, clamp}
use Rattle.laws.proofs.Filling.{stored_next, filled_all}
use Rattle.laws.proofs.Signed.{held, held_small, cast_pos}
use Rattle.etc_alpha.proofs.channel.Moves.{small_product}
use Rattle.etc_alpha.proofs.channel.eight_alphas.Invariants.{product_at}
use Rattle.etc_alpha.proofs.channel.eight_alphas.Goals as goal

-- the product of a turn, as the machine holds it
small : (b j : ℕ) → mag (product_at b j) < 256
small b j = small_product (bits 7 4 b) (bits 3 0 b) j (omega arith) (omega arith)

pub alpha-requires : goal.alpha-requires
alpha-requires c =
    let product : (j : ℕ) → held w16 (get_or c.products_of-products.result j (pos 0)) ≡ product_at c.args.b j = λ j. ap (λ (l : List ℤ). held w16 (get_or l j (pos 0))) c.products_of-products.ensures
    ∙ held_small w16 (product_at c.args.b j) (omega (arith, small c.args.b j)) in
    rw (product c.loop-i.i) (small c.args.b c.loop-i.i)

pub loop-i-preserved : goal.loop-i-preserved
loop-i-preserved c =
    let product : (j : ℕ) → held w16 (get_or c.products_of-products.result j (pos 0)) ≡ product_at c.args.b j = λ j. ap (λ (l : List ℤ). held w16 (get_or l j (pos 0))) c.products_of-products.ensures
    ∙ held_small w16 (product_at c.args.b j) (omega (arith, small c.args.b j)) in
    let l = c.loop-i in
    let base = c.args.base in
    stored_next _ (pos 0) 8 l.eight l.i l.invariant _ (omega arith)
    (cast_pos w16 c.alpha.result (omega (arith, c.alpha.ensures.1))
    ∙ ap pos (c.alpha.ensures.0 ∙ ap (λ (z : ℤ). clamp 255 (pos base +ℤ z)) (product l.i)))

pub returns : goal.returns
returns c = filled_all _ (pos 0) 8 c.loop-i.eight c.loop-i.i c.loop-i.invariant (omega arith)
