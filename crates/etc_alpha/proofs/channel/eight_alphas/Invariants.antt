-- The invariant of the loop of `etc_alpha::channel::eight_alphas`.
use Prim.Native.Nat.{ℕ}
use lib.IntN.{ℤ, pos, ◌+ℤ◌}
use lib.ListN.{get_or}
use Rattle.rules.specs.Notation.{bits, clamp}
use Rattle.laws.proofs.Filling.{Filling, in_order_lem}
use Rattle.tables.specs.products.Products.{products_of_lem}
use Rattle.etc_alpha.proofs.channel.eight_alphas.Given as goal

-- the product at place j of a row
abbrev pub product_at : ℕ → ℕ → ℤ
product_at b j = get_or (products_of_lem (bits 7 4 b) (bits 3 0 b)) j (pos 0)

abbrev pub invariant-loop-i : goal.invariant-loop-i
invariant-loop-i l = Filling in_order_lem (λ j. pos (clamp 255 (pos l.base +ℤ product_at l.b j))) (pos 0) 8 l.i l.eight
