-- `tables::products::products_of` meets its contract: the table is its rule, by one computed test over all its entries.
-- Assumes nothing.
use mathlib.Core.Path.{◌≡◌, ◌∙◌, refl, ap}
use mathlib.Core.List.{List, []}
use Prim.Native.Nat.{ℕ}
use native.Mathlib.Omega.{arith}
use lib.IntN.{ℤ}
use lib.ListN.{get_or}
use Rattle.rules.specs.Notation.{build, bits}
use Rattle.laws.proofs.Filled.{get_or_build}
use Rattle.tables.specs.products.Products.{products_of_lem}
use Rattle.tables.specs.declared.products.TheConstants.{PRODUCTS}
use Rattle.tables.proofs.products.products_of.Goals as goal

-- the products of a byte, by its own nibbles
abbrev rule : ℕ → List ℤ
rule b = products_of_lem (bits 7 4 b) (bits 3 0 b)

table : PRODUCTS ≡ build 256 rule
table = refl

pub returns : goal.returns
returns c = ap (λ (l : List (List ℤ)). get_or l c.args.b []) table ∙ get_or_build rule [] 256 c.args.b (omega arith)
