-- The sum with the colours of the code.
-- Assumes nothing.
use mathlib.Core.Path.{◌∙◌, ap}
use mathlib.Core.List.{List}
use Prim.Native.Nat.{ℕ}
use Rattle.bake.specs.nearest.Search.{cost_of}
use Rattle.bake.proofs.codes.Coloured.{by_code}
use Rattle.bake.proofs.codes.code_cost.Goals as goal

pub returns : goal.returns
returns c =
    let a = c.args in
    c.half_cost.ensures ∙ ap (λ (l : List ℕ). cost_of l a.tile.flip a.tile.pixels.now a.h) c.colours.ensures ∙ by_code a.base a.tile.flip a.tile.pixels.now a.h a.code
