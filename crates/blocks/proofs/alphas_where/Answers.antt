-- With an alpha half its eight alphas; without one nothing is promised.
-- Assumes nothing.
use mathlib.Core.Path.{◌∙◌, sym, subst}
use lib.Dec.{T}
use Rattle.blocks.proofs.alphas_where.Goals as goal

pub returns-else-alpha : goal.returns-else-alpha
returns-else-alpha c = λ e. absurd (subst T (sym e ∙ c.if-alpha.false) tt)
