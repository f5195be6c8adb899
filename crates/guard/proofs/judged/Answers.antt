-- `guard::judged` meets its contract: each viewer's own test, that of strict ETC1 by the kind of the block.
-- Assumes nothing.
use mathlib.Core.Path.{◌∙◌, sym, ap}
use mathlib.Core.Bool.{Bool, cond}
use mathlib.Core.List.{[], ◌∷◌}
use Rattle.laws.specs.Kinds.{strange}
use Rattle.laws.proofs.Range.{exactly}
use Rattle.guard.proofs.judged.Goals as goal

pub returns-in-Etc1 : goal.returns-in-Etc1
returns-in-Etc1 c =
    rw c.in-Etc1.is
    (c.in_range.ensures ∙ ap (λ (b : Bool). cond b (4 ∷ c.args.block ∷ []) (0 ∷ [])) (ap strange c.kind_of.ensures ∙ sym (exactly _)))
