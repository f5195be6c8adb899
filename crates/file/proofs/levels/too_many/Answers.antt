-- `file::levels::too_many` meets its contract: what is left to halve comes to the same at each turn.
-- Assumes nothing.
use mathlib.Core.Path.{◌∙◌, sym}
use native.Mathlib.Omega.{arith}
use Rattle.file.proofs.Walk.{halves, ends, enough}
use Rattle.file.proofs.levels.too_many.Goals as goal

pub returns-then-side-lt2 : goal.returns-then-side-lt2
returns-then-side-lt2 c = sym (ends c.loop.side c.args.more c.loop.counter (omega arith) (omega arith)) ∙ c.loop.invariant

pub loop-preserved : goal.loop-preserved
loop-preserved c = halves c.loop.side c.args.more c.loop.counter (omega arith) (omega arith) ∙ c.loop.invariant

pub returns : goal.returns
returns c = sym (enough c.loop.side c.args.more c.loop.counter (omega arith)) ∙ c.loop.invariant
