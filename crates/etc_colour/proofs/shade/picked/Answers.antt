-- Turn i stores what the pixel at place i takes.
-- Assumes nothing.
use Rattle.std.proofs.Common.{◌≡◌, ℕ, List, get_or, ap, ◌∙◌, arith}
use Rattle.laws.proofs.Filled.{get_or_build}
use Rattle.laws.proofs.Filling.{stored_next, filled_all}
use Rattle.etc_colour.specs.shade.Pick.{number_at, taken}
use Rattle.etc_colour.proofs.shade.picked.Goals as goal

pub loop-i-preserved : goal.loop-i-preserved
unfolding taken
loop-i-preserved c =
    let is_number_lem : get_or c.numbers-number.result c.loop-i.i 0 ≡ number_at c.args.d.now c.loop-i.i = let d = c.args.d.now in
    let i = c.loop-i.i in
    ap (λ (l : List ℕ). get_or l i 0) c.numbers-number.ensures ∙ get_or_build (number_at d) 0 16 i (omega arith) in
    let l = c.loop-i in
    let colours = c.args.colours in
    stored_next _ 0 16 l.out l.i l.invariant _ (omega arith) (ap (λ (n : ℕ). get_or colours n 0) (c.from.ensures ∙ is_number_lem))

pub returns : goal.returns
returns c =
    let l = c.loop-i in
    filled_all _ 0 16 l.out l.i l.invariant (omega arith)
