-- Turn k stores the number of the pixel at place k.
-- Assumes nothing.
use Rattle.std.proofs.Common.{◌≡◌, ℕ, ◌+◌, ◌*◌, ◌/◌, ◌%◌, refl, ap, ◌∙◌, div-one, arith}
use Rattle.rules.specs.Notation.{bit}
use Rattle.rules.specs.Colour.{flipped}
use Rattle.laws.proofs.Filling.{stored_next, filled_all}
use Rattle.etc_colour.specs.shade.Pick.{second_half_lem}
use Rattle.etc_colour.proofs.shade.Pick.{number}
use Rattle.etc_colour.proofs.shade.numbers.Goals as goal

pub loop-k-preserved : goal.loop-k-preserved
loop-k-preserved c =
    let d = c.args.d.now in
    let k = c.loop-k.k in
    let n = k % 4 * 4 + k / 4 in
    let h : c.second_half-half.result ≡ second_half_lem (flipped d) = rw div-one c.second_half-half.ensures in
    rw c.from.ensures (stored_next _ 0 16 c.loop-k.out k c.loop-k.invariant _ (omega arith)
    (number d k n _ _ _ (omega arith) refl
    (c.where_set.ensures.0 ∙ ap (λ (w : ℕ). bit n w * 4) h)
    (c.where_set-in-loop-k.ensures.0 ∙ ap (λ (w : ℕ). bit n w * 2) (omega (arith, c.from_be_bytes-high.ensures)))
    (c.where_set-in-loop-k-2.ensures.0 ∙ ap (λ (w : ℕ). bit n w * 1) (omega (arith, c.from_be_bytes-low.ensures)))))

pub returns : goal.returns
returns c =
    let l = c.loop-k in
    filled_all _ 0 16 l.out l.k l.invariant (omega arith)
