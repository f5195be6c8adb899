-- The steps of each half, and the colours that they make.
-- Assumes nothing.
use Rattle.std.proofs.Common.{◌≡◌, ℕ, ◌+◌, ◌*◌, ◌<◌, List, [], get_or, sym, ap, ◌∙◌, subst, arith}
use Rattle.rules.specs.Colour.{code, half_colours}
use Rattle.etc_colour.specs.shade.Pick.{eight}
use Rattle.etc_colour.specs.shade.Tone.{punched, Steps}
use Rattle.etc_colour.specs.etc2.Colours.{steps_where}
use Rattle.etc_colour.proofs.etc2.Steps.{row_read, steps_where_lem, coloured}
use Rattle.etc_colour.proofs.etc2.both_halves.Goals as goal

pub both_halves-requires : goal.both_halves-requires
both_halves-requires c =
    let o = c.args.opaque in
    let d = c.args.d.now in
    let is_row = λ (h r : ℕ) (e : r ≡ code d h) (m : code d h < 8). ap (λ (n : ℕ). get_or c.args.table.now (8 * c.from-from.result + n) []) e
    ∙ row_read o c.args.table.now c.from-from.result (code d h) c.from-from.ensures c.requires.1 m in (
      subst (Steps o) (sym (is_row 0 _ c.from.ensures (omega arith))) (steps_where_lem o (code d 0) (omega arith)),
      subst (Steps o) (sym (is_row 1 _ c.from-2.ensures (omega arith))) (steps_where_lem o (code d 1) (omega arith)),
    )

pub returns : goal.returns
returns c =
    let o = c.args.opaque in
    let d = c.args.d.now in
    let is_row = λ (h r : ℕ) (e : r ≡ code d h) (m : code d h < 8). ap (λ (n : ℕ). get_or c.args.table.now (8 * c.from-from.result + n) []) e
    ∙ row_read o c.args.table.now c.from-from.result (code d h) c.from-from.ensures c.requires.1 m in
    c.both_halves.ensures
    ∙ coloured o c.bases_of.result (code d) _ _ (is_row 0 _ c.from.ensures (omega arith)) (is_row 1 _ c.from-2.ensures (omega arith))
    ∙ ap (λ (l : List (List ℕ)). eight (λ h. punched o (half_colours (get_or l h []) (steps_where o (code d h))))) c.bases_of.ensures
