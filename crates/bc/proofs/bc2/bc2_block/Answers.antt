-- The words of the two halves, the colours of the second, and what each turn makes.
-- Assumes nothing.
use mathlib.Core.Path.{◌∙◌, ap}
use mathlib.Core.List.{List}
use Prim.Native.Nat.{ℕ, ◌%◌}
use lib.ListN.{get_or}
use Rattle.rules.specs.Notation.{build}
use Rattle.rules.specs.Desktop.{half_word_lem}
use Rattle.laws.proofs.Parts.{rest}
use Rattle.bc.proofs.bc2.Shown.{shown}
use Rattle.bc.proofs.bc3.Turns.{below}
use Rattle.bc.proofs.bc2.bc2_block.Goals as goal

pub both-requires : goal.both-requires
both-requires c = below c.palette.result c.hues.result c.hues.ensures

pub returns : goal.returns
returns c =
    let d = c.args.d.now in
    c.both.ensures
    ∙ shown d c.half_word-a.result c.half_word-w.result c.hues.result c.half_word-a.ensures
    (c.half_word-w.ensures ∙ ap half_word_lem (rest 8 d))
    (c.hues.ensures ∙ ap (λ (l : List ℕ). build 4 (λ k. get_or l k 0 % 0x1000000)) c.palette.ensures)
