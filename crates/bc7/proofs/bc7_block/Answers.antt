-- The words of the block, and their pixels row by row.
-- Assumes nothing.
use mathlib.Core.Path.{◌∙◌, ap}
use Prim.Native.Nat.{ℕ}
use Rattle.rules.specs.Notation.{build}
use Rattle.rules.specs.Bc7.{block_word, pixel_of, bc7_pixel}
use Rattle.laws.proofs.Filled.{build_same}
use Rattle.bc.proofs.bc1.Shown.{by_row}
use Rattle.bc7.proofs.bc7_block.Goals as goal

pub returns : goal.returns
unfolding bc7_pixel
returns c =
    let w = c.of_block in
    let d = c.args.d.now in
    c.of_words.ensures
    ∙ ap (λ (x : ℕ). build 16 (pixel_of x)) w.ensures
    ∙ build_same 0 (pixel_of (block_word d)) _ 16 (λ k h. ap (pixel_of (block_word d)) (by_row k))
