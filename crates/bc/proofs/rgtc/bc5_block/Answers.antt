-- The eight reds of one half, the eight greens of the other, and the two picks of each pixel.
-- Assumes nothing.
use mathlib.Core.Path.{◌∙◌, ap}
use Prim.Native.Nat.{◌+◌, ◌*◌}
use native.Mathlib.Omega.{arith}
use lib.ListN.{get_or}
use Rattle.rules.specs.Desktop.{half_word_lem}
use Rattle.rules.specs.Rgtc.{values_in_lem}
use Rattle.laws.proofs.Between.{values_small}
use Rattle.laws.proofs.Parts.{rest}
use Rattle.bc.proofs.bc3.Turns.{at_most}
use Rattle.bc.proofs.picks.Digits.{of_eight_and_eight}
use Rattle.bc.proofs.rgtc.Values.{shown_both}
use Rattle.bc.proofs.rgtc.bc5_block.Goals as goal

pub both-requires : goal.both-requires
both-requires c =
    let x = c.half_word-b.result in
    let y = c.half_word-a.result in
    let s = c.args.signed in (
      omega arith,
      (
        omega arith,
        (
          (omega arith, omega arith),
          λ j k. omega (
            arith,
            at_most (λ k. get_or (values_in_lem s y) k 0 * 0x10000 + 0xFF000000) 0xFFFF0000 8 c.values_in.result c.values_in.ensures (λ k. omega (arith, values_small s y k)) j,
            at_most (λ k. get_or (values_in_lem s x) k 0 * 0x100 + 0) 0xFF00 8 c.values_in-2.result c.values_in-2.ensures (λ k. omega (arith, values_small s x k)) k,
          ),
        ),
      ),
    )

pub returns : goal.returns
returns c =
    let a = c.args in
    c.both.ensures
    ∙ of_eight_and_eight c.values_in.result c.values_in-2.result c.half_word-a.result c.half_word-b.result
    ∙ shown_both a.signed a.d.now c.values_in.result c.values_in-2.result c.half_word-a.result c.half_word-b.result
    c.half_word-a.ensures
    (c.half_word-b.ensures ∙ ap half_word_lem (rest 8 a.d.now))
    c.values_in.ensures
    c.values_in-2.ensures
