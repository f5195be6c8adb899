-- Each way out knows the checks that led to it.
use mathlib.Core.Path.{◌≡◌, ◌∙◌, sym, ap}
use mathlib.Core.Bool.{Bool, true, false, cond}
use mathlib.Core.List.{[], ◌∷◌}
use Rattle.rules.specs.Colour.{out_of_range_lem}
use Rattle.rules.specs.Checking.{like, check_verdict}
use Rattle.laws.specs.Kinds.{strange}
use Rattle.laws.proofs.Range.{exactly}
use Rattle.rules.specs.Formats.{size_of, shows_of}
use Rattle.rules.specs.declared.Format.TheVariants.{Etc1}
use Rattle.blocks.proofs.First.{first_block}
use Rattle.bake_check.proofs.Verdict.{of_block, short_block, short_tile, out_of_range, in_range_lem}
use borrow.Author.Rules.{rules}
use Rattle.bake_check.proofs.check.Goals as goal

-- Assumes nothing.

pub returns-then-block-lt8 : goal.returns-then-block-lt8
returns-then-block-lt8 c =
    let a = c.args in
    short_block a.tolerance a.block.now a.tile.now c.if-block-lt8.true

pub returns-then-tile-lt16 : goal.returns-then-tile-lt16
returns-then-tile-lt16 c =
    let a = c.args in
    short_tile a.tolerance a.block.now a.tile.now c.if-block-lt8.false c.if-tile-lt16.true

pub returns-then-is_strange : goal.returns-then-is_strange
returns-then-is_strange c =
    let ranged : out_of_range_lem c.args.block.now ≡ c.is_strange.result = exactly _ ∙ ap strange (sym c.kind_of.ensures) ∙ sym c.is_strange.ensures in
    let a = c.args in
    out_of_range a.tolerance a.block.now a.tile.now c.if-block-lt8.false c.if-tile-lt16.false (ranged ∙ c.if-is_strange.true)

pub block_at-requires : goal.block_at-requires
unfolding size_of
block_at-requires c = search rules

pub returns-then-not-all_near : goal.returns-then-not-all_near
unfolding shows_of
returns-then-not-all_near c =
    let ranged : out_of_range_lem c.args.block.now ≡ c.is_strange.result = exactly _ ∙ ap strange (sym c.kind_of.ensures) ∙ sym c.is_strange.ensures in
    let tested : c.all_near.result ≡ like c.args.tolerance c.args.block.now c.args.tile.now = let a = c.args in
    c.all_near.ensures ∙ of_block a.tolerance a.block.now c.block_at.result a.tile.now (c.block_at.ensures ∙ first_block Etc1 a.block.now) in
    let answered : (b : Bool) → c.all_near.result ≡ b → cond b (0 ∷ []) (18 ∷ []) ≡ check_verdict c.args.tolerance c.args.block.now c.args.tile.now = λ b e. let a = c.args in
    in_range_lem a.tolerance a.block.now a.tile.now c.if-block-lt8.false c.if-tile-lt16.false
    (ranged ∙ c.if-is_strange.false) b (sym tested ∙ e) in
    answered false (c.if-not-all_near.true)

pub returns : goal.returns
unfolding shows_of
returns c =
    let ranged : out_of_range_lem c.args.block.now ≡ c.is_strange.result = exactly _ ∙ ap strange (sym c.kind_of.ensures) ∙ sym c.is_strange.ensures in
    let tested : c.all_near.result ≡ like c.args.tolerance c.args.block.now c.args.tile.now = let a = c.args in
    c.all_near.ensures ∙ of_block a.tolerance a.block.now c.block_at.result a.tile.now (c.block_at.ensures ∙ first_block Etc1 a.block.now) in
    let answered : (b : Bool) → c.all_near.result ≡ b → cond b (0 ∷ []) (18 ∷ []) ≡ check_verdict c.args.tolerance c.args.block.now c.args.tile.now = λ b e. let a = c.args in
    in_range_lem a.tolerance a.block.now a.tile.now c.if-block-lt8.false c.if-tile-lt16.false
    (ranged ∙ c.if-is_strange.false) b (sym tested ∙ e) in
    answered true (c.if-not-all_near.false)
