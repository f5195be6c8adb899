-- Of the eight values each pixel picks its own.
-- Assumes nothing.
use Rattle.std.proofs.Common.{◌≡◌, ℕ, ◌<◌, get_or, pos, ap, ◌∙◌, rules}
use Rattle.rules.specs.Whole.{sixteen}
use Rattle.laws.proofs.Filled.{build_same}
use Rattle.eac.specs.Eights.{whole_of, number_at}
use Rattle.eac.proofs.Bytes.{small_added, small_whole, wholes_at, whole_small, whole_raised, picks, whole_picked}
use Rattle.eac.proofs.eac_sixteens.Goals as goal

pub picked-requires : goal.picked-requires
picked-requires c =
    let g = c.args in (
      search rules,
      λ j h. rw (wholes_at g.span.signed g.d.now g.eight c.requires.1 j h) (small_whole g.span.signed g.d.now j).small,
    )

pub narrowed-requires : goal.narrowed-requires
narrowed-requires c =
    let pick : (k : ℕ) → k < 16 → get_or c.picked.result k (pos 0) ≡ whole_of c.args.span.signed c.args.d.now (number_at c.args.d.now k) = λ k h. let g = c.args in
    picks (whole_of g.span.signed g.d.now) g.d.now g.eight c.picked.result k c.requires.1 c.picked.ensures h in
    let g = c.args in
    let u = c.args.span.raised in (
      small_added g.span.signed g.span.up u,
      λ k h. (
        whole_raised g.span.signed g.d.now _ (number_at g.d.now k) g.span.up (pick k h) u,
        whole_small g.span.signed g.d.now _ (number_at g.d.now k) g.span.up (pick k h) u,
      ),
    )

pub returns : goal.returns
returns c =
    let pick : (k : ℕ) → k < 16 → get_or c.picked.result k (pos 0) ≡ whole_of c.args.span.signed c.args.d.now (number_at c.args.d.now k) = λ k h. let g = c.args in
    picks (whole_of g.span.signed g.d.now) g.d.now g.eight c.picked.result k c.requires.1 c.picked.ensures h in
    let g = c.args in
    c.narrowed.ensures ∙ build_same 0 _ _ 16 (λ k h. ap sixteen (pick k h ∙ whole_picked g.span.signed g.d.now k))
