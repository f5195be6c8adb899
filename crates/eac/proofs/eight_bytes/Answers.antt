-- The byte of each of the block's eight values.
-- Assumes nothing.
use Rattle.std.proofs.Common.{pos, ap, ◌∙◌}
use Rattle.laws.proofs.Filled.{build_same}
use Rattle.eac.proofs.Bytes.{small_added, wholes_at, whole_small, whole_raised, eighth}
use Rattle.eac.proofs.eight_bytes.Goals as goal

pub eighths-requires : goal.eighths-requires
eighths-requires c =
    let g = c.args in
    let u = c.args.span.raised in
    let at = wholes_at g.span.signed g.d.now c.eight_wholes.result c.eight_wholes.ensures in (
      small_added g.span.signed g.span.up u,
      λ j h. (
        whole_raised g.span.signed g.d.now _ j g.span.up (at j h) u,
        whole_small g.span.signed g.d.now _ j g.span.up (at j h) u,
      ),
    )

pub returns : goal.returns
returns c =
    let g = c.args in
    c.eighths.ensures
    ∙ build_same (pos 0) _ _ 8
    (λ j h. ap pos (eighth g.span.signed g.d.now _ j g.span.up (wholes_at g.span.signed g.d.now c.eight_wholes.result c.eight_wholes.ensures j h) c.args.span.raised))
