-- The loop has made the colours passed, each from its base, its step and its alpha.
-- Assumes nothing.
use Rattle.std.proofs.Common.{◌≡◌, ℕ, [], get_or, pos, ◌∙◌, arith, w16}
use Rattle.laws.proofs.Signed.{held, held_small}
use Rattle.laws.proofs.Filling.{stored_next, filled_all}
use Rattle.etc_colour.proofs.shade.Tone.{tone}
use Rattle.etc_colour.proofs.shade.four_colours.Goals as goal

pub loop-i-preserved : goal.loop-i-preserved
loop-i-preserved c =
    let small : (k : ℕ) → held w16 (get_or c.args.steps.now k (pos 0)) ≡ get_or c.args.steps.now k (pos 0) = λ k. held_small w16 _ (omega (arith, c.requires.0 k)) in
    let l = c.loop-i in
    let w = c.alphas_where-alphas.ensures in
    let e = small l.i in
    let base = get_or c.args.bases l.i [] in
    let made = c.applicate_color.ensures in
    stored_next _ 0 4 l.colours l.i l.invariant _ (omega arith)
    (tone c.args.opaque l.i _ base c.args.steps.now (omega arith) c.requires.1
    (made.0 ∙ rw (w, e))
    (λ n z. made.1 (e ∙ n) (rw w z)))

pub returns : goal.returns
returns c =
    let l = c.loop-i in
    filled_all _ 0 4 l.colours l.i l.invariant (omega arith)
