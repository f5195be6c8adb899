-- Each pixel picks one of eight bytes.
-- Assumes nothing.
use Rattle.std.proofs.Common.{◌≡◌, ℕ, ◌<◌, get_or, pos, nat_abs, ap, ◌∙◌, arith}
use Rattle.laws.proofs.Filled.{build_same}
use Rattle.eac.specs.Eights.{number_at}
use Rattle.eac.proofs.Bytes.{picked_at}
use Rattle.eac.proofs.eac_bytes.Goals as goal

pub widened-requires : goal.widened-requires
widened-requires c =
    let pick : (k : ℕ) → k < 16 → get_or c.picked.result k (pos 0) ≡ get_or c.args.eight (number_at c.args.d.now k) (pos 0) =
    λ k h. picked_at c.args.d.now c.args.eight c.picked.result k c.picked.ensures h in
    λ k h. rw (pick k h) (c.requires.1 (number_at c.args.d.now k) (omega arith))

pub returns : goal.returns
returns c =
    let pick : (k : ℕ) → k < 16 → get_or c.picked.result k (pos 0) ≡ get_or c.args.eight (number_at c.args.d.now k) (pos 0) =
    λ k h. picked_at c.args.d.now c.args.eight c.picked.result k c.picked.ensures h in
    c.widened.ensures ∙ build_same 0 _ _ 16 (λ k h. ap nat_abs (pick k h))
