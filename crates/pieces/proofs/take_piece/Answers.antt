-- `pieces::take_piece` meets its contract: the numbers of the code are those of the rules.
-- Assumes nothing.
use Rattle.std.proofs.Common.{◌≡◌, ◌∙◌, sym, ap, ℕ, ◌+◌, ◌*◌, ◌<◌, min, arith}
use native.Mathlib.Nat.{mod-lt}
use Rattle.rules.specs.Places.{blocks}
use Rattle.rules.specs.Pieces.{whole, got, later}
use Rattle.pieces.proofs.kept.Numbers.{shared}
use Rattle.pieces.proofs.Promise.{took}
use Rattle.pieces.proofs.take_piece.Goals as goal

pub paint_joined-requires-clause-held_bound : goal.paint_joined-requires-clause-held_bound
paint_joined-requires-clause-held_bound c =
    let s : ℕ = c.size-s.result in
    let held : ℕ = c.min-got.result in
    let hand = shared s c.blocks_of.result held (held + c.min-used.result) (omega arith) (omega arith) (omega arith) in
    rw (sym c.size-s.ensures.0) (mod-lt held (omega arith), omega arith)

pub rest_of-requires : goal.rest_of-requires
rest_of-requires c =
    let s : ℕ = c.size-s.result in
    let held : ℕ = c.min-got.result in
    let later : ℕ = held + c.min-used.result in
    let hand = shared s c.blocks_of.result held later (omega arith) (omega arith) (omega arith) in
    let some : 0 < s = omega arith in
    (omega (arith, mod-lt later some), omega arith)

pub returns : goal.returns
returns c =
    let p = c.args.p in
    let whole_is : c.blocks_of.result * c.size-s.result ≡ whole p =
    ap (λ (x : ℕ). x * c.size-s.result) c.blocks_of.ensures.0 ∙ ap (λ (x : ℕ). blocks p.picture * x) c.size-s.ensures.0 in
    let got_is : c.min-got.result ≡ got p = c.min-got.ensures ∙ ap (min p.taken) whole_is in
    let later_is : c.min-got.result + c.min-used.result ≡ later p c.args.bytes.now = omega (arith, whole_is, got_is) in
    took p c.args.bytes.now c.args.image.now _ _ _ _ _ _ c.size-s.ensures.0 got_is later_is c.rest_of.ensures (omega arith) c.paint_joined.ensures
