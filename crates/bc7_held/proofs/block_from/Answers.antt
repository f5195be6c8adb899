-- The two words are the 128 bits at the place.
-- Assumes nothing.
use mathlib.Core.Path.{◌≡◌, ◌∙◌, sym, ap}
use mathlib.Core.Bool.{Bool}
use mathlib.Core.List.{List}
use Prim.Native.Nat.{ℕ, ◌+◌, ◌*◌}
use native.Mathlib.Nat.{add_comm}
use Rattle.rules.specs.Notation.{build}
use Rattle.rules.specs.Bits.{field_at}
use Rattle.rules.specs.Bc7.{pixel_of}
use Rattle.std.specs.Prelude.{Ok}
use Rattle.laws.proofs.Number.{joined}
use Rattle.bc7_held.specs.Sixteen.{sixteen_of}
use Rattle.bc7_held.proofs.ByteReads.{both}
use Rattle.bc7_held.proofs.block_from.Goals as goal

pub returns : goal.returns
returns c =
    let a = c.args in
    let d = a.s.now in
    let lo = c.word_at-lo in
    let hi = c.word_at-hi in
    let v : hi.result * 18446744073709551616 + lo.result ≡ field_at d a.place 128 =
    add_comm (hi.result * 18446744073709551616) lo.result
    ∙ both _ _ _ _ _ 18446744073709551616 lo.ensures hi.ensures (joined d a.place 64 64) in
    ap (λ (l : List ℕ). Ok l) (c.of_words.ensures ∙ ap (λ (w : ℕ). build 16 (pixel_of w)) v)
    ∙ sym (ap (λ (t : Bool). sixteen_of t (field_at d a.place 128)) (sym c.lacks.ensures ∙ c.if-lacks.false))
