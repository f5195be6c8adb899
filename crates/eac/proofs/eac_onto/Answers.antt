-- Turn i stores pixel i, with the byte of its place times the channel's unit in it.
-- Assumes nothing.
use Rattle.std.proofs.Common.{◌≡◌, ℕ, ◌*◌, Bool, get_or, pos, ap, ◌∙◌, arith}
use lib.Bits.{bit_or}
use Rattle.rules.specs.Notation.{build}
use Rattle.laws.proofs.Filling.{stored_next, filled_all}
use Rattle.laws.proofs.Signed.{times_le}
use Rattle.eac.specs.Eights.{eighth_of}
use Rattle.eac.proofs.Bytes.{eights_are_bytes, bytes_of, byte_at, byte-at, byte_small}
use Rattle.eac.proofs.eac_onto.Goals as goal

alike : (p : ℕ) {b c u v : ℕ} → b ≡ c → u ≡ v → bit_or p (b * u) ≡ bit_or p (c * v)
alike p e f = cc

pub eac_bytes-bytes-requires : goal.eac_bytes-bytes-requires
eac_bytes-bytes-requires c =
    let eight : c.eight_bytes-eight.result ≡ build 8 (λ j. pos (eighth_of c.args.signed c.args.d.now j)) =
    c.eight_bytes-eight.ensures ∙ ap (λ (t : Bool). build 8 (λ j. pos (eighth_of t c.args.d.now j))) c.span_of.ensures.0 in
    (c.requires.0, eights_are_bytes c.args.signed c.args.d.now c.eight_bytes-eight.result eight)

pub overflow_mul-out : goal.overflow_mul-out
overflow_mul-out c =
    let eight : c.eight_bytes-eight.result ≡ build 8 (λ j. pos (eighth_of c.args.signed c.args.d.now j)) =
    c.eight_bytes-eight.ensures ∙ ap (λ (t : Bool). build 8 (λ j. pos (eighth_of t c.args.d.now j))) c.span_of.ensures.0 in
    let bytes : c.eac_bytes-bytes.result ≡ build 16 (byte_at c.args.signed c.args.d.now) = let a = c.args in
    bytes_of a.signed a.d.now c.eight_bytes-eight.result eight c.eac_bytes-bytes.result c.eac_bytes-bytes.ensures in
    let u = c.unit_of-unit in
    let s = byte_small _ _ c.eac_bytes-bytes.result c.loop-i.i bytes (omega arith) in
    omega (arith, times_le (get_or c.eac_bytes-bytes.result c.loop-i.i 0) 255 u.result 0x1000000 (omega arith) (omega arith))

pub loop-i-preserved : goal.loop-i-preserved
loop-i-preserved c =
    let eight : c.eight_bytes-eight.result ≡ build 8 (λ j. pos (eighth_of c.args.signed c.args.d.now j)) =
    c.eight_bytes-eight.ensures ∙ ap (λ (t : Bool). build 8 (λ j. pos (eighth_of t c.args.d.now j))) c.span_of.ensures.0 in
    let bytes : c.eac_bytes-bytes.result ≡ build 16 (byte_at c.args.signed c.args.d.now) = let a = c.args in
    bytes_of a.signed a.d.now c.eight_bytes-eight.result eight c.eac_bytes-bytes.result c.eac_bytes-bytes.ensures in
    let l = c.loop-i in
    stored_next _ 0 16 l.out l.i l.invariant _ (omega arith)
    (alike (get_or c.args.px l.i 0) (byte-at _ _ c.eac_bytes-bytes.result l.i bytes (omega arith)) c.unit_of-unit.ensures.0)

pub returns : goal.returns
returns c =
    let l = c.loop-i in
    filled_all _ 0 16 l.out l.i l.invariant (omega arith)
