-- The bytes of the two halves, put into the pixels; the second half is the part of the lent bytes from byte 8.
-- Assumes nothing.
use Rattle.std.proofs.Common.{◌≡◌, ℕ, ◌-◌, List, length, get_or, take, drop, ap, ◌∙◌, arith, rules}
use Rattle.rules.specs.Notation.{build}
use Rattle.rules.specs.Pixel.{word}
use Rattle.rules.specs.Channels.{red_green_pixel}
use Rattle.laws.proofs.Parts.{rest}
use Rattle.eac.proofs.Bytes.{eights_are_bytes, bytes_of, byte_at, byte_small}
use Rattle.eac.proofs.eacrg_block.Goals as goal

pub eac_bytes-requires : goal.eac_bytes-requires
eac_bytes-requires c =
    (omega (arith, c.requires.0), eights_are_bytes c.args.span.signed c.args.d.now c.eight_bytes-red.result c.eight_bytes-red.ensures)

pub eac_bytes-requires-2 : goal.eac_bytes-requires-2
eac_bytes-requires-2 c =
    let half : List ℕ = take (length c.args.d.now - 8) (drop 8 c.args.d.now) in
    (search rules, eights_are_bytes c.args.span.signed half c.eight_bytes-green.result c.eight_bytes-green.ensures)

pub red_green-requires : goal.red_green-requires
red_green-requires c =
    let red : c.eac_bytes.result ≡ build 16 (byte_at c.args.span.signed c.args.d.now) = let a = c.args in
    bytes_of a.span.signed a.d.now c.eight_bytes-red.result c.eight_bytes-red.ensures c.eac_bytes.result c.eac_bytes.ensures in
    let half : List ℕ = take (length c.args.d.now - 8) (drop 8 c.args.d.now) in
    let green : c.eac_bytes-2.result ≡ build 16 (byte_at c.args.span.signed half) =
    bytes_of c.args.span.signed half c.eight_bytes-green.result c.eight_bytes-green.ensures c.eac_bytes-2.result c.eac_bytes-2.ensures
    in
    λ k h. (byte_small _ _ c.eac_bytes.result k red h, byte_small _ _ c.eac_bytes-2.result k green h)

pub returns : goal.returns
unfolding red_green_pixel
returns c =
    let red : c.eac_bytes.result ≡ build 16 (byte_at c.args.span.signed c.args.d.now) = let a = c.args in
    bytes_of a.span.signed a.d.now c.eight_bytes-red.result c.eight_bytes-red.ensures c.eac_bytes.result c.eac_bytes.ensures in
    let half : List ℕ = take (length c.args.d.now - 8) (drop 8 c.args.d.now) in
    let green : c.eac_bytes-2.result ≡ build 16 (byte_at c.args.span.signed half) =
    bytes_of c.args.span.signed half c.eight_bytes-green.result c.eight_bytes-green.ensures c.eac_bytes-2.result c.eac_bytes-2.ensures
    in
    let a = c.args in
    let t = a.span.signed in
    c.red_green.ensures
    ∙ ap (λ (red : List ℕ). build 16 (λ k. word 255 (get_or red k 0) (get_or c.eac_bytes-2.result k 0) 0)) red
    ∙ ap (λ (green : List ℕ). build 16 (λ k. word 255 (byte_at t a.d.now k) (get_or green k 0) 0)) green
    ∙ ap (λ (half : List ℕ). build 16 (λ k. word 255 (byte_at t a.d.now k) (byte_at t half k) 0)) (rest 8 a.d.now)
