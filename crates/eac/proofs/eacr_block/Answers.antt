-- The bytes of the red half, put into the pixels.
-- Assumes nothing.
use Rattle.std.proofs.Common.{◌≡◌, ℕ, List, get_or, ap, ◌∙◌, arith}
use Rattle.rules.specs.Notation.{build}
use Rattle.rules.specs.Pixel.{word}
use Rattle.rules.specs.Channels.{red_pixel}
use Rattle.laws.proofs.Filled.{get_or_build}
use Rattle.eac.proofs.Bytes.{eights_are_bytes, bytes_of, byte_at, byte_small}
use Rattle.eac.proofs.eacr_block.Goals as goal

pub eac_bytes-requires : goal.eac_bytes-requires
eac_bytes-requires c =
    (c.requires.0, eights_are_bytes c.args.span.signed c.args.d.now c.eight_bytes.result c.eight_bytes.ensures)

pub red_green-requires : goal.red_green-requires
red_green-requires c =
    let bytes : c.eac_bytes.result ≡ build 16 (byte_at c.args.span.signed c.args.d.now) = let a = c.args in
    bytes_of a.span.signed a.d.now c.eight_bytes.result c.eight_bytes.ensures c.eac_bytes.result c.eac_bytes.ensures in
    λ k h. (byte_small _ _ c.eac_bytes.result k bytes h, omega (arith, get_or_build {A = ℕ} (λ j. 0) 0 16 k h))

pub returns : goal.returns
unfolding red_pixel
returns c =
    let bytes : c.eac_bytes.result ≡ build 16 (byte_at c.args.span.signed c.args.d.now) = let a = c.args in
    bytes_of a.span.signed a.d.now c.eight_bytes.result c.eight_bytes.ensures c.eac_bytes.result c.eac_bytes.ensures in
    c.red_green.ensures ∙ ap (λ (red : List ℕ). build 16 (λ k. word 255 (get_or red k 0) 0 0)) bytes
