-- `sheet::write::verify` meets its contract: each check, where it is the first to fail, and none.
-- Assumes nothing.
use mathlib.Core.Path.{◌≡◌, ◌∙◌, sym, ap}
use Prim.Native.Nat.{◌*◌}
use mathlib.Core.Bool.{false}
use native.Mathlib.Omega.{arith}
use Rattle.rules.specs.Answers.{too_large_lem}
use Rattle.rules.specs.Places.{blocks}
use Rattle.rules.specs.Formats.{size_of}
use Rattle.rules.specs.declared.Format.{Format}
use Rattle.rules.specs.Sheets.{sheet_limit, block_bytes_lem}
use Rattle.sheet.proofs.Checks.{no_format, too_large, wrong_blocks_lem, no_room, accepted}
use Rattle.sheet.proofs.write.verify.Goals as goal

pub returns-then-format-gt7 : goal.returns-then-format-gt7
returns-then-format-gt7 c =
    let a = c.args in
    λ b e. no_format a.format a.pic b a.room c.if-format-gt7.true

pub returns-then-too_large : goal.returns-then-too_large
returns-then-too_large c =
    let a = c.args in
    λ b e. too_large a.format a.pic b a.room c.if-format-gt7.false (sym c.too_large.ensures ∙ c.if-too_large.true)

pub returns-then-n-exact : goal.returns-then-n-exact
returns-then-n-exact c =
    let small : too_large_lem sheet_limit c.args.pic ≡ false = sym c.too_large.ensures ∙ c.if-too_large.false in
    let exact : c.block_bytes-exact.result ≡ block_bytes_lem c.args.format c.args.pic = c.block_bytes-exact.ensures.0 ∙ ap (λ (f : Format). blocks c.args.pic * size_of f) c.format_of.ensures in
    let a = c.args in
    λ b e.
    wrong_blocks_lem a.format a.pic b a.room c.if-format-gt7.false small
    (λ z. omega (arith, c.if-n-exact.true, sym e ∙ z ∙ sym exact))

pub returns-then-room-n : goal.returns-then-room-n
returns-then-room-n c =
    let small : too_large_lem sheet_limit c.args.pic ≡ false = sym c.too_large.ensures ∙ c.if-too_large.false in
    let exact : c.block_bytes-exact.result ≡ block_bytes_lem c.args.format c.args.pic = c.block_bytes-exact.ensures.0 ∙ ap (λ (f : Format). blocks c.args.pic * size_of f) c.format_of.ensures in
    let a = c.args in
    λ b e.
    no_room a.format a.pic b a.room c.if-format-gt7.false small (omega (arith, e, c.if-n-exact.false, exact))
    (omega (arith, e, c.if-room-n.true))

pub returns : goal.returns
returns c =
    let small : too_large_lem sheet_limit c.args.pic ≡ false = sym c.too_large.ensures ∙ c.if-too_large.false in
    let exact : c.block_bytes-exact.result ≡ block_bytes_lem c.args.format c.args.pic = c.block_bytes-exact.ensures.0 ∙ ap (λ (f : Format). blocks c.args.pic * size_of f) c.format_of.ensures in
    let a = c.args in
    λ b e.
    accepted a.format a.pic b a.room c.if-format-gt7.false small (omega (arith, e, c.if-n-exact.false, exact))
    (omega (arith, e, c.if-room-n.false))
