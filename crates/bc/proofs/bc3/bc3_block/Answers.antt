-- The words of the two halves, what they make, and the two picks of each pixel.
-- Assumes nothing.
use mathlib.Core.Path.{◌≡◌, ◌∙◌, refl, ap}
use mathlib.Core.List.{List}
use Prim.Native.Nat.{ℕ, ◌*◌, ◌%◌, ◌<◌}
use native.Mathlib.Omega.{arith}
use lib.ListN.{get_or}
use Rattle.rules.specs.Notation.{build}
use Rattle.rules.specs.Desktop.{half_word_lem, alphas_in_lem}
use Rattle.laws.proofs.Between.{alphas_small}
use Rattle.laws.proofs.Filled.{build_same}
use Rattle.laws.proofs.Parts.{rest}
use Rattle.bc.proofs.alphas.Shares.{ends}
use Rattle.bc.proofs.bc3.Turns.{at_most, below, shown}
use Rattle.bc.proofs.picks.Digits.{of_eight_and_four}
use Rattle.bc.proofs.bc3.bc3_block.Goals as goal

-- a byte as it stands
byte : (x y : ℕ) → x ≡ y → y < 256 → x % 256 * 0x1000000 ≡ y * 0x1000000
byte x y e h = omega (arith, e)

pub both-requires : goal.both-requires
both-requires c =
    let l = c.all_alphas.result in (
      omega arith,
      (
        omega arith,
        (
          (omega arith, omega arith),
          λ j k. omega (
            arith,
            at_most (λ k. get_or l k 0 % 256 * 0x1000000) 0xFF000000 8 c.tops.result c.tops.ensures (λ k. omega arith) j,
            below c.palette.result c.hues.result c.hues.ensures k,
          ),
        ),
      ),
    )

pub returns : goal.returns
returns c =
    let d = c.args.d.now in
    let x = c.half_word-a.result in
    c.both.ensures
    ∙ of_eight_and_four c.tops.result c.hues.result x c.half_word-w.result
    ∙ shown d x c.half_word-w.result c.tops.result c.hues.result c.half_word-a.ensures
    (c.half_word-w.ensures ∙ ap half_word_lem (rest 8 d))
    (c.tops.ensures
    ∙ build_same 0 _ _ 8
    (λ k i. byte (get_or c.all_alphas.result k 0) (get_or (alphas_in_lem x) k 0)
    (c.all_alphas.ensures k i ∙ rw (ends x c.to_le_bytes.result c.to_le_bytes.ensures).0 (rw (ends x c.to_le_bytes.result c.to_le_bytes.ensures).1 refl))
    (alphas_small x k)))
    (c.hues.ensures ∙ ap (λ (l : List ℕ). build 4 (λ k. get_or l k 0 % 0x1000000)) c.palette.ensures)
