-- All the stages together: `pixels_said`.
-- Assumes nothing.
use mathlib.Core.Path.{◌∙◌, sym, ap, subst}
use mathlib.Core.List.{List}
use Prim.Native.Nat.{ℕ, ◌-◌, ◌*◌, ◌/◌, ◌%◌, ◌^◌, ◌<◌, ◌≤◌}
use lib.Dec.{eqb}
use lib.ListN.{get_or}
use Rattle.rules.specs.Notation.{build}
use Rattle.rules.specs.Bc7.{pixel_in}
use Rattle.rules.specs.declared.Mode.{Mode}
use Rattle.bc7.specs.rest.Whole.{whole}
use Rattle.bc7.specs.bptc.Layout.{layout_of}
use Rattle.bc7.proofs.Pixel.{partition_below, weights_most, one_most, weights_by, pixels_said}
use Rattle.bc7.proofs.in_mode.Goals as goal

pub layout-layout-requires : goal.layout-layout-requires
layout-layout-requires c =
    let s = c.of_mode-row.result.sane in
    let h = c.read-h in
    (s.some, s.subsets, subst (λ (x : ℕ). x < 64) (sym (c.from.ensures ∙ h.ensures.partition)) (partition_below (whole c.args.r) c.args.m c.of_mode-row.result.mode s))

pub shade-requires : goal.shade-requires
shade-requires c =
    let k = c.of_mode-row.result.mode in
    let w = whole c.read-e.result.rest in
    let mask = c.layout-layout.result / 4294967296 in
    let first = c.weights-first.result in
    let second = c.second_weights-second.result in
    let t = eqb c.read-h.result.selection 0 in
    let f : (i : ℕ) → get_or first i 0 ≤ 64 = λ i. subst (λ (l : List ℕ). get_or l i 0 ≤ 64) (sym c.weights-first.ensures)
    (weights_most c.word.result k.index mask i) in
    let v = w / 2 ^ (16 * k.index - k.subsets) % 2 ^ 64 in
    let g : (i : ℕ) → get_or second i 0 ≤ 64 = λ i. subst (λ (l : List ℕ). get_or l i 0 ≤ 64) (sym c.second_weights-second.ensures)
    (one_most (eqb k.second 0) first (weights_by v k.second mask) f (λ j. weights_most v k.second mask j) i) in
    λ i. (
      subst (λ (l : List ℕ). get_or l i 0 ≤ 64) (sym c.chosen.ensures) (one_most t first second f g i),
      subst (λ (l : List ℕ). get_or l i 0 ≤ 64) (sym c.chosen-2.ensures)
          (one_most t second first g f i),
    )

pub returns : goal.returns
returns c =
    let a = c.args in
    let k = c.of_mode-row.result.mode in
    let hd = c.read-h.ensures in
    let en = c.read-e.ensures (whole a.r) a.m hd.rest in
    c.shade.ensures
    ∙ pixels_said (whole a.r) a.m k c.of_mode-row.result.sane (whole c.read-e.result.rest) c.word.result en.rest
    c.word.ensures c.read-h.result hd c.read-e.result en
    c.layout-layout.result c.weights-first.result c.second_weights-second.result c.chosen.result c.chosen-2.result
    (c.layout-layout.ensures ∙ ap (layout_of k.subsets) (c.from.ensures ∙ hd.partition)) c.weights-first.ensures c.second_weights-second.ensures c.chosen.ensures c.chosen-2.ensures
    ∙ ap (λ (x : Mode). build 16 (pixel_in (whole a.r) a.m x)) c.of_mode-row.ensures
