-- Each field stands where the ones before it end.
-- Assumes nothing.
use mathlib.Core.Path.{◌≡◌, ◌∙◌, ap}
use Prim.Native.Nat.{ℕ, ◌+◌, ◌/◌, ◌%◌, ◌^◌}
use lib.Pow.{shr-shr}
use Rattle.rules.specs.Bc7.{rotation_place, selection_place}
use Rattle.bc7.specs.rest.Whole.{whole}
use Rattle.bc7.proofs.endpoints.Front.read.Goals as goal

pub returns : goal.returns
returns c =
    let a = c.args in
    let w = whole a.r in
    let k = a.row.mode in
    let p1 = c.past-rest.ensures in
    let p2 = c.take-partition in
    let p3 = c.take-rotation in
    let p4 = c.take-selection in
    let e2 : whole p2.new.self ≡ w / 2 ^ rotation_place a.m k = p2.ensures.passed ∙ ap (λ (x : ℕ). x / 2 ^ k.partition) p1 ∙ shr-shr w (a.m + 1) k.partition in
    let e3 : whole p3.new.self ≡ w / 2 ^ selection_place a.m k = p3.ensures.passed ∙ ap (λ (x : ℕ). x / 2 ^ k.rotation) e2 ∙ shr-shr w (rotation_place a.m k) k.rotation in
    record {
      partition = p2.ensures.bits ∙ ap (λ (x : ℕ). x % 2 ^ k.partition) p1;
      rotation = p3.ensures.bits ∙ ap (λ (x : ℕ). x % 2 ^ k.rotation) e2;
      selection = p4.ensures.bits ∙ ap (λ (x : ℕ). x % 2 ^ k.selection) e3;
      rest = p4.ensures.passed ∙ ap (λ (x : ℕ). x / 2 ^ k.selection) e3 ∙ shr-shr w (selection_place a.m k) k.selection;
    }
