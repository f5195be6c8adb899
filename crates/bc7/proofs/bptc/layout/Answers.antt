-- `bc7::bptc::layout` meets its contract: for one, two and three subsets, the latter two by a table that is its rule: one computed test
-- over all its entries.
-- Assumes nothing.
use mathlib.Core.Path.{◌≡◌, ◌∙◌, refl, ap, sym}
use mathlib.Core.List.{List}
use Prim.Native.Nat.{ℕ}
use native.Mathlib.Omega.{arith}
use lib.ListN.{get_or}
use Rattle.rules.specs.Notation.{build}
use Rattle.rules.specs.Bptc.{two, three, anchor_of_two, anchor_of_three1, anchor_of_three2, subset, anchor}
use Rattle.laws.proofs.Filled.{get_or_build}
use Rattle.bc7.specs.declared.bptc.TheConstants.{TWO, THREE}
use Rattle.bc7.specs.bptc.Layout.{packed, layout_of}
use Rattle.bc7.proofs.bptc.layout.Goals as goal

of_two : TWO ≡ build 64 (layout_of 2)
unfolding two three anchor_of_two anchor_of_three1 anchor_of_three2 subset anchor packed layout_of
of_two = refl

of_three : THREE ≡ build 64 (layout_of 3)
unfolding two three anchor_of_two anchor_of_three1 anchor_of_three2 subset anchor packed layout_of
of_three = refl

pub returns-in-1 : goal.returns-in-1
unfolding subset anchor packed layout_of
returns-in-1 c = rw c.in-1.is

pub returns-in-2 : goal.returns-in-2
returns-in-2 c =
    let p = c.args.p in
    ap (λ (l : List ℕ). get_or l p 0) of_two ∙ get_or_build (layout_of 2) 0 64 p c.requires.2 ∙ ap (λ (m : ℕ). layout_of m p) (sym c.in-2.is)

pub returns-in_default : goal.returns-in_default
returns-in_default c =
    let p = c.args.p in
    let e : 3 ≡ c.args.n = omega arith in
    ap (λ (l : List ℕ). get_or l p 0) of_three ∙ get_or_build (layout_of 3) 0 64 p c.requires.2 ∙ ap (λ (m : ℕ). layout_of m p) e
