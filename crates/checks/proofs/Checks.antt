-- A check that fails and one that passes, and what holds where every check of a picture passes, with an exact length or without.
-- Assumes nothing.
use mathlib.Core.Path.{◌≡◌, ◌∙◌, refl, sym, ap}
use mathlib.Core.Bool.{Bool, true, false, cond, ◌||◌, true≢false}
use mathlib.Core.List.{List, [], ◌∷◌}
use Prim.Native.Nat.{ℕ, ◌*◌, ◌≤◌}
use native.Mathlib.Nat.{mul-le-mul}
use native.Mathlib.Omega.{arith}
use borrow.Author.Tests.{ltb-false}
use lib.Dec.{ltb}
use Rattle.rules.specs.Places.{needed, blocks}
use Rattle.rules.specs.Answers.{said, accepts, limit, too_large_lem, over_limit_lem, Check, judged, picture_checks, exact_checks, left, Outcome}
use Rattle.rules.specs.Answers.{Answer}
use Rattle.rules.specs.declared.Picture.{Picture}
use Rattle.laws.proofs.Judged as judged-laws
use Rattle.checks.specs.Passed.{Passed}

-- a product of two numbers of blocks along a side that is not too large
pub few : (a b : ℕ) → a ≤ 0x4000 → b ≤ 0x4000 → a * b ≤ 0x10000000
few a b h i = mul-le-mul h i

-- a check that fails is the answer, and one that passes leaves it to the others
pub fails : (c : Check) (cs : List Check) (then : List ℕ) → c.fails ≡ true → c.number ∷ [] ≡ judged (c ∷ cs) then
fails c cs then e = ap (λ (t : Bool). cond t (c.number ∷ []) (judged cs then)) (sym e)

pub passes : (c : Check) (cs : List Check) (then v : List ℕ) → c.fails ≡ false → v ≡ judged cs then → v ≡ judged (c ∷ cs) then
passes c cs then v e f = f ∙ ap (λ (t : Bool). cond t (c.number ∷ []) (judged cs then)) (sym e)

-- where one test or another does not hold, neither does
pub neither : (a b : Bool) → (a || b) ≡ false → (a ≡ false) × (b ≡ false)
neither true b e = absurd (true≢false e)
neither false b e = (refl, e)

-- a picture that is not too large
pub within : (most : ℕ) (pic : Picture) → too_large_lem most pic ≡ false → (pic.width ≤ most) × (pic.height ≤ most)
within most pic e =
    let t = neither (ltb most pic.width) (ltb most pic.height) e in
    (ltb-false most pic.width t.0, ltb-false most pic.height t.1)

-- and one whose pitch is not either
pub within_limit : (pic : Picture) → over_limit_lem pic ≡ false → (pic.width ≤ limit) × (pic.height ≤ limit) × (pic.pitch ≤ limit)
within_limit pic e =
    let t = neither (too_large_lem limit pic) (ltb limit pic.pitch) e in
    let w = within limit pic t.0 in
    (w.0, w.1, ltb-false limit pic.pitch t.1)

module _ (s : ℕ) (pic : Picture) (bytes elements : ℕ) (then : List ℕ) where
  -- where none of the four fails
  all : over_limit_lem pic ≡ false → ltb pic.pitch pic.width ≡ false → ltb bytes (blocks pic * s) ≡ false → ltb elements (needed pic) ≡ false → Passed s pic bytes elements
  all sides pitch short image =
      let t = within_limit pic sides in
      record {
        narrow = t.0;
        low = t.1;
        close = t.2;
        fits = ltb-false pic.pitch pic.width pitch;
        enough = ltb-false bytes (blocks pic * s) short;
        roomy = ltb-false elements (needed pic) image;
      }

  -- where the verdict accepts, whatever was checked then
  pub passed : accepts (judged (picture_checks s pic bytes elements) then) ≡ true → Passed s pic bytes elements
  passed e =
      let k = judged-laws.passed (picture_checks s pic bytes elements) then tt e in
      all k.first k.rest.first k.rest.rest.first k.rest.rest.rest.first

  -- and so where an answer does, that says it
  pub passed_by_lem : (a : Answer) → said a ≡ judged (picture_checks s pic bytes elements) then → accepts (said a) ≡ true → Passed s pic bytes elements
  passed_by_lem a e h = passed (sym (ap accepts e) ∙ h)

  -- the same with an exact length: the bytes are as many as the blocks need
  module _ (e : accepts (judged (exact_checks s pic bytes elements) then) ≡ true) where
    clear : judged-laws.Clear (exact_checks s pic bytes elements)
    clear = judged-laws.passed (exact_checks s pic bytes elements) then tt e

    pub passed_exactly : Passed s pic bytes elements
    passed_exactly = all clear.first clear.rest.first clear.rest.rest.first clear.rest.rest.rest.rest.first

    pub exact_length : bytes ≡ blocks pic * s
    exact_length =
        let least = ltb-false bytes (blocks pic * s) clear.rest.rest.first in
        let most = ltb-false (blocks pic * s) bytes clear.rest.rest.rest.first in
        omega arith

  pub passed_exactly_by : (a : Answer) → said a ≡ judged (exact_checks s pic bytes elements) then → accepts (said a) ≡ true → Passed s pic bytes elements
  passed_exactly_by a e h = passed_exactly (sym (ap accepts e) ∙ h)
