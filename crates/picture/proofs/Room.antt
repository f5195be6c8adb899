-- A check of an image that is long enough, or of a pitch that is the width, may be left out: so those of the bytes are left.
-- Assumes nothing.
use Rattle.std.proofs.Common.{◌≡◌, ◌∙◌, refl, Bool, true, false, cond, ◌||◌, List, [], ◌∷◌, ◌++◌, ◌⊎◌, inl, inr, ℕ, ◌+◌, ◌-◌, ◌*◌, ◌≤◌, arith}
use native.Mathlib.Nat.{mul-le-mul}
use borrow.Author.Tests.{le-ltb}
use lib.Dec.{ltb, eqb}
use Rattle.rules.specs.Places.{sized, needed, blocks}
use Rattle.rules.specs.Answers.{limit, too_large_lem, over_limit_lem, Check, judged}
use Rattle.rules.specs.Answers.{limit_check, pitch_check, sides_check, data_check, leftover_check, image_check}
use Rattle.rules.specs.declared.Picture.{Picture}
use Rattle.checks.proofs.Checks.{neither, within_limit}
use Rattle.guard.specs.declared.Viewer.{Viewer}
use Rattle.guard.specs.declared.Viewer.TheVariants.{Etc1, Opaque}
use Rattle.picture.specs.Checked.{checks_for, data_checks_for}

-- a last check that passes may be left out, and one that fails is what is said, or what would be said without it
passes_last : (cs : List Check) (c : Check) (then : List ℕ) → c.fails ≡ false → judged (cs ++ c ∷ []) then ≡ judged cs then
passes_last [] c then e = rw e
passes_last (d ∷ cs) c then e = rw (passes_last cs c then e)

last_or_without : (cs : List Check) (c : Check) (then : List ℕ)
    → (judged (cs ++ c ∷ []) then ≡ c.number ∷ []) ⊎ (judged (cs ++ c ∷ []) then ≡ judged cs then)
last_or_without [] c then =
    elim c.fails as (λ t. (cond t (c.number ∷ []) then ≡ c.number ∷ []) ⊎ (cond t (c.number ∷ []) then ≡ then)) [
      | true ↦ inl refl
      | false ↦ inr refl
    ]
last_or_without (d ∷ cs) c then =
    elim d.fails as (λ t. (cond t (d.number ∷ []) (judged (cs ++ c ∷ []) then) ≡ c.number ∷ [])
    ⊎ (cond t (d.number ∷ []) (judged (cs ++ c ∷ []) then) ≡ cond t (d.number ∷ []) (judged cs then))) [
      | true ↦ inr refl
      | false ↦ last_or_without cs c then
    ]

-- the check of an image passes that a picture within the limit does not exceed
module _ (pic : Picture) (elements : ℕ) (room : over_limit_lem pic ≡ false → needed pic ≤ elements) where
  pub long_enough : (cs : List Check) (then : List ℕ)
      → judged (limit_check pic ∷ (cs ++ image_check (needed pic) elements ∷ [])) then ≡ judged (limit_check pic ∷ cs) then
  long_enough cs then = decide (over_limit_lem pic) refl
    where
      decide : (over : Bool) → over_limit_lem pic ≡ over
          → judged (limit_check pic ∷ (cs ++ image_check (needed pic) elements ∷ [])) then ≡ judged (limit_check pic ∷ cs) then
      decide true e = rw e
      decide false e = rw e (passes_last cs (image_check (needed pic) elements) then (le-ltb elements (needed pic) (room e)))

-- the largest picture needs no more than this
pub most : (pic : Picture) → over_limit_lem pic ≡ false → needed pic ≤ 0x100000000
unfolding needed
most pic e =
    let t = within_limit pic e in
    decide (eqb pic.width 0 || eqb pic.height 0) t.0 t.1 t.2
  where
    decide : (none : Bool) → pic.width ≤ limit → pic.height ≤ limit → pic.pitch ≤ limit → cond none 0 ((pic.height - 1) * pic.pitch + pic.width) ≤ 0x100000000
    decide true p q r = omega arith
    decide false p q r =
        let i : pic.height - 1 ≤ 0xFFFF = omega arith in
        let j : (pic.height - 1) * pic.pitch ≤ 0xFFFF * 0x10000 = mul-le-mul i r in
        omega arith

-- without a gap, the pitch is not above a limit where no side is
one_limit : (w h : Bool) → ((w || h) || w) ≡ (w || h)
one_limit true h = refl
one_limit false true = refl
one_limit false false = refl

pub largest : (w h : ℕ) → too_large_lem limit (sized w h) ≡ false → needed (sized w h) ≤ 0x100000000
largest w h e = most (sized w h) (rw (one_limit (ltb limit w) (ltb limit h)) e)

module _ (w h elements : ℕ) where
  -- so the check of its pitch falls away
  no_gap : (cs : List Check) (then : List ℕ)
      → judged (limit_check (sized w h) ∷ pitch_check (sized w h) ∷ cs) then ≡ judged (sides_check limit (sized w h) ∷ cs) then
  no_gap cs then = rw (one_limit (ltb limit w) (ltb limit h), le-ltb w w (omega arith))

  -- where the image is too short, that is said, or what would be said without it
  short_or_not : (cs : List Check) (then : List ℕ)
      → (judged (limit_check (sized w h) ∷ pitch_check (sized w h) ∷ (cs ++ image_check (needed (sized w h)) elements ∷ [])) then ≡ 3 ∷ [])
      ⊎ (judged (limit_check (sized w h) ∷ pitch_check (sized w h) ∷ (cs ++ image_check (needed (sized w h)) elements ∷ [])) then
      ≡ judged (sides_check limit (sized w h) ∷ cs) then)
  short_or_not cs then =
      elim (last_or_without (limit_check (sized w h) ∷ pitch_check (sized w h) ∷ cs) (image_check (needed (sized w h)) elements) then) [
        | inl e ↦ inl e
        | inr e ↦ inr (e ∙ no_gap cs then)
      ]

  pub or_short : (viewer : Viewer) (bytes : ℕ) (then : List ℕ)
      → (judged (checks_for viewer (sized w h) bytes elements) then ≡ 3 ∷ [])
      ⊎ (judged (checks_for viewer (sized w h) bytes elements) then ≡ judged (data_checks_for viewer (sized w h) bytes) then)
  or_short Etc1 bytes then =
      short_or_not (data_check (blocks (sized w h) * 8) bytes ∷ leftover_check (blocks (sized w h) * 8) bytes ∷ []) then
  or_short Opaque bytes then = short_or_not (data_check (blocks (sized w h) * 8) bytes ∷ []) then

  -- where it is long enough, no check is left out that could fail
  module _ (room : too_large_lem limit (sized w h) ≡ false → needed (sized w h) ≤ elements) where
    not_short : (cs : List Check) (then : List ℕ)
        → judged (limit_check (sized w h) ∷ pitch_check (sized w h) ∷ (cs ++ image_check (needed (sized w h)) elements ∷ [])) then
        ≡ judged (sides_check limit (sized w h) ∷ cs) then
    not_short cs then =
        long_enough (sized w h) elements (λ e. room (neither (too_large_lem limit (sized w h)) (ltb limit w) e).0) (pitch_check (sized w h) ∷ cs) then
        ∙ no_gap cs then

    pub without_image : (viewer : Viewer) (bytes : ℕ) (then : List ℕ)
        → judged (checks_for viewer (sized w h) bytes elements) then ≡ judged (data_checks_for viewer (sized w h) bytes) then
    without_image Etc1 bytes then =
        not_short (data_check (blocks (sized w h) * 8) bytes ∷ leftover_check (blocks (sized w h) * 8) bytes ∷ []) then
    without_image Opaque bytes then = not_short (data_check (blocks (sized w h) * 8) bytes ∷ []) then
