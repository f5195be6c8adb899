-- A picture whose rows have no gap, "pitch equal to width": its own elements are the first width * height of the image, and as many are
-- needed. So what was said of a width and a height alone is said as before.
-- Assumes nothing.
use mathlib.Core.Path.{◌≡◌, ◌∙◌, refl, sym, ap}
use mathlib.Core.Bool.{Bool, true, false, cond, ◌&&◌}
use mathlib.Core.List.{List}
use mathlib.Core.Logic.{⊎_elim}
use Prim.Native.Nat.{ℕ, zero, suc, ◌+◌, ◌-◌, ◌*◌, ◌/◌, ◌%◌, ◌<◌}
use native.Mathlib.Nat.{div-add-mod', div-lt_iff_lt-mul, mod-lt, mul_comm, mul-zero, zero-mul, suc-mul, eq-zero-or-pos}
use native.Mathlib.Decide.{dec_lt}
use native.Mathlib.Omega.{arith}
use borrow.Author.Tests.{lt-ltb, le-ltb, ne_eqb, ltb-true}
use lib.Dec.{ltb}
use lib.ListN.{length, get_or}
use Rattle.rules.specs.Places.{sized, inside, needed, painted}
use Rattle.laws.proofs.Filled.{build_same}
use Rattle.pixel.proofs.place.Grid.{before, wide}

-- two tests that do not hold together
neither : (s t : Bool) → (s ≡ true → t ≡ true → ⊥) → (s && t) ≡ false
neither false t h = refl
neither true false h = refl
neither true true h = absurd (h refl refl)

-- all rows but the last, and the last
rows : (w h : ℕ) → 0 < h → (h - 1) * w + w ≡ w * h
rows w (suc h) p =
    let e : suc h - 1 ≡ h = omega arith in
    ap (λ (z : ℕ). z * w + w) e ∙ sym (suc-mul h w) ∙ mul_comm (suc h) w
rows w zero p = absurd (omega arith)

module _ (w h : ℕ) where
  pub needed_plain : needed (sized w h) ≡ w * h
  unfolding needed
  needed_plain =
      ⊎_elim (λ e. rw e (sym (zero-mul h)))
      (λ p.
      ⊎_elim (λ e. rw (ne_eqb w 0 (λ z. omega (arith, z)), e) (sym (mul-zero w)))
      (λ q. rw (ne_eqb w 0 (λ z. omega (arith, z)), ne_eqb h 0 (λ z. omega (arith, z))) (rows w h q))
      (eq-zero-or-pos h))
      (eq-zero-or-pos w)

  pub inside_plain : (k : ℕ) → inside (sized w h) k ≡ ltb k (w * h)
  inside_plain k =
      elim (dec_lt k (w * h)) [
        | yes l ↦
            let m : k < h * w = omega (arith, l, mul_comm w h) in
            let p = wide w h k m in
            rw (lt-ltb (k % w) w (mod-lt k p), lt-ltb (k / w) h ((div-lt_iff_lt-mul p).1 m), lt-ltb k (w * h) l)
        | no l ↦
            neither (ltb (k % w) w) (ltb (k / w) h)
            (λ a b. omega (arith, l, before w (k % w) (k / w) h (ltb-true (k % w) w a) (ltb-true (k / w) h b), div-add-mod' k w, mul_comm w h))
            ∙ sym (le-ltb k (w * h) (omega (arith, l)))
      ]

  -- so a picture without gaps is painted over the first width * height elements
  pub painted_plain : (v : ℕ → ℕ) (old : List ℕ) → painted (inside (sized w h)) v old ≡ painted (λ k. ltb k (w * h)) v old
  unfolding painted
  painted_plain v old = build_same 0 _ _ (length old) (λ k l. ap (λ (t : Bool). cond t (v k) (get_or old k 0)) (inside_plain k))
