-- What the request of degrees claims: no second answer; which legend, which digits and which measurement are refused, exactly; what a
-- reading holds, by bits, and what it depends on; and that its values are numbers in a range.
-- Assumes nothing.
use mathlib.Core.Path.{◌≡◌, ◌∙◌, refl, sym, ap, subst}
use mathlib.Core.Bool.{Bool, true, false, cond, not, true≢false, ◌&&◌}
use mathlib.Core.List.{List, [], ◌∷◌}
use Prim.Native.Nat.{ℕ, ◌+◌, ◌-◌, ◌<◌, ◌≤◌}
use native.Mathlib.Omega.{arith}
use borrow.Author.Tests.{not-true, le-leb, lt-leb, leb-true, eq-eqb, eqb-true}
use lib.Dec.{T, leb, eqb, lit≤}
use lib.ListN.{get_or, drop}
use lib.Ieee.{Float, binary32, of_bits, fits}
use lib.Ieee.Fits.{and_l, and_r, cond-fits, add-fits, sub-fits}
use Rattle.std.specs.Prelude.{Result, Ok, Err}
use Rattle.rules.specs.Pixel.{alpha_of, red_of}
use Rattle.rules.specs.Answers.{refusal, judged}
use Rattle.rules.specs.Floats.{plus, less, times, whole, float_bits, is_number, within}
use Rattle.rules.specs.Degrees.{line_at, predicted_at, in_degrees_lem, sound, one_digit_lem, reading_of, degrees_said, in_numbers, ReadsDegrees}
use Rattle.rules.specs.declared.Legend.{Legend}
use Rattle.rules.specs.declared.Legend.TheVariants.{Level, Line, Bend}
use Rattle.rules.specs.declared.Reading.{Reading}
use Rattle.rules.specs.declared.NoReading.{NoReading}
use Rattle.rules.specs.declared.NoReading.TheVariants.{NotMeasured, BadLegend, BadDigit, BadMeasurement}
use Rattle.degrees.proofs.floats.Predicted.{predicted_within}
use Rattle.degrees.proofs.floats.Within.{less_within, is_number_lem}
use Rattle.degrees.proofs.floats.Unique.{same_float, one_reply}

-- no second answer satisfies the promise
pub degrees_determined :
    (legend : Legend) (named shown pixel : ℕ) (measured : Float) (a b : Result Reading NoReading)
    → ReadsDegrees legend named shown pixel measured a
    → ReadsDegrees legend named shown pixel measured b
    → a ≡ b
degrees_determined legend named shown pixel measured a b p q = one_reply legend named shown pixel measured a b p q

-- ---- "The order is 13, 14, 15; then .. 'not measured'. Otherwise a reading", over what each test says

abbrev ordered : Bool → Bool → Bool → Bool → List ℕ → List ℕ
ordered legend digit measurement unseen l =
    judged (refusal 13 (not legend) ∷ refusal 14 (not digit) ∷ refusal 15 (not measurement) ∷ []) (cond unseen (17 ∷ []) (0 ∷ l))

-- what the number of an answer tells of the tests
abbrev told : ℕ → Bool → Bool → Bool → Bool → Bool
told n a b c d =
    cond (eqb n 13) (not a)
    (cond (eqb n 14) (a && not b) (cond (eqb n 15) (a && (b && not c)) (cond (eqb n 17) (a && (b && (c && d))) (a && (b && (c && not d))))))

tells : (a b c d : Bool) (l : List ℕ) → told (get_or (ordered a b c d l) 0 0) a b c d ≡ true
tells false b c d l = refl
tells true false c d l = refl
tells true true false d l = refl
tells true true true true l = refl
tells true true true false l = refl

both : (a b : Bool) → (a && b) ≡ true → (a ≡ true) × (b ≡ true)
both true b e = (refl, e)
both false b e = absurd (true≢false (sym e))

module _ (legend : Legend) (named shown pixel : ℕ) (measured : Float) where
  abbrev due : Float
  due = predicted_at legend (red_of pixel)

  abbrev due_bits : List ℕ
  due_bits = float_bits due ∷ float_bits measured ∷ float_bits (less due measured) ∷ []

  abbrev L : Bool
  L = sound legend

  abbrev D : Bool
  D = one_digit_lem named shown

  abbrev M : Bool
  M = in_degrees_lem measured

  abbrev A : Bool
  A = eqb (alpha_of pixel) 0

  module _ (reply : Result Reading NoReading) (p : ReadsDegrees legend named shown pixel measured reply) where
    one : (other : Result Reading NoReading) → ReadsDegrees legend named shown pixel measured other → reply ≡ other
    one other q = one_reply legend named shown pixel measured reply other p q

    tests : (other : Result Reading NoReading) → reply ≡ other → told (get_or (degrees_said other) 0 0) L D M A ≡ true
    tests other e =
        subst (λ (l : List ℕ). told (get_or l 0 0) L D M A ≡ true) (sym p.says ∙ ap degrees_said e) (tells L D M A due_bits)

    -- "A legend is refused with 13 unless" it is sound: exactly then, whatever else is wrong
    pub a_legend_is_refused_only_out_of_range : reply ≡ Err BadLegend → sound legend ≡ false
    a_legend_is_refused_only_out_of_range e = not-true L (tests (Err BadLegend) e)

    pub a_legend_out_of_range_is_refused : sound legend ≡ false → reply ≡ Err BadLegend
    a_legend_out_of_range_is_refused l = one (Err BadLegend) (record { says = rw l; holds = tt })

    -- "different digits, or one above 4, are refused with 14": exactly then, where the legend is sound
    pub digits_are_refused_only_where_they_are_not_one : reply ≡ Err BadDigit → (sound legend ≡ true) × (one_digit_lem named shown ≡ false)
    digits_are_refused_only_where_they_are_not_one e =
        let t = both L (not D) (tests (Err BadDigit) e) in
        (t.0, not-true D t.1)

    pub digits_that_are_not_one_are_refused : sound legend ≡ true → one_digit_lem named shown ≡ false → reply ≡ Err BadDigit
    digits_that_are_not_one_are_refused l d = one (Err BadDigit) (record { says = rw (l, d); holds = tt })

    -- "a measurement outside -720 to 720, or not a number, with 15": exactly then, where both pass
    pub a_measurement_is_refused_only_out_of_range : reply ≡ Err BadMeasurement → (sound legend ≡ true) × (one_digit_lem named shown ≡ true) × (in_degrees_lem measured ≡ false)
    a_measurement_is_refused_only_out_of_range e =
        let t = both L (D && not M) (tests (Err BadMeasurement) e) in
        let u = both D (not M) t.1 in
        (t.0, u.0, not-true M u.1)

    pub a_measurement_out_of_range_is_refused : sound legend ≡ true → one_digit_lem named shown ≡ true → in_degrees_lem measured ≡ false → reply ≡ Err BadMeasurement
    a_measurement_out_of_range_is_refused l d m = one (Err BadMeasurement) (record { says = rw (l, d, m); holds = tt })

    -- "then a pixel of alpha 0 answers 'not measured'": exactly then, where all three pass
    pub only_alpha_0_is_not_measured : reply ≡ Err NotMeasured → (sound legend ≡ true) × (one_digit_lem named shown ≡ true) × (in_degrees_lem measured ≡ true) × (alpha_of pixel ≡ 0)
    only_alpha_0_is_not_measured e =
        let t = both L (D && (M && A)) (tests (Err NotMeasured) e) in
        let u = both D (M && A) t.1 in
        let v = both M A u.1 in
        (t.0, u.0, v.0, eqb-true (alpha_of pixel) 0 v.1)

    pub alpha_0_is_not_measured : sound legend ≡ true → one_digit_lem named shown ≡ true → in_degrees_lem measured ≡ true → alpha_of pixel ≡ 0 → reply ≡ Err NotMeasured
    alpha_0_is_not_measured l d m a = one (Err NotMeasured) (record { says = rw (l, d, m, eq-eqb (alpha_of pixel) 0 a); holds = tt })

  module _ (r : Reading) (p : ReadsDegrees legend named shown pixel measured (Ok r)) where
    -- a reading has passed all four
    passes : (L ≡ true) × (D ≡ true) × (M ≡ true) × (A ≡ false)
    passes =
        let t = both L (D && (M && not A)) (tests (Ok r) p (Ok r) refl) in
        let u = both D (M && not A) t.1 in
        let v = both M (not A) u.1 in
        (t.0, u.0, v.0, not-true A v.1)

    -- "State the answers by bits": the bits of its values are those of the operations, in their order
    bits : float_bits r.predicted ∷ float_bits r.measured ∷ float_bits r.difference ∷ [] ≡ due_bits
    bits =
        let t = passes in
        ap (drop 1) (p.says ∙ ordering t.0 t.1 t.2 t.3)
      where
        ordering : L ≡ true → D ≡ true → M ≡ true → A ≡ false → ordered L D M A due_bits ≡ 0 ∷ due_bits
        ordering l d m a = rw (l, d, m, a)

    pub predicted_by_bits : float_bits r.predicted ≡ float_bits (predicted_at legend (red_of pixel))
    predicted_by_bits = ap (λ (l : List ℕ). get_or l 0 0) bits

    pub measured_by_bits : float_bits r.measured ≡ float_bits measured
    measured_by_bits = ap (λ (l : List ℕ). get_or l 1 0) bits

    pub difference_by_bits : float_bits r.difference ≡ float_bits (less (predicted_at legend (red_of pixel)) measured)
    difference_by_bits = ap (λ (l : List ℕ). get_or l 2 0) bits

    -- "Our first quarrel": what is read is of one digit, thumb to little
    pub a_reading_is_of_one_digit : (named ≡ shown) × (named ≤ 4)
    a_reading_is_of_one_digit =
        let t = both (eqb named shown) (leb named 4) passes.1 in
        (eqb-true named shown t.0, leb-true named 4 t.1)

    pub different_digits_never_give_a_reading : (named ≡ shown → ⊥) → ⊥
    different_digits_never_give_a_reading n = n a_reading_is_of_one_digit.0

-- readings that predict the same bits predict the same
same_predicted : (r s : Reading) → T (in_numbers (Ok r)) → T (in_numbers (Ok s)) → float_bits r.predicted ≡ float_bits s.predicted → r.predicted ≡ s.predicted
same_predicted r s h k e = sym (back r h) ∙ ap (of_bits binary32) e ∙ back s k
  where
    back : (r : Reading) → T (in_numbers (Ok r)) → of_bits binary32 (float_bits r.predicted) ≡ r.predicted
    back r h = same_float r.predicted (and_l (is_number r.predicted) (is_number r.measured && is_number r.difference) h)

-- what is predicted depends on red alone: two readings of one legend at pixels of one red predict the same, whatever
-- the rest of the pixels, the digits and the measurements
pub predicted_depends_on_red_alone :
    (legend : Legend) (n m k l p q : ℕ) (x y : Float) (r s : Reading)
    → ReadsDegrees legend n m p x (Ok r)
    → ReadsDegrees legend k l q y (Ok s)
    → red_of p ≡ red_of q
    → r.predicted ≡ s.predicted
predicted_depends_on_red_alone legend n m k l p q x y r s a b e =
    same_predicted r s a.holds b.holds
    (predicted_by_bits legend n m p x r a ∙ ap (λ (z : ℕ). float_bits (predicted_at legend z)) e ∙ sym (predicted_by_bits legend k l q y s b))

-- and that of a level not even on red
pub a_level_ignores_red : (v : Float) (n m k l p q : ℕ) (x y : Float) (r s : Reading) → ReadsDegrees (Level v) n m p x (Ok r) → ReadsDegrees (Level v) k l q y (Ok s) → r.predicted ≡ s.predicted
a_level_ignores_red v n m k l p q x y r s a b =
    same_predicted r s a.holds b.holds (predicted_by_bits (Level v) n m p x r a ∙ sym (predicted_by_bits (Level v) k l q y s b))

-- "a line up to red 128": up to there a bend is its line, and so at 128, where it goes on from the line's degrees
pub a_bend_is_its_line_up_to_128 : (low step second : Float) (red : ℕ) → red ≤ 128 → predicted_at (Bend low step second) red ≡ predicted_at (Line low step) red
a_bend_is_its_line_up_to_128 low step second red h = rw (le-leb red 128 h)

pub a_bend_meets_its_line_at_128 : (low step second : Float) → predicted_at (Bend low step second) 128 ≡ predicted_at (Line low step) 128
a_bend_meets_its_line_at_128 low step second = refl

pub beyond_128_a_bend_goes_on_from_there :
    (low step second : Float) (over : ℕ)
    → 0 < over
    → predicted_at (Bend low step second) (128 + over) ≡ predicted_at (Line (predicted_at (Line low step) 128) second) over
beyond_128_a_bend_goes_on_from_there low step second over h = rw (lt-leb (128 + over) 128 (omega arith), rest)
  where
    rest : 128 + over - 128 ≡ over
    rest = omega arith

-- ---- no value of a reading is infinite or a NaN

-- by the rule: what is predicted lies in -2760 to 2760, the difference in -3480 to 3480
pub what_is_predicted_has_a_range : (legend : Legend) (red : ℕ) → red ≤ 255 → sound legend ≡ true → T (within 2760 (predicted_at legend red))
what_is_predicted_has_a_range legend red h l = predicted_within legend red h (subst T (sym l) tt)

pub the_difference_has_a_range :
    (legend : Legend) (red : ℕ) (measured : Float)
    → red ≤ 255
    → sound legend ≡ true
    → in_degrees_lem measured ≡ true
    → T (within 3480 (reading_of (predicted_at legend red) measured).difference)
the_difference_has_a_range legend red measured h l m =
    less_within 2760 720 (predicted_at legend red) measured (lit≤ tt) (what_is_predicted_has_a_range legend red h l) (subst T (sym m) tt)

-- every value of a legend is a 32-bit float, as every value of the type f32 is (`Float` serves 64 bits too)
abbrev pub are_single : Legend → Bool
are_single (Level v) = fits binary32 v
are_single (Line low step) = fits binary32 low && fits binary32 step
are_single (Bend low step second) = fits binary32 low && (fits binary32 step && fits binary32 second)

-- then so is what it predicts: a level is one of them, and every sum is rounded to one
predicted_fits : (legend : Legend) (red : ℕ) → T (are_single legend) → T (fits binary32 (predicted_at legend red))
predicted_fits (Level v) red h = h
predicted_fits (Line low step) red h = add-fits binary32 low (times step (whole red))
predicted_fits (Bend low step second) red h =
    cond-fits binary32 (leb red 128) (line_at low step red) (plus (line_at low step 128) (times second (whole (red - 128))))
    (add-fits binary32 low (times step (whole red)))
    (add-fits binary32 (line_at low step 128) (times second (whole (red - 128))))

-- two numbers of 32 bits with the same bits are one
same_bits : (n : ℕ) (x y : Float) → T (is_number x) → float_bits x ≡ float_bits y → T (fits binary32 y) → T (within n y) → x ≡ y
same_bits n x y h e f w = sym (same_float x h) ∙ ap (of_bits binary32) e ∙ same_float y (is_number_lem n y f w)

below_256 : (p : ℕ) → red_of p ≤ 255
below_256 p = omega arith

-- and so in the promise: any reading that it allows holds these values, and none of them is infinite or a NaN
module _ (legend : Legend) (named shown pixel : ℕ) (measured : Float) (r : Reading)
    (p : ReadsDegrees legend named shown pixel measured (Ok r)) (f : T (are_single legend)) (g : T (fits binary32 measured)) where
  abbrev predicted : Float
  predicted = predicted_at legend (red_of pixel)

  numbers : T (is_number r.measured && is_number r.difference)
  numbers = and_r (is_number r.predicted) (is_number r.measured && is_number r.difference) p.holds

  predicted_range : T (within 2760 predicted)
  predicted_range = what_is_predicted_has_a_range legend (red_of pixel) (below_256 pixel) (passes legend named shown pixel measured r p).0

  measured_range : T (within 720 measured)
  measured_range = subst T (sym (passes legend named shown pixel measured r p).2) tt

  difference_range : T (within 3480 (less predicted measured))
  difference_range = less_within 2760 720 predicted measured (lit≤ tt) predicted_range measured_range

  pub a_reading_predicts_what_is_due : r.predicted ≡ predicted_at legend (red_of pixel)
  a_reading_predicts_what_is_due =
      same_bits 2760 r.predicted predicted (and_l (is_number r.predicted) (is_number r.measured && is_number r.difference) p.holds)
      (predicted_by_bits legend named shown pixel measured r p)
      (predicted_fits legend (red_of pixel) f)
      predicted_range

  pub a_reading_holds_the_measurement : r.measured ≡ measured
  a_reading_holds_the_measurement =
      same_bits 720 r.measured measured (and_l (is_number r.measured) (is_number r.difference) numbers)
      (measured_by_bits legend named shown pixel measured r p)
      g
      measured_range

  pub a_reading_holds_the_difference : r.difference ≡ less (predicted_at legend (red_of pixel)) measured
  a_reading_holds_the_difference =
      same_bits 3480 r.difference (less predicted measured) (and_r (is_number r.measured) (is_number r.difference) numbers)
      (difference_by_bits legend named shown pixel measured r p)
      (sub-fits binary32 predicted measured)
      difference_range

  pub the_predicted_value_is_finite : T (within 2760 r.predicted)
  the_predicted_value_is_finite = subst (λ (x : Float). T (within 2760 x)) (sym a_reading_predicts_what_is_due) predicted_range

  pub the_measured_value_is_finite : T (within 720 r.measured)
  the_measured_value_is_finite = subst (λ (x : Float). T (within 720 x)) (sym a_reading_holds_the_measurement) measured_range

  pub the_difference_is_finite : T (within 3480 r.difference)
  the_difference_is_finite = subst (λ (x : Float). T (within 3480 x)) (sym a_reading_holds_the_difference) difference_range
