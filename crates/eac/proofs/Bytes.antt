-- The eight values of a block as the machine makes them, the one that each pixel picks, and what `eac_bytes` hands on: sixteen numbers,
-- each the byte of its pixel and below 256.
-- Assumes nothing.
use Rattle.std.proofs.Common.{◌≡◌, ℕ, ◌/◌, ◌%◌, ◌^◌, ◌<◌, Bool, true, false, T, List, [], get_or, ℤ, pos, ◌+ℤ◌, ◌*ℤ◌, nat_abs, sym, refl, ap, ◌∙◌, subst, arith, w16}
use lib.IntN.{+ℤ_comm}
use lib.Signed.{mag, lt_z, non_neg}
use Rattle.rules.specs.Notation.{byte, bits, build}
use Rattle.rules.specs.Channels.{alpha_steps_lem, alpha_step, centre, multiplier, eac_value, eac_byte}
use Rattle.rules.specs.Whole.{least, most, between, middle, added, eac_whole_lem}
use Rattle.laws.proofs.Filled.{get_or_build, build_same}
use Rattle.laws.proofs.Signed.{held, held_is, held_small, clamp_le}
use Rattle.etc_alpha.specs.picks.Picks.{pick_at}
use Rattle.eac.specs.Eights.{steps_in_lem, whole_of, eighth_of, number_at}
use Rattle.etc_alpha.proofs.channel.Steps.{small_row}
use Rattle.eac.proofs.values.Whole.{Raised, raised, not_negative, bytes_stay}

-- a base moved by a multiple of a step, and clamped, is the same where its parts are
moved_same : {a b s t l k h g : ℤ} {m n : ℕ} → l ≡ k → h ≡ g → a ≡ b → m ≡ n → s ≡ t → between l h (a +ℤ pos m *ℤ s) ≡ between k g (b +ℤ pos n *ℤ t)
moved_same o p q r e = cc

small_least : (signed : Bool) → mag (least signed) < 2 ^ 15
small_least true = omega arith
small_least false = omega arith

small_most : (signed : Bool) → mag (most signed) < 2 ^ 15
small_most true = omega arith
small_most false = omega arith

-- the range is not empty, as the machine holds its ends
pub in_order : (signed : Bool) (low high : ℤ) → low ≡ least signed → high ≡ most signed → lt_z (held w16 high) (held w16 low) ≡ false
in_order signed low high el eh =
    ap (λ (z : ℤ). lt_z z (held w16 low)) (held_is w16 high (most signed) eh (small_most signed))
    ∙ ap (λ (z : ℤ). lt_z (most signed) z) (held_is w16 low (least signed) el (small_least signed))
    ∙ tested signed
  where
    tested : (t : Bool) → lt_z (most t) (least t) ≡ false
    tested true = refl
    tested false = refl

-- what is added is small
pub small_added : (signed : Bool) (up : ℕ) → up ≡ added signed → up < 2048
small_added true up e = omega arith
small_added false up e = omega arith

-- each of the eight values is small, so that every type holds it
pub small_whole : (signed : Bool) (d : List ℕ) (j : ℕ) → Raised (added signed) (whole_of signed d j)
small_whole signed d j =
    raised signed (middle signed (byte d 0) +ℤ pos (multiplier (bits 7 4 (byte d 1))) *ℤ get_or (steps_in_lem d) j (pos 0))

-- and its eighth is as large as a byte
pub small_eighth : (signed : Bool) (d : List ℕ) (j : ℕ) → eighth_of signed d j < 256
small_eighth signed d j =
    let r = small_whole signed d j in
    let e : nat_abs (whole_of signed d j +ℤ pos (added signed)) ≡ r.value = ap nat_abs (+ℤ_comm (whole_of signed d j) (pos (added signed)) ∙ r.is) in
    omega (arith, e, r.few)

-- the value in their middle as it is held
pub middle_held : (base : ℤ) {z : ℤ} → base ≡ z → mag base < 4096 → (held w16 base ≡ z) × (mag (held w16 base) < 4096)
middle_held base e b = let h = held_small w16 base (omega arith) in (h ∙ e, rw h b)

-- a step as it is held
module _ (d : List ℕ) (steps : List ℤ) (row j : ℕ) (es : steps ≡ get_or alpha_steps_lem row []) (er : row ≡ bits 3 0 (byte d 1)) where
  step_is : get_or steps j (pos 0) ≡ get_or (steps_in_lem d) j (pos 0)
  step_is = ap (λ (l : List ℤ). get_or l j (pos 0)) (es ∙ ap (λ (n : ℕ). get_or alpha_steps_lem n []) er)

  pub step_held : held w16 (get_or steps j (pos 0)) ≡ get_or (steps_in_lem d) j (pos 0)
  step_held = held_is w16 _ _ step_is (omega (arith, small_row (bits 3 0 (byte d 1)) j (omega arith)))

  pub step_small : mag (held w16 (get_or steps j (pos 0))) < 16
  step_small = rw step_held (small_row (bits 3 0 (byte d 1)) j (omega arith))

-- what the machine makes of a block's middle, multiplier and steps, clamped, is the value of its number
module _ (signed : Bool) (d : List ℕ) (base low high w s : ℤ) (m j : ℕ)
    (eb : base ≡ middle signed (byte d 0)) (bb : mag base < 4096) (em : m ≡ multiplier (bits 7 4 (byte d 1)))
    (el : low ≡ least signed) (eh : high ≡ most signed) (es : s ≡ get_or (steps_in_lem d) j (pos 0))
    (e : w ≡ between (held w16 low) (held w16 high) (held w16 base +ℤ pos m *ℤ s)) where
  pub whole_at_lem : held w16 w ≡ whole_of signed d j
  whole_at_lem =
      held_is w16 w _
      (e
      ∙ moved_same (held_is w16 low (least signed) el (small_least signed)) (held_is w16 high (most signed) eh (small_most signed))
      (held_small w16 base (omega arith) ∙ eb) em es)
      (omega (arith, (small_whole signed d j).small))

-- a value that is one of a block's
module _ (signed : Bool) (d : List ℕ) (v : ℤ) (j up : ℕ) (e : v ≡ whole_of signed d j) (u : up ≡ added signed) where
  pub whole_small : mag v < 2048
  whole_small = subst (λ (z : ℤ). mag z < 2048) (sym e) (small_whole signed d j).small

  pub whole_raised : T (non_neg (pos up +ℤ v))
  whole_raised =
      subst (λ (z : ℤ). T (non_neg (pos up +ℤ z))) (sym e)
      (subst (λ (n : ℕ). T (non_neg (pos n +ℤ whole_of signed d j))) (sym u)
      (not_negative (added signed) (small_whole signed d j).value (whole_of signed d j) (small_whole signed d j).is))

  -- its eighth
  pub eighth : nat_abs (pos up +ℤ v) / 8 ≡ eighth_of signed d j
  eighth =
      ap (λ (z : ℤ). nat_abs (pos up +ℤ z) / 8) e
      ∙ ap (λ (n : ℕ). nat_abs (pos n +ℤ whole_of signed d j) / 8) u
      ∙ ap (λ (z : ℤ). nat_abs z / 8) (+ℤ_comm (pos (added signed)) (whole_of signed d j))

-- eight of them
module _ (signed : Bool) (d : List ℕ) (wholes : List ℤ) (e : wholes ≡ build 8 (whole_of signed d)) where
  pub wholes_at : (j : ℕ) → j < 8 → get_or wholes j (pos 0) ≡ whole_of signed d j
  wholes_at j h = ap (λ (l : List ℤ). get_or l j (pos 0)) e ∙ get_or_build (whole_of signed d) (pos 0) 8 j h

-- what pixel k picks of eight numbers, and of eight that have a rule
pub picked_at : (d : List ℕ) (eight sixteen : List ℤ) (k : ℕ) → sixteen ≡ build 16 (pick_at d eight) → k < 16 → get_or sixteen k (pos 0) ≡ get_or eight (number_at d k) (pos 0)
unfolding pick_at
picked_at d eight sixteen k g h = ap (λ (l : List ℤ). get_or l k (pos 0)) g ∙ get_or_build (pick_at d eight) (pos 0) 16 k h

pub picks : (f : ℕ → ℤ) (d : List ℕ) (eight sixteen : List ℤ) (k : ℕ) → eight ≡ build 8 f → sixteen ≡ build 16 (pick_at d eight) → k < 16
    → get_or sixteen k (pos 0) ≡ f (number_at d k)
picks f d eight sixteen k e g h =
    picked_at d eight sixteen k g h
    ∙ ap (λ (l : List ℤ). get_or l (number_at d k) (pos 0)) e
    ∙ get_or_build f (pos 0) 8 (number_at d k) (omega arith)

-- its value and its byte are those of the pixel
pub whole_picked : (signed : Bool) (d : List ℕ) (k : ℕ) → whole_of signed d (number_at d k) ≡ eac_whole_lem signed d (k % 4) (k / 4)
unfolding eac_whole_lem alpha_step
whole_picked signed d k = refl

pub byte_picked : (signed : Bool) (d : List ℕ) (k : ℕ) → eighth_of signed d (number_at d k) ≡ eac_byte signed d (k % 4) (k / 4)
byte_picked signed d k =
    ap (λ (z : ℤ). nat_abs (z +ℤ pos (added signed)) / 8) (whole_picked signed d k) ∙ sym (bytes_stay signed d (k % 4) (k / 4))

-- eight eighths, and the bytes that are picked of them
module _ (signed : Bool) (d : List ℕ) (eight : List ℤ) (e : eight ≡ build 8 (λ j. pos (eighth_of signed d j))) where
  eight_at : (j : ℕ) → j < 8 → get_or eight j (pos 0) ≡ pos (eighth_of signed d j)
  eight_at j h = ap (λ (l : List ℤ). get_or l j (pos 0)) e ∙ get_or_build (λ j. pos (eighth_of signed d j)) (pos 0) 8 j h

  pub eights_are_bytes : (j : ℕ) → j < 8 → T (non_neg (get_or eight j (pos 0))) × (mag (get_or eight j (pos 0)) < 256)
  eights_are_bytes j h = rw (eight_at j h) (tt, small_eighth signed d j)

  pub bytes_of : (r : List ℕ) → r ≡ build 16 (λ k. nat_abs (get_or eight (number_at d k) (pos 0))) → r ≡ build 16 (λ k. eac_byte signed d (k % 4) (k / 4))
  bytes_of r q =
      q ∙ build_same 0 (λ k. nat_abs (get_or eight (number_at d k) (pos 0))) (λ k. eac_byte signed d (k % 4) (k / 4)) 16
      (λ k h. ap nat_abs (eight_at (number_at d k) (omega arith)) ∙ byte_picked signed d k)

-- the byte of place k, row by row
abbrev pub byte_at : Bool → List ℕ → ℕ → ℕ
byte_at signed d k = eac_byte signed d (k % 4) (k / 4)

small_byte : (signed : Bool) (d : List ℕ) (k : ℕ) → byte_at signed d k < 256
unfolding eac_byte eac_value
small_byte signed d k =
    omega (arith, clamp_le 2047 (centre signed (byte d 0) +ℤ pos (multiplier (bits 7 4 (byte d 1))) *ℤ alpha_step d (k % 4) (k / 4)))

module _ (signed : Bool) (d bytes : List ℕ) (k : ℕ) (e : bytes ≡ build 16 (byte_at signed d)) (h : k < 16) where
  pub byte-at : get_or bytes k 0 ≡ byte_at signed d k
  byte-at = ap (λ (l : List ℕ). get_or l k 0) e ∙ get_or_build (byte_at signed d) 0 16 k h

  pub byte_small : get_or bytes k 0 < 256
  byte_small = omega (arith, byte-at, small_byte signed d k)
