-- A range goes through each operation: what lies in -p to p and what lies in -q to q have their sum and difference in -(p + q) to
-- p + q and their product in -(p * q) to p * q, rounding included, up to 2 ^ 24. So nothing in a range grows to an infinity or NaN.
-- Assumes nothing.
use mathlib.Core.Path.{◌≡◌, refl, sym, ◌∙◌, ap, subst}
use mathlib.Core.Bool.{Bool, true, false, not, cond, ◌&&◌, beq, true≢false}
use Prim.Native.Nat.{ℕ, zero, suc, ◌+◌, ◌-◌, ◌*◌, ◌^◌, ◌<◌, ◌≤◌}
use native.Mathlib.Nat.{mul-one, mul-pos, mul_comm, mul_assoc, mul_right_comm, mul-le-mul, mul-le-mul_right, mul-mul-mul_comm, add-mul, le_trans, le_of_eq, le_of_mul-le-mul_right}
use native.Mathlib.Omega.{arith}
use borrow.Author.Tests.{eq-eqb, ne_eqb}
use lib.Dec.{T, ltb, eqb, leb→le, le→leb, lit<}
use lib.IntN.{ℤ}
use lib.Ieee.{Float, nan, inf, fin, Format, binary32, prec, emax, low, up, down, unlike, odd, units, round, neg, sum, add, sub, mul, le, of_int, fits, is_nan}
use lib.Ieee.Fits.{down_pos, round_is, and_i}
use lib.Ieee.Exact.{HasValue}
use lib.Ieee.Back.{round_whole}
use lib.Ieee.Order.{round_mono}
use Rattle.rules.specs.Floats.{plus, less, times, whole, is_number, within}
use Rattle.degrees.proofs.floats.Range.{at_most}

-- ---- the sign of a rounded fraction plays no part

odd_unsigned : (n d : ℕ) (s : Bool) (q k l : ℕ) → within n (odd d s q k l) ≡ within n (odd d false q k l)
unfolding odd
odd_unsigned n d s zero k l = refl
odd_unsigned n d s (suc q) k l = refl

units_unsigned : (f : Format) (n : ℕ) (s : Bool) (q k : ℕ) → within n (units f s q k) ≡ within n (units f false q k)
unfolding units
units_unsigned f n s q k = go (ltb (q * 2 ^ k) (2 ^ (low f + suc (emax f))))
  where
    go : (b : Bool) → within n (cond b (odd (suc (prec f)) s q k (low f)) (inf s)) ≡ within n (cond b (odd (suc (prec f)) false q k (low f)) (inf false))
    go true = odd_unsigned n (suc (prec f)) s q k (low f)
    go false = refl

round_unsigned : (f : Format) (n : ℕ) (s : Bool) (a b : ℕ) → within n (round f s a b) ≡ within n (round f false a b)
round_unsigned f n s a b =
    ap (within n) (round_is f s a b) ∙ units_unsigned f n s _ _ ∙ sym (ap (within n) (round_is f false a b))

-- ---- a fraction up to n rounds to a number up to n

-- not negative, and no NaN
abbrev upward : Float → Bool
upward nan = false
upward (inf s) = not s
upward (fin s m e) = not s

odd_upward : (d q k l : ℕ) → T (upward (odd d false q k l))
unfolding odd
odd_upward d zero k l = tt
odd_upward d (suc q) k l = tt

units_upward : (f : Format) (q k : ℕ) → T (upward (units f false q k))
unfolding units
units_upward f q k = go (ltb (q * 2 ^ k) (2 ^ (low f + suc (emax f))))
  where
    go : (b : Bool) → T (upward (cond b (odd (suc (prec f)) false q k (low f)) (inf false)))
    go true = odd_upward (suc (prec f)) q k (low f)
    go false = tt

round_upward : (f : Format) (a b : ℕ) → T (upward (round f false a b))
round_upward f a b = subst (λ (x : Float). T (upward x)) (sym (round_is f false a b)) (units_upward f _ _)

-- what is not negative and at most n lies in -n to n
below : (n a m : ℕ) (d e : ℤ) → a * up d * down e ≤ m * up e * down d → m * up e * 1 ≡ n * down e → a * up d ≤ n * down d
below n a m d e h v =
    let l : m * up e * down d ≡ n * down d * down e = ap (λ (z : ℕ). z * down d) (sym (mul-one (m * up e)) ∙ v) ∙ mul_right_comm n (down e) (down d) in
    le_of_mul-le-mul_right (le_trans h (le_of_eq l)) (down_pos e)

under : (n : ℕ) (x y : Float) → T (upward x) → T (le x y) → HasValue y false n 1 → T (within n x)
unfolding le
under n nan y u h v = absurd u
under n (inf true) y u h v = absurd u
under n (inf false) nan u h v = absurd v
under n (inf false) (inf t) u h v = absurd v
under n (inf false) (fin t m e) u h v = absurd h
under n (fin true a d) y u h v = absurd u
under n (fin false a d) nan u h v = absurd v
under n (fin false a d) (inf t) u h v = absurd v
under n (fin false a d) (fin true m e) u h v = absurd (true≢false v.0)
under n (fin false a d) (fin false m e) u h v =
    let x = a * up d * down e in
    let y = m * up e * down d in
    let q = at_most x y (eqb x y && true) (λ i. rw (eq-eqb x y i)) (λ i. rw (ne_eqb x y i)) in
    le→leb (a * up d) (n * down d) (below n a m d e (leb→le x y (subst T q h)) v.1)

pub round_within : (s : Bool) (n a b : ℕ) → n ≤ 2 ^ 24 → 0 < b → a ≤ n * b → T (within n (round binary32 s a b))
round_within s n a b small some h =
    subst T (sym (round_unsigned binary32 n s a b))
    (under n (round binary32 false a b) (round binary32 false n 1) (round_upward binary32 a b)
    (round_mono binary32 a b n 1 some (lit< tt) (le_trans (le_of_eq (mul-one a)) h))
    (round_whole binary32 false n small))

-- ---- the operations

pub whole_within : (n : ℕ) → n ≤ 2 ^ 24 → T (within n (whole n))
unfolding of_int
whole_within n small = round_within false n n 1 small (lit< tt) (le_of_eq (sym (mul-one n)))

neg_within : (n : ℕ) (x : Float) → T (within n x) → T (within n (neg x))
unfolding neg
neg_within n nan h = h
neg_within n (inf s) h = h
neg_within n (fin s m e) h = h

-- two sizes over a common denominator
common : (p q x y dx dy : ℕ) → x ≤ p * dx → y ≤ q * dy → x * dy + y * dx ≤ (p + q) * (dx * dy)
common p q x y dx dy hx hy =
    let a : x * dy ≤ p * (dx * dy) = le_trans (mul-le-mul_right dy hx) (le_of_eq (mul_assoc p dx dy)) in
    let b : y * dx ≤ q * (dx * dy) = le_trans (mul-le-mul_right dx hy) (le_of_eq (mul_assoc q dy dx ∙ ap (λ (z : ℕ). q * z) (mul_comm dy dx))) in
    rw (add-mul p q (dx * dy)) (omega arith)

sum_within : (n : ℕ) (s : Bool) (a : ℕ) (t : Bool) (b c : ℕ) → n ≤ 2 ^ 24 → 0 < c → a + b ≤ n * c → T (within n (sum binary32 s a t b c))
unfolding sum
sum_within n s a t b c small some h = go (beq s t) (ltb a b) (s && ltb b a)
  where
    go : (u v w : Bool) → T (within n (cond u (round binary32 s (a + b) c) (cond v (round binary32 t (b - a) c) (round binary32 w (a - b) c))))
    go true v w = round_within s n (a + b) c small some h
    go false true w = round_within t n (b - a) c small some (omega arith)
    go false false w = round_within w n (a - b) c small some (omega arith)

pub plus_within : (p q : ℕ) (x y : Float) → p + q ≤ 2 ^ 24 → T (within p x) → T (within q y) → T (within (p + q) (plus x y))
unfolding add
plus_within p q nan y small h k = absurd h
plus_within p q (inf s) y small h k = absurd h
plus_within p q (fin s m e) nan small h k = absurd k
plus_within p q (fin s m e) (inf t) small h k = absurd k
plus_within p q (fin s m e) (fin t n d) small h k =
    sum_within (p + q) s (m * up e * down d) t (n * up d * down e) (down e * down d) small (mul-pos (down_pos e) (down_pos d))
    (common p q (m * up e) (n * up d) (down e) (down d) (leb→le (m * up e) (p * down e) h) (leb→le (n * up d) (q * down d) k))

pub less_within : (p q : ℕ) (x y : Float) → p + q ≤ 2 ^ 24 → T (within p x) → T (within q y) → T (within (p + q) (less x y))
unfolding sub
less_within p q x y small h k = plus_within p q x (neg y) small h (neg_within q y k)

pub times_within : (p q : ℕ) (x y : Float) → p * q ≤ 2 ^ 24 → T (within p x) → T (within q y) → T (within (p * q) (times x y))
unfolding mul
times_within p q nan y small h k = absurd h
times_within p q (inf s) y small h k = absurd h
times_within p q (fin s m e) nan small h k = absurd k
times_within p q (fin s m e) (inf t) small h k = absurd k
times_within p q (fin s m e) (fin t n d) small h k =
    round_within (unlike s t) (p * q) (m * up e * (n * up d)) (down e * down d) small (mul-pos (down_pos e) (down_pos d))
    (le_trans (mul-le-mul (leb→le (m * up e) (p * down e) h) (leb→le (n * up d) (q * down d) k)) (le_of_eq (mul-mul-mul_comm p (down e) q (down d))))

pub wider : (p q : ℕ) (x : Float) → p ≤ q → T (within p x) → T (within q x)
wider p q nan h k = k
wider p q (inf s) h k = k
wider p q (fin s m e) h k =
    le→leb (m * up e) (q * down e) (le_trans (leb→le (m * up e) (p * down e) k) (mul-le-mul_right (down e) h))

-- ---- what is in a range is a number

no_nan : (n : ℕ) (x : Float) → T (within n x) → T (not (is_nan x))
unfolding is_nan
no_nan n nan h = h
no_nan n (inf s) h = tt
no_nan n (fin s m e) h = tt

pub is_number_lem : (n : ℕ) (x : Float) → T (fits binary32 x) → T (within n x) → T (is_number x)
is_number_lem n x f h = and_i (fits binary32 x) (not (is_nan x)) f (no_nan n x h)
