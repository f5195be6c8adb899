-- One turn of the walk at a place, from what is read there; and a turn over records that are skipped.
-- Assumes nothing.
use mathlib.Core.Path.{◌≡◌, ◌∙◌, refl, sym, ap}
use mathlib.Core.List.{List}
use Prim.Native.Nat.{ℕ, ◌+◌, ◌-◌, ◌≤◌, ◌<◌}
use native.Mathlib.Omega.{arith}
use native.Mathlib.Nat.{add-zero}
use borrow.Author.Tests.{le-leb, lt-leb}
use lib.ListN.{length, take, drop, length-drop}
use lib.Seq.{drop-drop, length-take-le}
use Rattle.numbers.specs.Numbers.{little}
use Rattle.rules.specs.Records.{Records, more, ended, short, length_in, record_in, behind, records_of, kept, payload_at}
use Rattle.numbers.proofs.Little.{moved}
use Rattle.sheet.proofs.records.Walk.{at_the_end, cut_short, whole}
use Rattle.sheet.specs.records.Turns.{at, all, Turn, Meets}
use Rattle.std.specs.Prelude.{Result, Ok, Err, Option, Some, None}
use Rattle.rules.specs.declared.Refusal.{Refusal}
use Rattle.sheet.specs.declared.records.Record.{Record}

module _ (d : List ℕ) (from : ℕ) (h : from ≤ length d) where
  left : length (drop from d) ≡ length d - from
  left = length-drop from d

  told : length_in (drop from d) ≡ little 4 from d
  told = moved 4 0 from d ∙ ap (λ (z : ℕ). little 4 z d) (add-zero from)

  pub is_end : length d - from ≡ 0 → records_of (drop from d) ≡ ended
  is_end e = at_the_end (drop from d) (left ∙ e)

  pub is_short_lem : (0 < length d - from) → length d - from < 6 → records_of (drop from d) ≡ short
  is_short_lem p q = cut_short (drop from d) (omega (arith, left)) (omega (arith, left))

  module _ (n : ℕ) (e : n ≡ little 4 from d) (six : 6 ≤ length d - from) where
    pub is_cut : length d - from - 6 < n → records_of (drop from d) ≡ short
    is_cut p = cut_short (drop from d) (omega (arith, left)) (omega (arith, left, told))

    pub is_whole : (k : ℕ) → k ≡ little 2 (from + 4) d → n ≤ length d - from - 6 → Turn all d from k (from + 6) n
    is_whole k f p =
        let w : records_of (drop from d) ≡ more (record_in (drop from d)) (records_of (behind (drop from d))) =
        whole (drop from d) (omega (arith, left, told)) in
        let a : little 2 4 (drop from d) ≡ k = moved 2 4 from d ∙ sym f in
        let b : little 4 0 (drop from d) ≡ n = told ∙ sym e in
        let s : drop 6 (drop from d) ≡ drop (from + 6) d = drop-drop 6 from d in
        let i : from + (6 + n) ≡ from + 6 + n = omega arith in
        let t : drop (6 + n) (drop from d) ≡ drop (from + 6 + n) d = drop-drop (6 + n) from d ∙ ap (λ (z : ℕ). drop z d) i in
        let m : records_of (drop from d) ≡ more (at d k (from + 6) n) (records_of (drop (from + 6 + n) d)) =
        w
        ∙ ap (λ (z : ℕ). more (record { kind = z; payload = take (little 4 0 (drop from d)) (drop 6 (drop from d)) }) (records_of (behind (drop from d)))) a
        ∙ ap (λ (z : ℕ). more (record { kind = k; payload = take z (drop 6 (drop from d)) }) (records_of (drop (6 + z) (drop from d)))) b
        ∙ ap (λ (z : List ℕ). more (record { kind = k; payload = take n z }) (records_of (drop (6 + n) (drop from d)))) s
        ∙ ap (λ (z : List ℕ). more (at d k (from + 6) n) (records_of z)) t in
        record { meets = m; within = omega arith; beyond = omega arith; front = from; six = refl; there = m; passed = refl }

-- a record that is skipped leaves what the walk still meets; any other is met
pub skips : (d : List ℕ) (from k s n : ℕ) → Turn all d from k s n → 32768 ≤ k → kept (records_of (drop from d)) ≡ kept (records_of (drop (s + n) d))
unfolding kept
skips d from k s n t h = ap kept t.meets ∙ rw (le-leb 32768 k h)

pub stays : (d : List ℕ) (from k s n : ℕ) → Turn all d from k s n → k < 32768 → Turn kept d from k s n
unfolding kept
stays d from k s n t h =
    record {
      meets = ap kept t.meets ∙ rw (lt-leb 32768 k h);
      within = t.within;
      beyond = t.beyond;
      front = t.front;
      six = t.six;
      there = t.there;
      passed = t.passed;
    }

-- where the first payload begins that is not skipped: this one's, or behind this one
module _ (see : Records → Records) (d : List ℕ) (from k s n : ℕ) (t : Turn see d from k s n) where
  pub begins : k < 32768 → payload_at from (records_of (drop from d)) ≡ s
  unfolding payload_at
  begins h = t.passed ∙ ap (payload_at t.front) t.there ∙ rw (lt-leb 32768 k h) (sym t.six)

  pub begins_behind : 32768 ≤ k → payload_at from (records_of (drop from d)) ≡ payload_at (s + n) (records_of (drop (s + n) d))
  unfolding payload_at
  begins_behind h =
      let long : length (take n (drop s d)) ≡ n = length-take-le n (drop s d) (omega (arith, length-drop s d, t.within)) in
      let e : t.front + 6 + length (take n (drop s d)) ≡ s + n = omega (arith, t.six) in
      t.passed
      ∙ ap (payload_at t.front) t.there
      ∙ rw (le-leb 32768 k h) (ap (λ (z : ℕ). payload_at z (records_of (drop (s + n) d))) e)

-- what is met from a later place is met from an earlier one, where all between is skipped
pub sooner : (d : List ℕ) (from now : ℕ) (f : Result (Option Record) Refusal) → from ≤ now → kept (records_of (drop from d)) ≡ kept (records_of (drop now d))
    → payload_at from (records_of (drop from d)) ≡ payload_at now (records_of (drop now d)) → Meets d now f → Meets d from f
sooner d from now (Ok (Some r)) h e p m =
    record {
      meets = e ∙ m.meets;
      within = m.within;
      beyond = omega (arith, m.beyond);
      front = m.front;
      six = m.six;
      there = m.there;
      passed = p ∙ m.passed;
    }
sooner d from now (Ok None) h e p m = e ∙ m
sooner d from now (Err a) h e p m = (m.0, e ∙ m.1)
