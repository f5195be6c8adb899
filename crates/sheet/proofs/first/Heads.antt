-- The first record: what the walk says of it, from what is read there.
-- Assumes nothing.
use mathlib.Core.Path.{◌≡◌, ◌∙◌, sym, ap}
use mathlib.Core.Bool.{Bool, true, false, not}
use mathlib.Core.List.{List, [], ◌∷◌}
use Prim.Native.Nat.{ℕ, ◌+◌, ◌≤◌}
use native.Mathlib.Omega.{arith}
use native.Mathlib.Nat.{add-zero}
use borrow.Author.Tests.{eq-eqb, lt-ltb, lt-leb}
use lib.ListN.{length, take, drop, get_or, length-drop}
use lib.Seq.{length-take-le, get_or-take, get_or-drop}
use Rattle.rules.specs.Places.{sized}
use Rattle.rules.specs.Answers.{refusal, judged, too_large_lem}
use Rattle.rules.specs.declared.Refusal.TheVariants.{NoHead, TooLarge}
use Rattle.numbers.specs.Numbers.{little}
use Rattle.rules.specs.Records.{Record, Records, more, records_of, first, kept, payload_at}
use Rattle.sheet.specs.records.Turns.{at, all, Turn}
use Rattle.rules.specs.FileFormats.{format_number}
use Rattle.sheet.proofs.Formats.{numbered}
use Rattle.sheet.proofs.records.Turns.{begins}
use Rattle.numbers.proofs.Little.{moved, inside}
use Rattle.rules.specs.Sheets.{sheet_limit, block_bytes_lem, format_in, format_of, size_in, is_head, after_head, walk_verdict, head_in}
use Rattle.checks.proofs.Checks.{within}
use Rattle.sheet.specs.Shown.{walk, Refuses}
use Rattle.sheet.specs.first.Heads.{Headed}

-- the walk behind a first record, by whether it is a head and whether its picture is too large
abbrev by : Bool → Bool → Record → Records → List ℕ → List ℕ
by head large r rs then =
    judged (refusal 8 (not head) ∷ refusal 1 large ∷ []) (after_head (block_bytes_lem (format_in r) (size_in r)) then (kept rs))

module _ (d : List ℕ) (k s n : ℕ) (t : Turn all d 0 k s n) where
  abbrev r : Record
  r = at d k s n

  abbrev rest : Records
  rest = records_of (drop (s + n) d)

  long : length (take n (drop s d)) ≡ n
  long = length-take-le n (drop s d) (omega (arith, length-drop s d, t.within))

  no_head : is_head r ≡ false → Refuses (walk d) NoHead
  no_head e then = sym (ap (walk_verdict then) t.meets ∙ ap (λ (b : Bool). by b (too_large_lem sheet_limit (size_in r)) r rest then) e)

  module _ (one : k ≡ 1) (nine : n ≡ 9) (f : ℕ) (e : f ≡ get_or d s 0) where
    format_at_said : get_or (take n (drop s d)) 0 0 ≡ f
    format_at_said =
        get_or-take n (drop s d) 0 0 (omega arith) ∙ get_or-drop s d 0 0 ∙ ap (λ (z : ℕ). get_or d z 0) (add-zero s) ∙ sym e

    module _ (known : f ≤ 7) (w h : ℕ) (we : w ≡ little 4 (s + 1) d) (he : h ≡ little 4 (s + 5) d) where
      is_head_lem : is_head r ≡ true
      is_head_lem =
          rw (
            eq-eqb k 1 one,
            eq-eqb (length (take n (drop s d))) 9 (long ∙ nine),
            lt-ltb (get_or (take n (drop s d)) 0 0) 8 (omega (arith, format_at_said)),
          )

      size_at : size_in r ≡ sized w h
      size_at =
          let a : little 4 1 (take n (drop s d)) ≡ w = inside 4 1 n (drop s d) (omega arith) ∙ moved 4 1 s d ∙ sym we in
          let b : little 4 5 (take n (drop s d)) ≡ h = inside 4 5 n (drop s d) (omega arith) ∙ moved 4 5 s d ∙ sym he in
          ap (λ (z : ℕ). sized z (little 4 5 (take n (drop s d)))) a ∙ ap (λ (z : ℕ). sized w z) b

      pub too_large : too_large_lem sheet_limit (sized w h) ≡ true → Refuses (walk d) TooLarge
      too_large x then =
          sym (ap (walk_verdict then) t.meets
          ∙ ap (λ (b : Bool). by b (too_large_lem sheet_limit (size_in r)) r rest then) is_head_lem
          ∙ ap (λ (b : Bool). by true b r rest then) (ap (too_large_lem sheet_limit) size_at ∙ x))

      -- the head's payload begins behind six bytes
      sixth : s ≡ 6
      unfolding payload_at
      sixth = sym (begins all d 0 k s n t (omega arith)) ∙ ap (payload_at 0) t.meets ∙ rw (lt-leb 32768 k (omega arith))

      pub headed : too_large_lem sheet_limit (sized w h) ≡ false → (m : ℕ) → m ≡ block_bytes_lem f (sized w h) → Headed d (record { format = format_of f; width = w; height = h }) (s + n) m
      headed x m b =
          let o : format_number (format_of f) ≡ f = numbered f (omega arith) in
          let i : head_in d ≡ r = ap first t.meets in
          let l = within sheet_limit (sized w h) x in
          record {
            begins =
                record {
                  format = ap format_in i ∙ format_at_said ∙ sym o;
                  size = ap size_in i ∙ size_at;
                  sound = record { known = omega (arith, o); narrow = l.0; low = l.1 };
                };
            is_head_lem = ap is_head i ∙ is_head_lem;
            fits = ap (λ (z : Record). too_large_lem sheet_limit (size_in z)) i ∙ ap (too_large_lem sheet_limit) size_at ∙ x;
            meets = t.meets ∙ ap (λ (z : Record). more z rest) (sym i);
            within = t.within;
            fifteen = omega (arith, sixth);
            bytes = b ∙ ap (λ (z : ℕ). block_bytes_lem z (sized w h)) (sym o);
          }
