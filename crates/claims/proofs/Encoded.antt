-- What is written is met by the walk over a sheet: one record, and records one after another.
-- Assumes nothing.
use mathlib.Core.Path.{◌≡◌, ◌∙◌, refl, sym, ap}
use mathlib.Core.List.{List, [], ◌∷◌, ◌++◌, append_assoc}
use Prim.Native.Nat.{ℕ, ◌+◌, ◌≤◌, ◌<◌}
use native.Mathlib.Omega.{arith}
use lib.ListN.{length, take, drop, length-append}
use lib.Seq.{take_at, drop_at, drop-drop}
use Rattle.numbers.specs.Numbers.{little, in_bytes}
use Rattle.rules.specs.Records.{Record, encoded, Records, more, length_in, behind, records_of}
use Rattle.numbers.proofs.Little.{past, back}
use Rattle.sheet.proofs.records.Walk.{whole}

-- a record that its fields can say
pub record Fits (r : Record) : Type 0 where
  pub kind : r.kind < 0x10000
  pub payload : length r.payload < 0x100000000

module _ (r : Record) (f : Fits r) (d : List ℕ) where
  abbrev n : ℕ
  n = length r.payload

  abbrev long : List ℕ
  long = in_bytes 4 n ++ (in_bytes 2 r.kind ++ (r.payload ++ d))

  flat : encoded r ++ d ≡ long
  flat = simp append_assoc

  length_is : length_in long ≡ n
  length_is = back 4 n (in_bytes 2 r.kind ++ (r.payload ++ d)) f.payload

  four : (x : ℕ) → length (in_bytes 4 x) ≡ 4
  unfolding in_bytes
  four x = refl

  kind_is : little 2 4 long ≡ r.kind
  kind_is =
      past 2 (in_bytes 4 n) (in_bytes 2 r.kind ++ (r.payload ++ d)) 4 (four n) ∙ back 2 r.kind (r.payload ++ d) f.kind

  six : drop 6 long ≡ r.payload ++ d
  unfolding in_bytes
  six = refl

  payload_is : take (length_in long) (drop 6 long) ≡ r.payload
  payload_is =
      ap (λ (z : ℕ). take z (drop 6 long)) length_is ∙ ap (take n) six ∙ take_at r.payload d n refl

  behind_is : behind long ≡ d
  behind_is =
      ap (λ (z : ℕ). drop (6 + z) long) length_is ∙ sym (drop-drop n 6 long) ∙ ap (drop n) six ∙ drop_at r.payload d n refl

  enough : 6 + length_in long ≤ length long
  unfolding in_bytes
  enough = omega (arith, length_is, length-append r.payload d)

  pub one : records_of (encoded r ++ d) ≡ more r (records_of d)
  one =
      ap records_of flat
      ∙ whole long enough
      ∙ ap (λ (z : ℕ). more (record { kind = z; payload = take (length_in long) (drop 6 long) }) (records_of (behind long))) kind_is
      ∙ ap (λ (z : List ℕ). more (record { kind = r.kind; payload = z }) (records_of (behind long))) payload_is
      ∙ ap (λ (z : List ℕ). more r (records_of z)) behind_is

-- records one after another
abbrev pub all_encoded : List Record → List ℕ
all_encoded [] = []
all_encoded (r ∷ rs) = encoded r ++ all_encoded rs

abbrev pub All-fit : List Record → Type 0
All-fit [] = Unit
All-fit (r ∷ rs) = Fits r × All-fit rs

abbrev pub before : List Record → Records → Records
before [] x = x
before (r ∷ rs) x = more r (before rs x)

pub many : (rs : List Record) → All-fit rs → (d : List ℕ) → records_of (all_encoded rs ++ d) ≡ before rs (records_of d)
many [] f d = refl
many (r ∷ rs) f d =
    ap records_of (append_assoc (encoded r) (all_encoded rs) d)
    ∙ one r f.0 (all_encoded rs ++ d)
    ∙ ap (more r) (many rs f.1 d)
