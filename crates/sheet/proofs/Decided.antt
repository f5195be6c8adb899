-- Any bytes are a sheet without a fault, or the walk over them finds one.
-- Assumes nothing.
use mathlib.Core.Path.{◌≡◌, ◌∙◌, refl, sym, ap}
use mathlib.Core.Bool.{Bool, true, false, not, ◌&&◌, true≢false}
use mathlib.Core.List.{List, [], ◌∷◌}
use mathlib.Core.Logic.{◌⊎◌, inl, inr, ⊎_elim}
use Prim.Native.Nat.{ℕ}
use borrow.Author.Tests.{ltb-true, eqb-true}
use native.Mathlib.Omega.{arith}
use lib.Dec.{eqb, ltb}
use lib.ListN.{length}
use Rattle.rules.specs.Answers.{refusal, judged, too_large_lem}
use Rattle.rules.specs.declared.Head.{Head}
use Rattle.rules.specs.FileFormats.{format_number}
use Rattle.sheet.proofs.Formats.{numbered}
use Rattle.rules.specs.Records.{Record, Records, more, ended, short, records_of, first, later, kept}
use Rattle.checks.proofs.Checks.{within}
use Rattle.rules.specs.Sheets.{sheet_limit, block_bytes_lem, format_of, format_in, size_in, is_head, after_blocks_lem, after_head, walk_verdict, head_in, blocks_in}
use Rattle.sheet.specs.Shown.{walk, Passes, Halts, Sound, Shown}

-- behind the blocks
by_kind : (two : Bool) → Halts (λ then. judged (refusal 9 (not two) ∷ []) (10 ∷ []))
by_kind true = record { alike = λ then. refl; refused = refl }
by_kind false = record { alike = λ then. refl; refused = refl }

last : (rs : Records) → Passes (λ then. after_blocks_lem then rs) ⊎ Halts (λ then. after_blocks_lem then rs)
last (more r rs) = inr (by_kind (eqb r.kind 2))
last ended = inl (λ then. refl)
last short = inr (record { alike = λ then. refl; refused = refl })

-- behind the head, where the blocks are n bytes
record Followed (n : ℕ) (rs : Records) (verdict : List ℕ → List ℕ) : Type 0 where
  passes : Passes verdict
  exact : length (first rs).payload ≡ n

abbrev by_two : Bool → Bool → Records → List ℕ → List ℕ
by_two two exact rs then = judged (refusal 9 (not two) ∷ refusal 10 (not exact) ∷ []) (after_blocks_lem then rs)

follow_by : (n : ℕ) (r : Record) (rs : Records) (two exact : Bool) → eqb (length r.payload) n ≡ exact → Followed n (more r rs) (by_two two exact rs) ⊎ Halts (by_two two exact rs)
follow_by n r rs false exact e = inr (record { alike = λ then. refl; refused = refl })
follow_by n r rs true false e = inr (record { alike = λ then. refl; refused = refl })
follow_by n r rs true true e =
    ⊎_elim (λ p. inl (record { passes = p; exact = eqb-true (length r.payload) n e })) (λ h. inr h) (last rs)

follow : (n : ℕ) (rs : Records) → Followed n rs (λ then. after_head n then rs) ⊎ Halts (λ then. after_head n then rs)
follow n (more r rs) = follow_by n r rs (eqb r.kind 2) (eqb (length r.payload) n) refl
follow n ended = inr (record { alike = λ then. refl; refused = refl })
follow n short = inr (record { alike = λ then. refl; refused = refl })

-- the whole walk
third : (a b c : Bool) → (a && (b && c)) ≡ true → c ≡ true
third true true c e = e
third true false c e = absurd (true≢false (sym e))
third false b c e = absurd (true≢false (sym e))

-- the head that a record says
abbrev pub head_from : Record → Head
head_from r = record { format = format_of (format_in r); width = (size_in r).width; height = (size_in r).height }

number_in : (r : Record) → is_head r ≡ true → format_number (format_of (format_in r)) ≡ format_in r
number_in r e = numbered (format_in r) (ltb-true (format_in r) 8 (third (eqb r.kind 1) (eqb (length r.payload) 9) (ltb (format_in r) 8) e))

sound_head : (r : Record) → is_head r ≡ true → too_large_lem sheet_limit (size_in r) ≡ false → Sound (head_from r)
sound_head r e f =
    let o = number_in r e in
    let t = third (eqb r.kind 1) (eqb (length r.payload) 9) (ltb (format_in r) 8) e in
    let n = within sheet_limit (size_in r) f in
    record { known = omega (arith, o, ltb-true (format_in r) 8 t); narrow = n.0; low = n.1 }

record Whole (rs : Records) (verdict : List ℕ → List ℕ) : Type 0 where
  passes : Passes verdict
  number : format_number (format_of (format_in (first rs))) ≡ format_in (first rs)
  sound : Sound (head_from (first rs))
  exact : length (first (kept (later rs))).payload ≡ block_bytes_lem (format_in (first rs)) (size_in (first rs))

abbrev by : Bool → Bool → Record → Records → List ℕ → List ℕ
by head large r rs then =
    judged (refusal 8 (not head) ∷ refusal 1 large ∷ []) (after_head (block_bytes_lem (format_in r) (size_in r)) then (kept rs))

walk_by : (r : Record) (rs : Records) (head large : Bool) → is_head r ≡ head → too_large_lem sheet_limit (size_in r) ≡ large → Whole (more r rs) (by head large r rs) ⊎ Halts (by head large r rs)
walk_by r rs false large e f = inr (record { alike = λ then. refl; refused = refl })
walk_by r rs true true e f = inr (record { alike = λ then. refl; refused = refl })
walk_by r rs true false e f =
    ⊎_elim (λ p. inl (record { passes = p.passes; number = number_in r e; sound = sound_head r e f; exact = p.exact })) (λ h. inr h)
    (follow (block_bytes_lem (format_in r) (size_in r)) (kept rs))

walked : (rs : Records) → Whole rs (λ then. walk_verdict then rs) ⊎ Halts (λ then. walk_verdict then rs)
walked (more r rs) = walk_by r rs (is_head r) (too_large_lem sheet_limit (size_in r)) refl refl
walked ended = inr (record { alike = λ then. refl; refused = refl })
walked short = inr (record { alike = λ then. refl; refused = refl })

pub decided : (d : List ℕ) → Shown d (head_from (head_in d)) (blocks_in d) ⊎ Halts (walk d)
decided d =
    ⊎_elim
    (λ w.
    inl
    (record {
      passes = w.passes;
      begins = record { format = sym w.number; size = refl; sound = w.sound };
      blocks = refl;
      exact = w.exact ∙ ap (λ (n : ℕ). block_bytes_lem n (size_in (head_in d))) (sym w.number);
    }))
    (λ h. inr h)
    (walked (records_of d))
