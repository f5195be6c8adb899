-- A skipped record that is put in at any border after the first record changes nothing: neither what the head's reader tells nor the
-- reader's answer nor its picture.
-- Assumes nothing.
use mathlib.Core.Path.{◌≡◌, ◌∙◌, sym, ap}
use mathlib.Core.Bool.{Bool, true, cond}
use mathlib.Core.List.{List, [], ◌∷◌, ◌++◌}
use Prim.Native.Nat.{ℕ, ◌≤◌}
use borrow.Author.Tests.{le-leb}
use lib.ListN.{length}
use Rattle.rules.specs.Answers.{left}
use Rattle.rules.specs.Readers.{picture_of}
use Rattle.rules.specs.Answers.{Answer}
use Rattle.rules.specs.declared.Head.{Head}
use Rattle.rules.specs.declared.Refusal.{Refusal}
use Rattle.std.specs.Prelude.{Result}
use Rattle.rules.specs.Records.{Record, encoded, Records, more, records_of, first, later, is_skipped, kept}
use Rattle.rules.specs.Sheets.{format_of, format_in, size_in, from_head, walk_verdict, head_in, blocks_in, head_verdict, read_verdict, sheet_picture, TellsHead, ReadsSheet}
use Rattle.sheet.specs.Shown.{walk}
use Rattle.sheet.proofs.Shown.{head_said, room_said}
use Rattle.claims.proofs.Encoded.{Fits, one, all_encoded, All-fit, before, many}

-- a skipped record leaves what is kept of the records around it
passed : (rs : List Record) (s : Record) (x : Records) → is_skipped s ≡ true → kept (before rs (more s x)) ≡ kept (before rs x)
unfolding kept
passed [] s x e = ap (λ (b : Bool). cond b (kept x) (more s (kept x))) e
passed (r ∷ rs) s x e = ap (λ (z : Records). cond (is_skipped r) z (more r z)) (passed rs s x e)

-- bytes that begin with the same record and keep the same records behind it
pub record SameKept (d e : List ℕ) : Type 0 where
  pub head : Record
  pub rest : Records
  pub rest' : Records
  pub meets : records_of d ≡ more head rest
  pub meets' : records_of e ≡ more head rest'
  pub same : kept rest ≡ kept rest'

module _ (d e : List ℕ) (a : SameKept d e) where
  head_is : head_in d ≡ head_in e
  head_is = ap first a.meets ∙ sym (ap first a.meets')

  blocks_are : blocks_in d ≡ blocks_in e
  blocks_are =
      ap (λ (z : Records). (first (kept (later z))).payload) a.meets
      ∙ ap (λ (z : Records). (first z).payload) a.same
      ∙ sym (ap (λ (z : Records). (first (kept (later z))).payload) a.meets')

  walks : (then : List ℕ) → walk d then ≡ walk e then
  walks then =
      ap (walk_verdict then) a.meets ∙ ap (from_head a.head then) a.same ∙ sym (ap (walk_verdict then) a.meets')

  pub tells_alike : (sheet : Result Head Refusal) → TellsHead d sheet → TellsHead e sheet
  unfolding head_verdict
  tells_alike sheet p =
      p
      ∙ walks (head_said d)
      ∙ ap (λ (r : Record). walk e (0 ∷ format_in r ∷ (size_in r).width ∷ (size_in r).height ∷ [])) head_is

  reads : (n : ℕ) → read_verdict d n ≡ read_verdict e n
  unfolding read_verdict
  reads n =
      walks (room_said n (size_in (head_in d))) ∙ ap (λ (r : Record). walk e (room_said n (size_in r))) head_is

  picture : (image : List ℕ) → sheet_picture d image ≡ sheet_picture e image
  picture image =
      ap (λ (r : Record). picture_of (format_of (format_in r)) (size_in r) (blocks_in d) image) head_is
      ∙ ap (λ (b : List ℕ). picture_of (format_of (format_in (head_in e))) (size_in (head_in e)) b image) blocks_are

  pub reads_alike : (image new : List ℕ) (answer : Answer) → ReadsSheet d image answer new → ReadsSheet e image answer new
  reads_alike image new answer p =
      record {
        says = p.says ∙ reads (length image);
        leaves =
            p.leaves
            ∙ ap (λ (v : List ℕ). left v (sheet_picture d image) image) (reads (length image))
            ∙ ap (λ (l : List ℕ). left (read_verdict e (length image)) l image) (picture image);
      }

-- "Kinds from 8000 hex on may stand anywhere after the first and are skipped": after any first records, at least one, and before
-- any bytes
pub inserted : (r : Record) (rs : List Record) (s : Record) (d : List ℕ)
    → All-fit (r ∷ rs)
    → Fits s
    → 0x8000 ≤ s.kind
    → SameKept (all_encoded (r ∷ rs) ++ d) (all_encoded (r ∷ rs) ++ (encoded s ++ d))
inserted r rs s d f g h =
    record {
      head = r;
      rest = before rs (records_of d);
      rest' = before rs (more s (records_of d));
      meets = many (r ∷ rs) f d;
      meets' = many (r ∷ rs) f (encoded s ++ d) ∙ ap (before (r ∷ rs)) (one s g d);
      same = sym (passed rs s (records_of d) (le-leb 0x8000 s.kind h));
    }
