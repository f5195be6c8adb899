-- No second outcome satisfies what a caller from C is told: the number, the image and the strict reader's block are all fixed.
-- Each exported promise of a reader is `Told` of an `Outcome`, whatever the verdict and the picture, so two lemmas serve them all; both
-- checks without an image have one, a sheet's head and writer one each, and so have the checker and the baker of blocks.
-- Assumes nothing.
use mathlib.Core.Path.{◌≡◌, ◌∙◌, sym, ap}
use mathlib.Core.List.{List}
use Prim.Native.Nat.{ℕ}
use lib.ListN.{get_or}
use Rattle.rules.specs.Answers.{said, Outcome}
use Rattle.rules.specs.Sheets as sheets
use Rattle.rules.specs.Checking.{Checks}
use Rattle.rules.specs.Baking.{Bakes}
use Rattle.rules.specs.Answers.{Answer}
use Rattle.rules.specs.declared.Picture.{Picture}
use Rattle.rules.specs.declared.Head.{Head}
use Rattle.rules.specs.declared.Refusal.{Refusal}
use Rattle.laws.proofs.Unique.{no_second_outcome}
use Rattle.sheet.proofs.Unique.{one_head, one_written}
use Rattle.std.specs.Prelude.{Result}
use Rattle.std.specs.Result.{result_unwrap_or}
use Rattle.rules.specs.FileFormats.{format_number}
use Rattle.rules.specs.Answers.{answered}
use Rattle.capi.specs.pictures.Told.{Told, answer_number, block_or_lem}
use Rattle.capi.specs.Told.{head_or, HeadTold, WriterTold, BakingTold}

module _ (verdict after old : List ℕ) where
  module _ (a b : Answer) (new new' : List ℕ) (p : Outcome verdict after a old new) (q : Outcome verdict after b old new') where
    -- two answers that meet one promise are one
    one : a ≡ b
    one = (no_second_outcome verdict after old a b new new' p q).0

    -- and so are their numbers and images
    both : (r r' : ℕ) → r ≡ answer_number a → r' ≡ answer_number b → (r ≡ r') × (new ≡ new')
    both r r' e f = (e ∙ ap answer_number one ∙ sym f, (no_second_outcome verdict after old a b new new' p q).1)

  pub told : (r r' : ℕ) (new new' : List ℕ) → Told (λ a. Outcome verdict after a old new) r → Told (λ a. Outcome verdict after a old new') r' → (r ≡ r') × (new ≡ new')
  told r r' new new' p q = both p.answer q.answer new new' p.reads q.reads r r' p.says q.says

  pub strict : (stood r r' block block' : ℕ) (new new' : List ℕ)
      → Told (λ a. Outcome verdict after a old new × (block ≡ block_or_lem a stood)) r
      → Told (λ a. Outcome verdict after a old new' × (block' ≡ block_or_lem a stood)) r'
      → (r ≡ r') × (new ≡ new') × (block ≡ block')
  strict stood r r' block block' new new' p q =
      let o = p.reads in
      let u = q.reads in
      let same = both p.answer q.answer new new' o.0 u.0 r r' p.says q.says in
      let e = one p.answer q.answer new new' o.0 u.0 in
      (same.0, same.1, o.1 ∙ ap (λ (a : Answer). block_or_lem a stood) e ∙ sym u.1)

-- a check without an image
pub check : (verdict : List ℕ) (stood r r' block block' : ℕ)
    → Told (λ a. (said a ≡ verdict) × (block ≡ block_or_lem a stood)) r
    → Told (λ a. (said a ≡ verdict) × (block' ≡ block_or_lem a stood)) r'
    → (r ≡ r') × (block ≡ block')
check verdict stood r r' block block' p q =
    let e : said p.answer ≡ said q.answer = p.reads.0 ∙ sym q.reads.0 in
    (p.says ∙ ap (λ (l : List ℕ). get_or l 0 0) e ∙ sym q.says, p.reads.1 ∙ ap (λ (l : List ℕ). get_or l 1 stood) e ∙ sym q.reads.1)

-- the head of a sheet, and the writer
pub sheet_head_lem : (d : List ℕ) (f w h n f₁ w₁ h₁ m f₂ w₂ h₂ : ℕ) → HeadTold d f w h n f₁ w₁ h₁ → HeadTold d f w h m f₂ w₂ h₂ → (n ≡ m) × (f₁ ≡ f₂) × (w₁ ≡ w₂) × (h₁ ≡ h₂)
sheet_head_lem d f w h n f₁ w₁ h₁ m f₂ w₂ h₂ p q =
    let e = one_head d p.sheet q.sheet p.tells q.tells in (
      p.says ∙ ap (λ (s : Result Head Refusal). get_or (sheets.told s) 0 0) e ∙ sym q.says,
      p.the_format ∙ ap (λ (s : Result Head Refusal). head_or (λ k. format_number k.format) s f) e ∙ sym q.the_format,
      p.the_width ∙ ap (λ (s : Result Head Refusal). head_or (λ k. k.width) s w) e ∙ sym q.the_width,
      p.the_height ∙ ap (λ (s : Result Head Refusal). head_or (λ k. k.height) s h) e ∙ sym q.the_height,
    )

pub writer : (f : ℕ) (p : Picture) (b out : List ℕ) (stood n m k l : ℕ) (new new' : List ℕ)
    → WriterTold f p b out stood n new k
    → WriterTold f p b out stood m new' l
    → (n ≡ m) × (new ≡ new') × (k ≡ l)
writer f p b out stood n m k l new new' x y =
    let e = one_written f p b out x.written y.written new new' x.writes y.writes in (
      x.says ∙ ap (λ (r : Result ℕ Refusal). answer_number (answered r)) e.0 ∙ sym y.says,
      e.1,
      x.the_bytes ∙ ap (λ (r : Result ℕ Refusal). result_unwrap_or r stood) e.0 ∙ sym y.the_bytes,
    )

-- the checker and the baker: what an answer says is what its number is
first : (l m : List ℕ) (n k : ℕ) → l ≡ m → n ≡ get_or l 0 0 → k ≡ get_or m 0 0 → n ≡ k
first l m n k e p q = p ∙ ap (λ (z : List ℕ). get_or z 0 0) e ∙ sym q

pub checker : (tolerance : ℕ) (d t : List ℕ) (n k : ℕ) → BakingTold (Checks tolerance d t) n → BakingTold (Checks tolerance d t) k → n ≡ k
checker tolerance d t n k p q = first _ _ n k (p.promised ∙ sym q.promised) p.says q.says

pub baker : (a b : List ℕ) (flip : ℕ) (t old new new' : List ℕ) (n k : ℕ)
    → BakingTold (λ r. Bakes a b flip t r old new) n
    → BakingTold (λ r. Bakes a b flip t r old new') k
    → (n ≡ k) × (new ≡ new')
baker a b flip t old new new' n k p q =
    (first _ _ n k (p.promised.says ∙ sym q.promised.says) p.says q.says, p.promised.leaves ∙ sym q.promised.leaves)
