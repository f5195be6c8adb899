-- Where the cuts fall does not matter: the claims of reading in pieces (M-105), over the promises of starting, of a piece and of ending.
-- Assumes nothing.
use mathlib.Core.Path.{◌≡◌, ◌∙◌, refl, sym, ap, subst}
use mathlib.Core.Bool.{Bool, true, false, cond, ◌&&◌}
use mathlib.Core.List.{List, [], ◌∷◌, ◌++◌, append-nil, append_assoc}
use Prim.Native.Nat.{ℕ, suc, ◌+◌, ◌*◌, ◌/◌, ◌%◌, ◌<◌, ◌≤◌, min}
use native.Mathlib.Omega.{arith}
use native.Mathlib.Nat.{zero-div, zero-mod, mod-lt, mul-div_cancel, le-div_iff_mul-le, div-lt_iff_lt-mul, mul-le-mul_right, suc-mul}
use native.Mathlib.Decide.{dec_lt}
use borrow.Author.Tests.{lt-ltb, le-ltb, le-leb}
use lib.Dec.{T, leb, ltb}
use lib.ListN.{length, get_or, length-append, length-take}
use Rattle.rules.specs.Places.{inside, blocks, block_at, pixel_at, painted}
use Rattle.rules.specs.Answers.{said, accepts, refusal, judged, verdict, limit_check, pitch_check}
use Rattle.rules.specs.Formats.{size_of, shows_of}
use Rattle.rules.specs.Readers.{picture_of, picture_verdict, ReadsPicture}
use Rattle.rules.specs.Pieces.{whole, got, finished, held, completed, behind_last, after, image_after, padded, in_run, fresh}
use Rattle.rules.specs.Pieces.{start_checks, piece_verdict, end_checks, Starts, Takes, Ends}
use Rattle.rules.specs.Pieces.{used, wholes, state_of, so_far, joined, Course, nothing, followed}
use Rattle.rules.specs.Answers.{Answer}
use Rattle.std.specs.Prelude.{Ok, Err}
use Rattle.rules.specs.declared.Format.{Format}
use Rattle.rules.specs.declared.Picture.{Picture}
use Rattle.rules.specs.declared.Progress.{Progress}
use Rattle.rules.specs.declared.Started.{Started}
use Rattle.rules.specs.declared.Taken.{Taken}
use Rattle.laws.proofs.Filled.{build_same}
use Rattle.laws.proofs.Judged.{passed}
use Rattle.laws.proofs.Paint.{none, get_d_painted}
use Rattle.laws.proofs.Reach.{some_bytes, few_bytes}
use Rattle.laws.proofs.Unique.{answer}
use Rattle.checks.proofs.Checks.{passed as picture-passed}
use Rattle.blocks.proofs.Blocks.{block_in}
use Rattle.blocks.proofs.Runs.{taken, left, run_painted, tested, tests}
use Rattle.claims.proofs.Arrived.{padded_same}
use Rattle.claims.proofs.Step.{Stepped, step}

-- ---- no second outcome

pub start_determined : (f : Format) (pic : Picture) (n : ℕ) (r t : Started) → Starts f pic n r → Starts f pic n t → r ≡ t
start_determined f pic n r t a b =
    ap (λ (x : Answer). make x r.progress) (answer r.answer t.answer (a.says ∙ sym b.says))
    ∙ ap (make t.answer) (a.state ∙ sym b.state)
  where
    make : Answer → Progress → Started
    make x y = record { answer = x; progress = y }

pub piece_determined : (p : Progress) (e image : List ℕ) (r t : Taken) (new new' : List ℕ) → Takes p e image r new → Takes p e image t new' → (r ≡ t) × (new ≡ new')
piece_determined p e image r t new new' a b = (
  ap (λ (x : Answer). make x r.progress r.painted r.unused) (answer r.answer t.answer (a.says ∙ sym b.says))
      ∙ ap (λ (x : Progress). make t.answer x r.painted r.unused) (a.state ∙ sym b.state)
      ∙ ap (λ (x : ℕ). make t.answer t.progress x r.unused) (a.painted ∙ sym b.painted)
      ∙ ap (make t.answer t.progress t.painted) (a.unused ∙ sym b.unused),
  a.leaves ∙ sym b.leaves,
)
  where
    make : Answer → Progress → ℕ → ℕ → Taken
    make x y z u = record { answer = x; progress = y; painted = z; unused = u }

pub end_determined : (p : Progress) (a b : Answer) → Ends p a → Ends p b → a ≡ b
end_determined p a b e f = answer a b (e ∙ sym f)

-- ---- a state, whatever it is

-- "keeps at most 15 bytes between pieces"
pub at_most_15_are_kept : (p : Progress) → length (held p) ≤ 15
at_most_15_are_kept p =
    simp length-take (omega (arith, mod-lt (got p) (some_bytes p.format), few_bytes p.format))

-- all bytes are taken exactly when all blocks are painted
all_taken : (p : Progress) → ltb p.taken (whole p) ≡ ltb (finished p) (blocks p.picture)
all_taken p =
    elim (dec_lt p.taken (whole p)) [
      | yes q ↦
          let x : finished p < blocks p.picture = (div-lt_iff_lt-mul (some_bytes p.format)).1 (omega (arith, q)) in
          lt-ltb p.taken (whole p) q ∙ sym (lt-ltb (finished p) (blocks p.picture) x)
      | no q ↦
          let x : blocks p.picture ≤ finished p = (le-div_iff_mul-le (some_bytes p.format)).1 (omega (arith, q)) in
          le-ltb p.taken (whole p) (omega (arith, q)) ∙ sym (le-ltb (finished p) (blocks p.picture) x)
    ]

-- "Ending answers 0 when all blocks are painted, else 2", of a picture that starting does not refuse
pub ending_answers_by_the_painted_blocks : (p : Progress) → (limit_check p.picture).fails ≡ false → (pitch_check p.picture).fails ≡ false
    → verdict (end_checks p) ≡ cond {A = List ℕ} (ltb (finished p) (blocks p.picture)) (2 ∷ []) (0 ∷ [])
ending_answers_by_the_painted_blocks p a b =
    ap (λ (t : Bool). judged (refusal 1 t ∷ pitch_check p.picture ∷ refusal 2 (ltb p.taken (whole p)) ∷ []) (0 ∷ [])) a
    ∙ ap (λ (t : Bool). judged (refusal 12 t ∷ refusal 2 (ltb p.taken (whole p)) ∷ []) (0 ∷ [])) b
    ∙ ap (λ (t : Bool). cond {A = List ℕ} t (2 ∷ []) (0 ∷ [])) (all_taken p)

-- "and nothing is taken or changed"
pub a_refused_piece_changes_nothing : (p : Progress) (e image : List ℕ) (r : Taken) (new : List ℕ)
    → Takes p e image r new → accepts (said r.answer) ≡ false → (r.progress ≡ p) × (r.painted ≡ 0) × (r.unused ≡ length e) × (new ≡ image)
a_refused_piece_changes_nothing p e image r new t y =
    let no : accepts (piece_verdict p image) ≡ false = sym (ap accepts t.says) ∙ y in (
      t.state ∙ ap (λ (b : Bool). cond b (after p e) p) no,
      t.painted ∙ ap (λ (b : Bool). cond b (completed p e) 0) no,
      t.unused ∙ ap (λ (b : Bool). cond b (behind_last p e) (length e)) no,
      t.leaves ∙ ap (λ (b : Bool). cond b (image_after p e image) image) no,
    )

-- ---- where a course begins

module _ (f : Format) (pic : Picture) where
  make : ℕ → List ℕ → Progress
  make t k = record { format = f; picture = pic; taken = t; kept = k }

  none_used : used f pic [] ≡ 0
  none_used = omega arith

  no_wholes : wholes f pic [] ≡ 0
  no_wholes = ap (λ (x : ℕ). x / size_of f) none_used ∙ zero-div (size_of f)

  -- a fresh state has read no bytes
  pub a_fresh_state_has_read_nothing : fresh f pic ≡ state_of f pic []
  unfolding make
  a_fresh_state_has_read_nothing =
      sym (ap (λ (x : ℕ). make x (padded [] (x / size_of f * size_of f) (x % size_of f))) none_used
      ∙ ap (λ (x : ℕ). make 0 (padded [] (0 / size_of f * size_of f) x)) (zero-mod (size_of f))
      ∙ ap (make 0) (padded_same [] [] (0 / size_of f * size_of f) 0 0 (λ i h. absurd (omega arith))))

  -- and nothing is painted
  pub nothing_is_painted_yet : (image : List ℕ) → image ≡ so_far f pic [] image
  nothing_is_painted_yet image =
      run_painted pic 0 0 (pixel_at (shows_of f) (size_of f) pic []) image image (none _ _ image (λ k z. omega (arith, z.to)))
      ∙ ap (λ (x : ℕ). painted (in_run pic 0 x) (pixel_at (shows_of f) (size_of f) pic []) image) (sym no_wholes)

-- ---- a course

-- What there is when some pieces have come after d, and from the start: so many blocks were painted and so many bytes not used.
pub record Coursed (f : Format) (pic : Picture) (d image more : List ℕ) (q : Progress) (new : List ℕ) (n u : ℕ) : Type 0 where
  pub state : q ≡ state_of f pic (d ++ more)
  pub leaves : new ≡ so_far f pic (d ++ more) image
  pub painted : wholes f pic d + n ≡ wholes f pic (d ++ more)
  pub unused : used f pic (d ++ more) + u ≡ used f pic d + length more

pub record Read (f : Format) (pic : Picture) (d image : List ℕ) (q : Progress) (new : List ℕ) (n u : ℕ) : Type 0 where
  pub state : q ≡ state_of f pic d
  pub leaves : new ≡ so_far f pic d image
  pub painted : n ≡ wholes f pic d
  pub unused : used f pic d + u ≡ length d

module _ (f : Format) (pic : Picture) (image : List ℕ) where
  pub coursed : {p q : Progress} {im new : List ℕ} {es : List (List ℕ)} {n u : ℕ} (d : List ℕ)
      → p ≡ state_of f pic d → im ≡ so_far f pic d image → Course p im es q new n u → Coursed f pic d image (joined es) q new n u
  coursed d a b nothing =
      let e : d ≡ d ++ [] = sym (append-nil d) in
      record {
        state = a ∙ ap (state_of f pic) e;
        leaves = b ∙ ap (λ (l : List ℕ). so_far f pic l image) e;
        painted = let z : wholes f pic d ≡ wholes f pic (d ++ []) = ap (wholes f pic) e in omega arith;
        unused = let z : used f pic d ≡ used f pic (d ++ []) = ap (used f pic) e in omega arith;
      }
  coursed {p} {im = im} d a b (followed {mid = mid} {e = e} {es = es} {n = n} {u = u} r t y c) =
      let t' : Takes (state_of f pic d) e (so_far f pic d image) r mid =
      subst (λ (l : List ℕ). Takes (state_of f pic d) e l r mid) b (subst (λ (x : Progress). Takes x e im r mid) a t) in
      let s : Stepped f pic d e image r mid = step f pic d e image mid r t' y in
      let z = coursed (d ++ e) s.state s.leaves c in
      let k : d ++ e ++ joined es ≡ d ++ (e ++ joined es) = append_assoc d e (joined es) in
      let w : wholes f pic (d ++ e ++ joined es) ≡ wholes f pic (d ++ (e ++ joined es)) = ap (wholes f pic) k in
      let v : used f pic (d ++ e ++ joined es) ≡ used f pic (d ++ (e ++ joined es)) = ap (used f pic) k in
      record {
        state = z.state ∙ ap (state_of f pic) k;
        leaves = z.leaves ∙ ap (λ (l : List ℕ). so_far f pic l image) k;
        painted = omega (arith, s.painted, z.painted, w);
        unused = omega (arith, s.unused, z.unused, v, length-append e (joined es));
      }

  -- from the start: state, image and counts are those of all bytes that have come, in whatever pieces
  pub from_the_start : (es : List (List ℕ)) (q : Progress) (new : List ℕ) (n u : ℕ) → Course (fresh f pic) image es q new n u → Read f pic (joined es) image q new n u
  from_the_start es q new n u c =
      let z = coursed [] (a_fresh_state_has_read_nothing f pic) (nothing_is_painted_yet f pic image) c in
      record {
        state = z.state;
        leaves = z.leaves;
        painted = omega (arith, z.painted, no_wholes f pic);
        unused = omega (arith, z.unused, none_used f pic);
      }

  -- "the picture, the final answer and the total painted don't depend on where the cuts fall", nor does the total unused
  pub cuts_do_not_matter : (es es' : List (List ℕ)) (q q' : Progress) (new new' : List ℕ) (n n' u u' : ℕ) → joined es ≡ joined es'
      → Course (fresh f pic) image es q new n u
      → Course (fresh f pic) image es' q' new' n' u'
      → (new ≡ new') × ((a a' : Answer) → Ends q a → Ends q' a' → a ≡ a') × (n ≡ n') × (u ≡ u')
  cuts_do_not_matter es es' q q' new new' n n' u u' e c c' =
      let a = from_the_start es q new n u c in
      let b = from_the_start es' q' new' n' u' c' in
      let s : q ≡ q' = a.state ∙ ap (state_of f pic) e ∙ sym b.state in
      let v : used f pic (joined es) ≡ used f pic (joined es') = ap (used f pic) e in
      let l : length (joined es) ≡ length (joined es') = ap length e in (
        a.leaves ∙ ap (λ (l : List ℕ). so_far f pic l image) e ∙ sym b.leaves,
        λ x y i j. end_determined q' x y (subst (λ (p : Progress). Ends p x) s i) j,
        a.painted ∙ ap (wholes f pic) e ∙ sym b.painted,
        omega (arith, a.unused, b.unused, v, l),
      )

-- ---- what has been painted, and what not

module _ (f : Format) (pic : Picture) (d : List ℕ) where
  -- "exactly as many blocks as the kept and new bytes complete, up to the last block"
  pub how_many_blocks : wholes f pic d ≡ min (length d / size_of f) (blocks pic)
  how_many_blocks =
      elim (dec_lt (length d) (blocks pic * size_of f)) [
        | yes q ↦
            let u : used f pic d ≡ length d = omega (arith, q) in
            let x : length d / size_of f < blocks pic = (div-lt_iff_lt-mul (some_bytes f)).1 q in
            ap (λ (z : ℕ). z / size_of f) u ∙ omega arith
        | no q ↦
            let u : used f pic d ≡ blocks pic * size_of f = omega (arith, q) in
            let x : blocks pic ≤ length d / size_of f = (le-div_iff_mul-le (some_bytes f)).1 (omega (arith, q)) in
            ap (λ (z : ℕ). z / size_of f) u ∙ mul-div_cancel (blocks pic) (some_bytes f) ∙ omega arith
      ]

  -- block n is among the painted ones exactly when all its bytes have come
  when_whole : (n : ℕ) → n < blocks pic → n * size_of f + size_of f ≤ length d → n < wholes f pic d
  when_whole n h k =
      let a : suc n * size_of f ≤ blocks pic * size_of f = mul-le-mul_right (size_of f) h in
      (le-div_iff_mul-le (some_bytes f)).1 (omega (arith, a, suc-mul n (size_of f)))

  not-before : (n : ℕ) → n < wholes f pic d → n * size_of f + size_of f ≤ length d
  not-before n h =
      let a : suc n * size_of f ≤ used f pic d = (le-div_iff_mul-le (some_bytes f)).0 h in
      omega (arith, a, suc-mul n (size_of f))

  module _ (image : List ℕ) (k : ℕ) (h : k < length image) where
    -- "paints each block as soon as it is whole"
    pub painted_as_soon_as_whole : T (inside pic k) → block_at pic k * size_of f + size_of f ≤ length d → get_or (so_far f pic d image) k 0 ≡ pixel_at (shows_of f) (size_of f) pic d k
    painted_as_soon_as_whole i e =
        get_d_painted (in_run pic 0 (wholes f pic d)) (pixel_at (shows_of f) (size_of f) pic d) image k h
        ∙ taken (in_run pic 0 (wholes f pic d) k) _ _ (tests pic 0 (wholes f pic d) k (record { within = i; from = omega arith; to = when_whole (block_at pic k) (block_in pic k i) e }))

    -- and not before, nor is any other element changed
    pub untouched_until_whole : (T (inside pic k) → length d < block_at pic k * size_of f + size_of f) → get_or (so_far f pic d image) k 0 ≡ get_or image k 0
    untouched_until_whole e =
        get_d_painted (in_run pic 0 (wholes f pic d)) (pixel_at (shows_of f) (size_of f) pic d) image k h
        ∙ left (in_run pic 0 (wholes f pic d) k) _ _
        (λ t.
        let r = tested pic 0 (wholes f pic d) k t in
        omega (arith, e r.within, not-before (block_at pic k) r.to))

-- ---- the plain reader

-- painting by another test that says the same
painted_test : (t u : ℕ → Bool) (v : ℕ → ℕ) (old : List ℕ) → ((k : ℕ) → t k ≡ u k) → painted t v old ≡ painted u v old
unfolding painted
painted_test t u v old e =
    build_same 0 (λ k. cond (t k) (v k) (get_or old k 0)) (λ k. cond (u k) (v k) (get_or old k 0)) (length old)
    (λ k h. ap (λ (b : Bool). cond b (v k) (get_or old k 0)) (e k))

absorbed : (i r : Bool) → (T i → r ≡ true) → (i && r) ≡ i
absorbed true r e = e tt
absorbed false r e = refl

module _ (f : Format) (pic : Picture) (d : List ℕ) where
  all_wholes : blocks pic * size_of f ≤ length d → wholes f pic d ≡ blocks pic
  all_wholes h =
      let u : used f pic d ≡ blocks pic * size_of f = omega arith in
      ap (λ (z : ℕ). z / size_of f) u ∙ mul-div_cancel (blocks pic) (some_bytes f)

  -- once all bytes are there, the picture is painted
  pub all_is_painted : blocks pic * size_of f ≤ length d → (image : List ℕ) → so_far f pic d image ≡ picture_of f pic d image
  all_is_painted h image =
      painted_test (in_run pic 0 (wholes f pic d)) (inside pic) (pixel_at (shows_of f) (size_of f) pic d) image
      (λ k.
      ap (λ (z : ℕ). in_run pic 0 z k) (all_wholes h)
      ∙ absorbed (inside pic k) (leb 0 (block_at pic k) && ltb (block_at pic k) (blocks pic))
      (λ i. ap (λ (t : Bool). t && ltb (block_at pic k) (blocks pic)) (le-leb 0 (block_at pic k) (omega arith)) ∙ lt-ltb (block_at pic k) (blocks pic) (block_in pic k i)))

  -- where starting is not refused, the final answer is that of the plain reader of all bytes
  pub the_plain_answer : (image : List ℕ) → verdict (start_checks pic (length image)) ≡ 0 ∷ [] → verdict (end_checks (state_of f pic d)) ≡ picture_verdict f pic d image
  the_plain_answer image h =
      let n = length d in
      let W = blocks pic * size_of f in
      let k = passed (start_checks pic (length image)) (0 ∷ []) tt (ap accepts h) in
      let e : ltb (min n W) W ≡ ltb n W =
      elim (dec_lt n W) [
        | yes q ↦ lt-ltb (min n W) W (omega (arith, q)) ∙ sym (lt-ltb n W q)
        | no q ↦ le-ltb (min n W) W (omega (arith, q)) ∙ sym (le-ltb n W (omega (arith, q)))
      ] in
      ap (λ (t : Bool). judged (limit_check pic ∷ pitch_check pic ∷ refusal 2 t ∷ []) (0 ∷ [])) e
      ∙ sym (ap (λ (t : Bool). judged (limit_check pic ∷ pitch_check pic ∷ refusal 2 (ltb n W) ∷ refusal 3 t ∷ []) (0 ∷ [])) k.rest.rest.first)

module _ (f : Format) (pic : Picture) (image : List ℕ) (es : List (List ℕ)) (q : Progress) (new : List ℕ) (n u : ℕ) (c : Course (fresh f pic) image es q new n u) where
  -- so it is the plain reader's of a course, whose picture is the plain reader's where that is done
  pub the_final_answer_is_the_plain_one : (a b : Answer) (other : List ℕ) → verdict (start_checks pic (length image)) ≡ 0 ∷ [] → Ends q a → ReadsPicture f (joined es) pic image b other → a ≡ b
  the_final_answer_is_the_plain_one a b other h e r =
      let s = from_the_start f pic image es q new n u c in
      answer a b
      (e
      ∙ ap (λ (p : Progress). verdict (end_checks p)) s.state
      ∙ the_plain_answer f pic (joined es) image h
      ∙ sym r.says)

  module _ (other : List ℕ) (r : ReadsPicture f (joined es) pic image (Ok tt) other) where
    enough : blocks pic * size_of f ≤ length (joined es)
    enough = (picture-passed (size_of f) pic (length (joined es)) (length image) (0 ∷ []) (ap accepts (sym r.says))).enough

    pub the_picture_is_the_plain_one : new ≡ other
    the_picture_is_the_plain_one =
        (from_the_start f pic image es q new n u c).leaves
        ∙ all_is_painted f pic (joined es) enough image
        ∙ sym (r.leaves ∙ ap (λ (z : List ℕ). cond (accepts z) (picture_of f pic (joined es) image) image) (sym r.says))

    -- and the painted counts add up to the blocks
    pub the_counts_add_up : n ≡ blocks pic
    the_counts_add_up = (from_the_start f pic image es q new n u c).painted ∙ all_wholes f pic (joined es) enough

-- a whole picture in one piece is what the plain reader shows
pub in_one_piece : (f : Format) (pic : Picture) (d image : List ℕ) (r : Taken) (new other : List ℕ)
    → Takes (fresh f pic) d image r new → accepts (said r.answer) ≡ true → ReadsPicture f d pic image (Ok tt) other → new ≡ other
in_one_piece f pic d image r new other t y p =
    the_picture_is_the_plain_one f pic image (d ∷ []) r.progress new (r.painted + 0) (r.unused + 0) (followed r t y nothing) other
    (subst (λ (l : List ℕ). ReadsPicture f l pic image (Ok tt) other) (sym (append-nil d)) p)
