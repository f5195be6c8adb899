-- A picture read in bands is the picture (M-113): cut anywhere between rows of blocks, over any list of cuts, and over the promise that
-- every picture reader makes and each band's reader keeps. And of readers that look at every block first: the first bad block of all is the
-- first of the first band that has one.
-- Assumes nothing.
use mathlib.Core.Path.{◌≡◌, ◌∙◌, refl, sym, ap}
use mathlib.Core.Bool.{true, cond}
use mathlib.Core.List.{List, [], ◌∷◌, ◌++◌}
use mathlib.Core.Logic.{inl, inr}
use Prim.Native.Nat.{ℕ, zero, suc, ◌+◌, ◌-◌, ◌*◌, ◌<◌, ◌≤◌, min}
use native.Mathlib.Omega.{arith}
use native.Mathlib.Nat.{suc-mul, add-mul, zero-mul, mul-le-mul_right}
use native.Mathlib.Decide.{dec_lt}
use borrow.Author.Tests.{le-ltb}
use lib.Dec.{T, ltb}
use lib.ListN.{length, get_or, take, drop, length-take, length-drop}
use Rattle.rules.specs.Places.{needed, blocks, across}
use Rattle.rules.specs.Answers.{said, accepts, Check, limit, verdict, picture_checks}
use Rattle.rules.specs.Formats.{size_of, shows_of}
use Rattle.rules.specs.Guards.{Guard, bad_at, in_range, opaque_only}
use Rattle.rules.specs.Readers.{picture_of, ReadsPicture, ReadsGuarded, ReadsStrict, ReadsOpaque, strict_checks, opaque_checks}
use Rattle.rules.specs.Answers.{Answer}
use Rattle.std.specs.Prelude.{Ok, Err}
use Rattle.rules.specs.declared.Format.{Format}
use Rattle.rules.specs.declared.Picture.{Picture}
use Rattle.laws.proofs.Guards.{Sound, finds_none, strict_sound, opaque_sound}
use Rattle.laws.proofs.Judged.{numbered, all_pass, goes_on}
use Rattle.laws.proofs.Unique.{answer}
use Rattle.pixel.proofs.place.Grid.{some_needed, none_needed}
use Rattle.checks.specs.Passed.{Passed}
use Rattle.checks.proofs.Checks.{passed, passed_by_lem, passed_exactly}
use Rattle.picture.proofs.Guard.{agree}
use Rattle.bands.specs.Bands.{bytes_in, elements_in, top, below, InBands, uncut, cut, first_in_bands}
use Rattle.bands.proofs.Bands.{cut_is_whole, blocks_cut, few, all_before, first_in_bands_lem}
use Rattle.claims.proofs.Outcomes.{an_acceptance_paints}

-- ---- a band of a picture that passes the checks passes them

-- what a picture needs is so much at most, where that holds if it has a pixel
at_most : (pic : Picture) (m : ℕ) → (0 < pic.width → 0 < pic.height → (pic.height - 1) * pic.pitch + pic.width ≤ m) → needed pic ≤ m
at_most pic m f =
    elim (dec_lt 0 pic.width) [
      | yes a ↦
          elim (dec_lt 0 pic.height) [
            | yes b ↦ omega (arith, f a b, some_needed pic a b)
            | no b ↦ omega (arith, none_needed pic (inr (omega (arith, b))))
          ]
      | no a ↦ omega (arith, none_needed pic (inl (omega (arith, a))))
    ]

module _ (s : ℕ) (p : Picture) (n : ℕ) (d image : List ℕ) (k : Passed s p (length d) (length image)) where
  -- a band of n rows of blocks needs no more elements than they take, nor than the picture needs
  roomy_top : needed (top p n) ≤ length (take (elements_in p n) image)
  roomy_top =
      at_most (top p n) (length (take (elements_in p n) image))
      (λ a b.
      let h = min (n * 4) p.height in
      let x : suc (h - 1) * p.pitch ≤ n * 4 * p.pitch = mul-le-mul_right p.pitch (omega arith) in
      let y : (h - 1) * p.pitch ≤ (p.height - 1) * p.pitch = mul-le-mul_right p.pitch (omega arith) in
      omega (arith, k.fits, k.roomy, suc-mul (h - 1) p.pitch, length-take (elements_in p n) image, some_needed p a (omega arith)))

  -- and what is below them needs so many less
  roomy_below : needed (below p n) ≤ length (drop (elements_in p n) image)
  roomy_below =
      at_most (below p n) (length (drop (elements_in p n) image))
      (λ a b.
      let h = p.height - n * 4 in
      let x : n * 4 + (h - 1) ≡ p.height - 1 = omega arith in
      let y : (p.height - 1) * p.pitch ≡ n * 4 * p.pitch + (h - 1) * p.pitch = ap (λ (z : ℕ). z * p.pitch) (sym x) ∙ add-mul (n * 4) (h - 1) p.pitch in
      omega (arith, k.roomy, length-drop (elements_in p n) image, some_needed p a (omega arith)))

  -- likewise of bytes
  enough_top : blocks (top p n) * s ≤ length (take (bytes_in s p n) d)
  enough_top =
      let x : blocks (top p n) * s ≤ bytes_in s p n = mul-le-mul_right s (few p n) in
      let y : blocks (top p n) * s ≤ blocks p * s = mul-le-mul_right s (omega (arith, blocks_cut p n)) in
      omega (arith, k.enough, length-take (bytes_in s p n) d)

  enough_below : blocks (below p n) * s ≤ length (drop (bytes_in s p n) d)
  enough_below =
      elim (dec_lt 0 (blocks (below p n))) [
        | yes q ↦
            let x : blocks p * s ≡ bytes_in s p n + blocks (below p n) * s =
            ap (λ (z : ℕ). z * s) (blocks_cut p n ∙ ap (λ (z : ℕ). z + blocks (below p n)) (all_before p n q)) ∙ add-mul (n * across p.width) (blocks (below p n)) s in
            omega (arith, k.enough, length-drop (bytes_in s p n) d)
        | no q ↦
            let x : blocks (below p n) * s ≡ 0 = ap (λ (z : ℕ). z * s) (omega (arith, q)) ∙ zero-mul s in
            omega arith
      ]

  pub top_passes : Passed s (top p n) (length (take (bytes_in s p n) d)) (length (take (elements_in p n) image))
  top_passes = record { narrow = k.narrow; low = omega (arith, k.low); close = k.close; fits = k.fits; enough = enough_top; roomy = roomy_top }

  pub below_passes : Passed s (below p n) (length (drop (bytes_in s p n) d)) (length (drop (elements_in p n) image))
  below_passes = record { narrow = k.narrow; low = omega (arith, k.low); close = k.close; fits = k.fits; enough = enough_below; roomy = roomy_below }

-- so every check of it passes
all_right : (s : ℕ) (p : Picture) (bytes elements : ℕ) → Passed s p bytes elements → verdict (picture_checks s p bytes elements) ≡ 0 ∷ []
all_right s p bytes elements k =
    all_pass (picture_checks s p bytes elements) (0 ∷ [])
    (record {
      first = rw (le-ltb limit p.width k.narrow, le-ltb limit p.height k.low) (le-ltb limit p.pitch k.close);
      rest =
          record {
            first = le-ltb p.pitch p.width k.fits;
            rest =
                record {
                  first = le-ltb bytes (blocks p * s) k.enough;
                  rest = record { first = le-ltb elements (needed p) k.roomy; rest = record {} };
                };
          };
    })

-- ---- the picture

module _ (f : Format) where
  -- a picture that passes is accepted and painted
  read : (d : List ℕ) (p : Picture) (image new : List ℕ) (a : Answer) → Passed (size_of f) p (length d) (length image) → ReadsPicture f d p image a new → (a ≡ (Ok tt)) × (new ≡ picture_of f p d image)
  read d p image new a k r =
      let e : said a ≡ 0 ∷ [] = r.says ∙ all_right (size_of f) p (length d) (length image) k in
      (answer a (Ok tt) e, an_acceptance_paints _ _ image new a r (ap accepts e))

  -- one answer more
  more_done : (a : Answer) (answers : List Answer) → a ≡ (Ok tt) → ((k : ℕ) → get_or answers k (Ok tt) ≡ (Ok tt)) → (k : ℕ) → get_or (a ∷ answers) k (Ok tt) ≡ (Ok tt)
  more_done a answers e h zero = e
  more_done a answers e h (suc k) = h k

  -- each band is accepted, and together they are the picture
  pub bands_of_what_passes : {cuts d image new : List ℕ} {p : Picture} {answers : List Answer} → Passed (size_of f) p (length d) (length image)
      → InBands f cuts d p image answers new
      → ((k : ℕ) → get_or answers k (Ok tt) ≡ (Ok tt)) × (new ≡ picture_of f p d image)
  bands_of_what_passes {d = d} {image = image} {new = new} {p = p} k (uncut {a = a} r) =
      let o = read d p image new a k r in
      (more_done a [] o.0 (λ i. refl), o.1)
  bands_of_what_passes {d = d} {image = image} {p = p} k (cut {n = n} {new = new} {more = more} {a = a} {answers = answers} r b) =
      let o = read (take (bytes_in (size_of f) p n) d) (top p n) (take (elements_in p n) image) new a (top_passes (size_of f) p n d image k) r in
      let q = bands_of_what_passes (below_passes (size_of f) p n d image k) b in (
        more_done a answers o.0 q.0,
        ap (λ (l : List ℕ). l ++ more) o.1
            ∙ ap (λ (l : List ℕ). picture_of f (top p n) (take (bytes_in (size_of f) p n) d) (take (elements_in p n) image) ++ l) q.1
            ∙ sym (cut_is_whole p n (shows_of f) (size_of f) d image k.fits),
      )

  module _ (d : List ℕ) (p : Picture) (image whole : List ℕ) (a : Answer) (r : ReadsPicture f d p image a whole) (ok : accepts (said a) ≡ true) where
    -- "a picture read in bands, cut anywhere between block rows, is the picture": where the plain reader accepts, each band is accepted, and
    -- the parts of the image together are what the plain reader leaves
    pub a_picture_in_bands_is_the_picture : (cuts new : List ℕ) (answers : List Answer) → InBands f cuts d p image answers new → ((k : ℕ) → get_or answers k (Ok tt) ≡ (Ok tt)) × (new ≡ whole)
    a_picture_in_bands_is_the_picture cuts new answers b =
        let o = bands_of_what_passes (passed_by_lem (size_of f) p (length d) (length image) (0 ∷ []) a r.says ok) b in
        (o.0, o.1 ∙ sym (an_acceptance_paints _ _ image whole a r ok))

    -- so where it is cut does not matter
    pub where_it_is_cut_does_not_matter : (cuts cuts' new new' : List ℕ) (answers answers' : List Answer) → InBands f cuts d p image answers new → InBands f cuts' d p image answers' new' → new ≡ new'
    where_it_is_cut_does_not_matter cuts cuts' new new' answers answers' b c =
        (a_picture_in_bands_is_the_picture cuts new answers b).1 ∙ sym (a_picture_in_bands_is_the_picture cuts' new' answers' c).1

-- ---- readers that look at every block first

module _ (g : Guard) (sound : Sound g) (checks : List Check) (numbers : T (numbered checks)) (ok : 0 ∷ [] ≡ verdict checks)
    (d : List ℕ) (p : Picture) (image whole : List ℕ) (a : Answer) (r : ReadsGuarded g checks d p image a whole) (cuts : List ℕ) where
  -- the first block of the first band that has one, the blocks before that band added; or as many as there are blocks
  abbrev pub found : ℕ
  found = first_in_bands g.bad (size_of g.own) cuts p d

  -- where the checks pass, that block is what the reader names
  pub names_the_first_of_the_first_band : said a ≡ cond (ltb found (blocks p)) (g.number ∷ found ∷ []) (0 ∷ [])
  names_the_first_of_the_first_band =
      r.says
      ∙ goes_on checks _ numbers ok
      ∙ ap (λ (i : ℕ). cond (ltb i (blocks p)) (g.number ∷ i ∷ []) (0 ∷ [])) (sym (first_in_bands_lem g.bad (size_of g.own) cuts p d))

  -- and where no band has one it accepts, and the bands, painted by its own rule, are its picture
  pub bands_without_one_are_the_picture : blocks p ≤ found → Passed (size_of g.own) p (length d) (length image)
      → (new : List ℕ) (answers : List Answer)
      → InBands g.own cuts d p image answers new → (a ≡ (Ok tt)) × (new ≡ whole)
  bands_without_one_are_the_picture none k new answers b =
      let e = first_in_bands_lem g.bad (size_of g.own) cuts p d in
      let said-0 : said a ≡ 0 ∷ [] = r.says ∙ goes_on checks _ numbers ok ∙ finds_none g.number (bad_at g d) (blocks p) (omega (arith, e, none)) in (
        answer a (Ok tt) said-0,
        (bands_of_what_passes g.own k b).1
            ∙ agree g sound p d image (omega (arith, e, none))
            ∙ sym (an_acceptance_paints _ _ image whole a r (ap accepts said-0)),
      )

-- of strict ETC1 and of the opaque-only viewer
module _ (d : List ℕ) (p : Picture) (image whole : List ℕ) (a : Answer) (cuts new : List ℕ) (answers : List Answer) where
  module _ (r : ReadsStrict d p image a whole) (ok : 0 ∷ [] ≡ verdict (strict_checks p d image)) where
    pub strict_names_the_first_of_the_first_band : let i = first_in_bands in_range.bad 8 cuts p d in said a ≡ cond (ltb i (blocks p)) (4 ∷ i ∷ []) (0 ∷ [])
    unfolding size_of
    strict_names_the_first_of_the_first_band =
        names_the_first_of_the_first_band in_range strict_sound (strict_checks p d image) tt ok d p image whole a r cuts

    pub strict_in_bands : blocks p ≤ first_in_bands in_range.bad 8 cuts p d → InBands in_range.own cuts d p image answers new → (a ≡ (Ok tt)) × (new ≡ whole)
    unfolding size_of
    strict_in_bands none =
        bands_without_one_are_the_picture in_range strict_sound (strict_checks p d image) tt ok d p image whole a r cuts none
        (passed_exactly 8 p (length d) (length image) (0 ∷ []) (sym (ap accepts ok))) new answers

  module _ (r : ReadsOpaque d p image a whole) (ok : 0 ∷ [] ≡ verdict (opaque_checks p d image)) where
    pub opaque_names_the_first_of_the_first_band : let i = first_in_bands opaque_only.bad 8 cuts p d in said a ≡ cond (ltb i (blocks p)) (11 ∷ i ∷ []) (0 ∷ [])
    unfolding size_of
    opaque_names_the_first_of_the_first_band =
        names_the_first_of_the_first_band opaque_only opaque_sound (opaque_checks p d image) tt ok d p image whole a r cuts

    pub opaque_in_bands : blocks p ≤ first_in_bands opaque_only.bad 8 cuts p d → InBands opaque_only.own cuts d p image answers new → (a ≡ (Ok tt)) × (new ≡ whole)
    unfolding size_of
    opaque_in_bands none =
        bands_without_one_are_the_picture opaque_only opaque_sound (opaque_checks p d image) tt ok d p image whole a r cuts none
        (passed 8 p (length d) (length image) (0 ∷ []) (sym (ap accepts ok))) new answers
