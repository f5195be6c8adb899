-- M-100, over the promises of the two censuses: each count is its own definition's, together they make the number of blocks, and no
-- second answer is allowed; what is not counted; that a block is counted as the kind by which it is read; and what the counts say of
-- the strict ETC1 reader.
-- Assumes nothing.
use mathlib.Core.Path.{◌≡◌, ◌∙◌, refl, sym, ap}
use mathlib.Core.Bool.{Bool, true, false, cond, not, ◌&&◌, ◌||◌}
use mathlib.Core.List.{List, [], ◌∷◌, ◌++◌}
use Prim.Native.Nat.{ℕ, ◌+◌, ◌*◌, ◌<◌, ◌≤◌}
use native.Mathlib.Omega.{arith}
use native.Mathlib.Decide.{dec_lt}
use lib.Dec.{eqb, ltb}
use lib.ListN.{length, get_or, drop}
use Rattle.std.specs.Prelude.{Result, Ok}
use Rattle.laws.proofs.Unique.{one_result}
use Rattle.rules.specs.Notation.{byte}
use Rattle.rules.specs.Places.{sized, blocks, bytes_of, Alike}
use Rattle.rules.specs.Answers.{said, accepts, limit, too_large_lem, verdict, first_of, guarded}
use Rattle.rules.specs.Colour.{differs, sum, beyond, by_beyond, kind_by_sums_lem, kind_of, out_of_range_lem}
use Rattle.rules.specs.Formats.{size_of}
use Rattle.rules.specs.Readers.{strict_checks, ReadsStrict}
use Rattle.rules.specs.Census.{Test, more, count_of, counted, counts, t_block, h_block, planar_block_lem, rgb_tests, rgba1_tests}
use Rattle.rules.specs.Census.{census_checks, census, rgb_values, rgb_said, rgba1_values, rgba1_said, CountsRgb, CountsRgba1}
use Rattle.rules.specs.Answers.{Answer}
use Rattle.rules.specs.declared.Picture.{Picture}
use Rattle.rules.specs.declared.Kind.{Kind}
use Rattle.rules.specs.declared.Kind.TheVariants.{Individual, Differential, T, H, Planar}
use Rattle.rules.specs.declared.RgbCounts.{RgbCounts}
use Rattle.rules.specs.declared.KindCounts.{KindCounts}
use Rattle.rules.specs.declared.Rgba1Counts.{Rgba1Counts}
use Rattle.rules.specs.declared.Refusal.{Refusal}
use Rattle.laws.specs.Sorted.{met, holding, total, eight}
use Rattle.laws.proofs.Counts.{same_below, first_then_counted, counted_then_first, joined, adds_up, only_one}
use Rattle.laws.proofs.Guards.{finds, finds_none}
use Rattle.laws.proofs.Judged.{all_pass, passed, goes_on}
use Rattle.laws.proofs.Sorted.{sorts}
use Rattle.checks.proofs.Checks.{neither}
use Rattle.claims.proofs.Alike.{enough_either, behind}
use Rattle.claims.proofs.Strict.{bad}

-- the counts of four kinds together
abbrev pub together : KindCounts → ℕ
together c = c.differential + c.t + c.h + c.planar

module _ (d : List ℕ) (p : Picture) where
  -- what says 0 with some values has passed both checks, and they are the counts
  counted_of : (tests : List Test) (l : List ℕ) → 0 ∷ l ≡ census tests d p → l ≡ counts (bytes_of 8 d) (blocks p) tests
  counted_of tests l e =
      let checks = census_checks p (length d) in
      let then : List ℕ = 0 ∷ counts (bytes_of 8 d) (blocks p) tests in
      ap (drop 1) (e ∙ all_pass checks then (passed checks then tt (sym (ap accepts e))))

  -- "Each count has its own definition, none is got by subtraction"
  pub each_rgb_count : (c : RgbCounts) → CountsRgb d p (Ok c) → rgb_values c ≡ counts (bytes_of 8 d) (blocks p) rgb_tests
  each_rgb_count c e = counted_of rgb_tests (rgb_values c) e

  pub each_rgba1_count : (c : Rgba1Counts) → CountsRgba1 d p (Ok c) → rgba1_values c ≡ counts (bytes_of 8 d) (blocks p) rgba1_tests
  each_rgba1_count c e = counted_of rgba1_tests (rgba1_values c) e

  -- "and together they make the number of blocks": of each list of tests, a block meets exactly one
  exact : (split : Bool) (b : List ℕ) → holding (met (eight split) b) ≡ 1
  exact split b = only_one (met (eight split) b) _ (sorts split b (differs b) _ refl refl)

  pub rgb_counts_add_up : (c : RgbCounts) → CountsRgb d p (Ok c) → c.individual + c.differential + c.t + c.h + c.planar ≡ blocks p
  rgb_counts_add_up c e =
      omega (arith, ap total (each_rgb_count c e), adds_up (bytes_of 8 d) rgb_tests (λ k. exact false (bytes_of 8 d k)) (blocks p))

  pub rgba1_counts_add_up : (c : Rgba1Counts) → CountsRgba1 d p (Ok c) → together c.opaque + together c.clear ≡ blocks p
  rgba1_counts_add_up c e =
      omega (arith, ap total (each_rgba1_count c e), adds_up (bytes_of 8 d) rgba1_tests (λ k. exact true (bytes_of 8 d k)) (blocks p))

-- no second answer: what is said has one answer that says it
rgb_of : List ℕ → RgbCounts
rgb_of l = record { individual = get_or l 0 0; differential = get_or l 1 0; t = get_or l 2 0; h = get_or l 3 0; planar = get_or l 4 0 }

rgba1_of : List ℕ → Rgba1Counts
rgba1_of l =
    record {
      opaque = record { differential = get_or l 0 0; t = get_or l 1 0; h = get_or l 2 0; planar = get_or l 3 0 };
      clear = record { differential = get_or l 4 0; t = get_or l 5 0; h = get_or l 6 0; planar = get_or l 7 0 };
    }

pub rgb_census_determined : (d : List ℕ) (p : Picture) (a b : Result RgbCounts Refusal) → CountsRgb d p a → CountsRgb d p b → a ≡ b
unfolding rgb_of
rgb_census_determined d p a b e f = one_result rgb_values rgb_of (λ c. refl) a b (e ∙ sym f)

pub rgba1_census_determined : (d : List ℕ) (p : Picture) (a b : Result Rgba1Counts Refusal) → CountsRgba1 d p a → CountsRgba1 d p b → a ≡ b
unfolding rgba1_of
rgba1_census_determined d p a b e f = one_result rgba1_values rgba1_of (λ c. refl) a b (e ∙ sym f)

-- a block is counted as the kind by which it is read
abbrev pub marks : Kind → List Bool
marks Individual = true ∷ false ∷ false ∷ false ∷ false ∷ []
marks Differential = false ∷ true ∷ false ∷ false ∷ false ∷ []
marks T = false ∷ false ∷ true ∷ false ∷ false ∷ []
marks H = false ∷ false ∷ false ∷ true ∷ false ∷ []
marks Planar = false ∷ false ∷ false ∷ false ∷ true ∷ []

-- the tests of RGB by the kind of a block, and those of RGBA1 by the kind that its sums give it: over its bit and its three sums
abbrev four : Bool → Bool → Bool → Bool → List Bool
four o r g b = (o && (not r && (not g && not b))) ∷ (o && r) ∷ (o && (not r && g)) ∷ (o && (not r && (not g && b))) ∷ []

by_kind : (o r g b : Bool) → not o ∷ four o r g b ≡ marks (cond o (by_beyond r g b) Individual)
by_kind false r g b = refl
by_kind true true g b = refl
by_kind true false true b = refl
by_kind true false false true = refl
by_kind true false false false = refl

pub counted_as_it_is_read : (b : List ℕ) → met rgb_tests b ≡ marks (kind_of b)
unfolding kind_by_sums_lem
counted_as_it_is_read b = by_kind (differs b) (beyond (sum (byte b 0))) (beyond (sum (byte b 1))) (beyond (sum (byte b 2)))

-- the marks of the four kinds of RGBA1, with the opaque bit set or clear
abbrev pub split : Bool → List Bool → List Bool
split opaque l =
    let nothing = false ∷ false ∷ false ∷ false ∷ [] in
    cond opaque (drop 1 l ++ nothing) (nothing ++ drop 1 l)

by_sums : (o r g b : Bool) → four o r g b ++ four (not o) r g b ≡ split o (marks (by_beyond r g b))
by_sums true true g b = refl
by_sums true false true b = refl
by_sums true false false true = refl
by_sums true false false false = refl
by_sums false true g b = refl
by_sums false false true b = refl
by_sums false false false true = refl
by_sums false false false false = refl

pub counted_as_rgba1_reads_it : (b : List ℕ) → met rgba1_tests b ≡ split (differs b) (marks (kind_by_sums_lem b))
unfolding kind_by_sums_lem
counted_as_rgba1_reads_it b = by_sums (differs b) (beyond (sum (byte b 0))) (beyond (sum (byte b 1))) (beyond (sum (byte b 2)))

-- inputs that agree on the blocks of the picture have one census
same_counts : (f g : ℕ → List ℕ) (n : ℕ) → ((k : ℕ) → k < n → f k ≡ g k) → (tests : List Test) → counts f n tests ≡ counts g n tests
same_counts f g n h [] = refl
same_counts f g n h (test ∷ tests) =
    rw (same_below (λ k. test (f k)) (λ k. test (g k)) n (λ k l. ap test (h k l)), same_counts f g n h tests)

pub only_blocks_are_counted : (tests : List Test) (d e : List ℕ) (p : Picture) → Alike 8 p d e → census tests d p ≡ census tests e p
only_blocks_are_counted tests d e p same =
    rw (enough_either 8 p d e same (omega arith), same_counts (bytes_of 8 d) (bytes_of 8 e) (blocks p) same tests)

-- so bytes behind the last block are not counted
pub leftover_bytes_are_not_counted : (tests : List Test) (d rest : List ℕ) (p : Picture) → blocks p * 8 ≤ length d → census tests (d ++ rest) p ≡ census tests d p
leftover_bytes_are_not_counted tests d rest p enough = sym (only_blocks_are_counted tests d (d ++ rest) p (behind 8 p d rest enough))

-- the blocks that an ETC1 reader must not read are those of kind T, H and planar
three : (o r g b : Bool) → holding (drop 1 (four o r g b)) ≡ more (o && (r || (g || b))) 0
three false r g b = refl
three true true g b = refl
three true false true b = refl
three true false false true = refl
three true false false false = refl

either : (b : List ℕ) → holding (met (t_block ∷ h_block ∷ planar_block_lem ∷ []) b) ≡ more (out_of_range_lem b) 0
unfolding out_of_range_lem
either b = three (differs b) (beyond (sum (byte b 0))) (beyond (sum (byte b 1))) (beyond (sum (byte b 2)))

pub out_of_range_counts : (block : ℕ → List ℕ) (n : ℕ) → counted block n t_block + counted block n h_block + counted block n planar_block_lem ≡ counted block n out_of_range_lem
out_of_range_counts block n =
    omega (arith, joined block (t_block ∷ h_block ∷ planar_block_lem ∷ []) out_of_range_lem (λ k. either (block k)) n)

-- the T, H and planar counts are all 0
abbrev pub AllZero : RgbCounts → Type 0
AllZero c = (c.t ≡ 0) × (c.h ≡ 0) × (c.planar ≡ 0)

-- "the census takes no pitch" (M-104): whatever a picture's pitch is, its census is that of its width and height
pub the_census_takes_no_pitch : (tests : List Test) (d : List ℕ) (p : Picture) → census tests d p ≡ census tests d (sized p.width p.height)
the_census_takes_no_pitch tests d p = refl

-- "Where its checks 1 to 3 pass, strict ETC1 answers 4 exactly when the T, H and planar counts are not all 0", which M-104 has
-- "include that check 12 passes", and M-107 "an exact data length"
module _ (d : List ℕ) (p : Picture) (old : List ℕ) (ok : 0 ∷ [] ≡ verdict (strict_checks p d old)) where
  -- there the census counts
  pub the_census_counts_there : (r : Result RgbCounts Refusal) → CountsRgb d p r → accepts (rgb_said r) ≡ true
  the_census_counts_there r q =
      let k = passed (strict_checks p d old) (0 ∷ []) tt (sym (ap accepts ok)) in
      let sides = (neither (too_large_lem limit p) (ltb limit p.pitch) k.first).0 in
      ap accepts (q ∙ all_pass (census_checks p (length d)) _ (record { first = sides; rest = record { first = k.rest.rest.first; rest = record {} } }))

  module _ (a : Answer) (new : List ℕ) (reads : ReadsStrict d p old a new) (c : RgbCounts) (q : CountsRgb d p (Ok c)) where
    abbrev n : ℕ
    n = blocks p

    -- what the reader says is its fourth check, and the three counts are those of the blocks that it must not read
    left : said a ≡ guarded 4 (bad d) n
    unfolding size_of
    left = reads.says ∙ goes_on (strict_checks p d old) (guarded 4 (bad d) n) tt ok

    three_counts : c.t + c.h + c.planar ≡ count_of (bad d) n
    three_counts =
        let e = each_rgb_count d p c q in
        omega (
          arith,
          ap (λ (l : List ℕ). get_or l 2 0) e,
          ap (λ (l : List ℕ). get_or l 3 0) e,
          ap (λ (l : List ℕ). get_or l 4 0) e,
          out_of_range_counts (bytes_of 8 d) n,
        )

    pub strict_answers_4_only_then : get_or (said a) 0 0 ≡ 4 → AllZero c → ⊥
    strict_answers_4_only_then e z =
        elim (dec_lt (first_of (bad d) n) n) [
          | yes h ↦ omega (arith, three_counts, first_then_counted (bad d) n h, z.0, z.1, z.2)
          | no h ↦ omega (arith, e, ap (λ (l : List ℕ). get_or l 0 0) (left ∙ finds_none 4 (bad d) n (omega (arith, h))))
        ]

    pub strict_answers_4_then : (AllZero c → ⊥) → get_or (said a) 0 0 ≡ 4
    strict_answers_4_then z =
        elim (dec_lt 0 (c.t + c.h + c.planar)) [
          | yes h ↦
              ap (λ (l : List ℕ). get_or l 0 0)
              (left ∙ finds 4 (bad d) n (counted_then_first (bad d) n (omega (arith, three_counts, h))))
          | no h ↦ absurd (z (omega (arith, h), omega (arith, h), omega (arith, h)))
        ]
