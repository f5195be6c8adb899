-- What follows for whoever opens a file: a level that is handed out lies in the bytes and is exactly the blocks of its size; levels are
-- found for exactly the numbers below those that are told; and no second outcome satisfies a promise.
-- Assumes nothing.
use mathlib.Core.Path.{◌≡◌, ◌∙◌, refl, sym, ap}
use mathlib.Core.Bool.{Bool, true, false, cond, not, ◌||◌, true≢false}
use mathlib.Core.List.{List, [], ◌∷◌}
use Prim.Native.Nat.{ℕ, zero, suc, ◌+◌, ◌-◌, ◌≤◌, ◌<◌}
use native.Mathlib.Omega.{arith}
use borrow.Author.Tests.{eqb-false}
use lib.Dec.{eqb, ltb}
use lib.ListN.{length, get_or}
use Rattle.rules.specs.Places.{sized}
use Rattle.rules.specs.Answers.{limit, too_large_lem}
use Rattle.rules.specs.FileLevels.{
  bytes_for_lem,
  fit_of_lem,
  level_at_lem,
  next_spot_lem,
  lesser,
  chosen,
  fits_then,
  levels_from,
  first_spot,
  no_level,
  levels_of,
  too_many_lem,
  larger,
  held_of,
  opened_by,
  found_by,
}
use Rattle.rules.specs.Files.{header_of, opened_as, found_as, opened_said, found_said, opened_verdict, OpensFile, found_verdict, FindsLevel}
use Rattle.std.specs.Prelude.{Result, Ok, Err}
use Rattle.std.specs.Result.{result_unwrap_or}
use Rattle.laws.proofs.Unique.{answer, refusal}
use Rattle.rules.specs.Answers.{Answer, refusal_said, accepts, given}
use Rattle.rules.specs.FileFormats.{format_at_lem, container_number, orientation_number, flag}
use Rattle.rules.specs.declared.Container.{Container}
use Rattle.rules.specs.declared.Container.TheVariants.{Pkm, Ktx1, Ktx2, Dds, Sheet}
use Rattle.rules.specs.declared.Format.{Format}
use Rattle.rules.specs.declared.Orientation.{Orientation}
use Rattle.rules.specs.declared.Orientation.TheVariants.{Untold, TopDown, BottomUp}
use Rattle.rules.specs.declared.Refusal.{Refusal}
use Rattle.rules.specs.declared.Refusal.TheVariants.{NoLevel}
use Rattle.rules.specs.declared.Layout.{Layout}
use Rattle.rules.specs.declared.Spot.{Spot}
use Rattle.rules.specs.declared.FileLevel.{FileLevel}
use Rattle.rules.specs.declared.FileFacts.{FileFacts}
use Rattle.sheet.proofs.Formats.{of_number}
use Rattle.file.proofs.Walk.{fits}

-- the walk of all levels, and what comes of a file or of a level
abbrev Held : Type 0
Held = Result (ℕ × FileLevel) Refusal

-- ---- a level lies in the bytes, and is exactly the blocks of its size

-- in a format
pub record Exact (f : Format) (d : List ℕ) (level : FileLevel) : Type 0 where
  pub within : level.start + level.length ≤ length d
  pub blocks : level.length ≡ bytes_for_lem f level.width level.height

one_exact : (l : Layout) (d : List ℕ) (k : ℕ) (s : Spot) (start : ℕ) → Ok start ≡ fit_of_lem l d k s
    → Exact l.format d (level_at_lem l s start)
unfolding level_at_lem fit_of_lem
one_exact l d k s start e = record { within = fits l.container l.big_endian d k s.at (bytes_for_lem l.format s.width s.height) start e; blocks = refl }

-- the level that is kept, where those before level k were kept already
kept : (l : Layout) (d : List ℕ) (n k : ℕ) (level other : FileLevel)
    → Exact l.format d level
    → (n < k → Exact l.format d other)
    → n < k + 1
    → Exact l.format d (chosen n k level other)
kept l d n k level other p q h = by (eqb n k) refl
  where
    by : (b : Bool) → eqb n k ≡ b → Exact l.format d (cond b level other)
    by true e = p
    by false e = q (let g = eqb-false n k e in omega (arith, g))

-- levels that fit: what follows for a result of the walk
Results : Layout → List ℕ → ℕ → ℕ → Held → Type 0
Results l d n upto r = (left : ℕ) (level : FileLevel) → r ≡ Ok (left, level) → n < upto → Exact l.format d level

by_fit :
    (l : Layout) (d : List ℕ) (n k upto : ℕ) (s : Spot) (f : Result ℕ Refusal) (then : ℕ → Held)
    → f ≡ fit_of_lem l d k s
    → ((start : ℕ) → Ok start ≡ fit_of_lem l d k s → Results l d n upto (then start))
    → Results l d n upto (fits_then f then)
unfolding Results
by_fit l d n k upto s (Ok start) then e g left level r h = g start e left level r h
by_fit l d n k upto s (Err a) then e g left level r h = absurd (let z : ◌≡◌ {A = ℕ} 0 1 = cc in omega arith)

walked :
    (l : Layout) (d : List ℕ) (n left : ℕ) (level : FileLevel) (k more : ℕ) (s : Spot)
    → (n < k → Exact l.format d level)
    → Results l d n (k + more) (levels_from l d n left level k more s)
unfolding levels_from Results
walked l d n left level k zero s p left' level' r h =
    let e : level ≡ level' = ap (λ (z : Held). (result_unwrap_or z (left, level)).1) r in
    rw e at (p (omega arith))
walked l d n left level k (suc more) s p left' level' r h =
    by_fit l d n k (k + suc more) s (fit_of_lem l d k s)
    (λ start.
    levels_from l d n
    (lesser left (length d - (start + bytes_for_lem l.format s.width s.height)))
    (chosen n k (level_at_lem l s start) level)
    (k + 1)
    more
    (next_spot_lem l s start))
    refl
    (λ start e left'' level'' r' h'.
    walked l d n
    (lesser left (length d - (start + bytes_for_lem l.format s.width s.height)))
    (chosen n k (level_at_lem l s start) level)
    (k + 1)
    more
    (next_spot_lem l s start)
    (λ g. kept l d n k (level_at_lem l s start) level (one_exact l d k s start e) p g)
    left''
    level''
    r'
    (omega arith))
    left'
    level'
    r
    h

-- a test that refuses was not met
not_refused : (b : Bool) (a : Refusal) (x : Held) (left : ℕ) (level : FileLevel) → cond b (Err a) x ≡ Ok (left, level)
    → x ≡ Ok (left, level)
not_refused true a x left level e = absurd (let z : ◌≡◌ {A = ℕ} 0 1 = cc in omega arith)
not_refused false a x left level e = e

all_held : (l : Layout) (d : List ℕ) (n left : ℕ) (level : FileLevel) → held_of l d n ≡ Ok (left, level)
    → levels_of l d n ≡ Ok (left, level)
unfolding held_of
all_held l d n left level e =
    not_refused (too_many_lem (larger l.width l.height) (l.levels - 1)) _ _ left level
    (not_refused (not l.agrees) _ _ left level
    (not_refused (too_large_lem limit (sized l.width l.height)) _ _ left level
    (not_refused (eqb l.width 0 || eqb l.height 0) _ _ left level e)))

pub exact : (l : Layout) (d : List ℕ) (n left : ℕ) (level : FileLevel) → held_of l d n ≡ Ok (left, level) → n < l.levels
    → Exact l.format d level
unfolding levels_of Results
exact l d n left level e h =
    walked l d n (length d) no_level 0 l.levels (first_spot l) (λ g. absurd (omega (arith, g))) left level (all_held l d n left level e)
    (omega arith)

-- ---- levels are found for exactly the numbers below those that are told

-- whether all levels fit does not depend on which is asked for
by_fit_alike :
    (l : Layout) (f : Result ℕ Refusal) (x y : ℕ → Held) → ((start : ℕ) → opened_by l (x start) ≡ opened_by l (y start))
    → opened_by l (fits_then f x) ≡ opened_by l (fits_then f y)
by_fit_alike l (Ok start) x y g = g start
by_fit_alike l (Err a) x y g = refl

walked_alike :
    (l : Layout) (d : List ℕ) (n m left : ℕ) (level other : FileLevel) (k more : ℕ) (s : Spot)
    → opened_by l (levels_from l d n left level k more s) ≡ opened_by l (levels_from l d m left other k more s)
unfolding levels_from opened_by
walked_alike l d n m left level other k zero s = refl
walked_alike l d n m left level other k (suc more) s =
    by_fit_alike l (fit_of_lem l d k s) _ _
    (λ start.
    walked_alike l d n m
    (lesser left (length d - (start + bytes_for_lem l.format s.width s.height)))
    (chosen n k (level_at_lem l s start) level)
    (chosen m k (level_at_lem l s start) other)
    (k + 1)
    more
    (next_spot_lem l s start))

behind : (l : Layout) (b : Bool) (a x y : Held) → opened_by l x ≡ opened_by l y → opened_by l (cond b a x) ≡ opened_by l (cond b a y)
behind l true a x y e = refl
behind l false a x y e = e

alike : (l : Layout) (d : List ℕ) (n m : ℕ) → opened_by l (held_of l d n) ≡ opened_by l (held_of l d m)
unfolding held_of levels_of
alike l d n m =
    behind l (eqb l.width 0 || eqb l.height 0) _ _ _
    (behind l (too_large_lem limit (sized l.width l.height)) _ _ _
    (behind l (not l.agrees) _ _ _
    (behind l (too_many_lem (larger l.width l.height) (l.levels - 1)) _ _ _
    (walked_alike l d n m (length d) no_level no_level 0 l.levels (first_spot l)))))

-- level n of a file that is opened: found where it has so many, exactly its blocks; and refused with 38 where it has not
pub record LevelOf (f : FileFacts) (d : List ℕ) (n : ℕ) (r : Result FileLevel Refusal) : Type 0 where
  pub level : FileLevel
  pub found : r ≡ cond (ltb n f.levels) (Ok level) (Err NoLevel)
  pub exact : n < f.levels → Exact f.format d level

-- what an opened file tells
told : {A : Type 0} → (FileFacts → A) → A → Result FileFacts Refusal → A
told field other (Ok f) = field f
told field other (Err a) = other

of_held :
    (l : Layout) (d : List ℕ) (n : ℕ) (f : FileFacts) (h : Held)
    → opened_by l h ≡ Ok f
    → ((left : ℕ) (level : FileLevel) → h ≡ Ok (left, level) → n < l.levels → Exact l.format d level)
    → LevelOf f d n (found_by l n h)
unfolding opened_by found_by told
of_held l d n f (Ok (left, level)) e g =
    let a : l.levels ≡ f.levels = ap (told (λ z. z.levels) 0) e in
    let b : l.format ≡ f.format = ap (told (λ z. z.format) f.format) e in
    record {
      level = level;
      found = rw a;
      exact = λ h. rw b at (g left level refl (omega arith));
    }
of_held l d n f (Err a) e g = absurd (let z : ◌≡◌ {A = ℕ} 0 1 = cc in omega arith)

pub opened_levels : (d : List ℕ) (n : ℕ) (h : Result Layout Refusal) (f : FileFacts) → opened_as d h ≡ Ok f → LevelOf f d n (found_as d n h)
unfolding opened_as found_as
opened_levels d n (Ok l) f e = of_held l d n f (held_of l d n) (alike l d n 0 ∙ e) (λ left level q g. exact l d n left level q g)
opened_levels d n (Err a) f e = absurd (let z : ◌≡◌ {A = ℕ} 0 1 = cc in omega arith)

-- a file that is refused has no level, for the same reason
refused_held : (l : Layout) (n : ℕ) (a : Refusal) (h : Held) → opened_by l h ≡ Err a → found_by l n h ≡ Err a
unfolding opened_by found_by
refused_held l n a (Ok (left, level)) e = absurd (let z : ◌≡◌ {A = ℕ} 0 1 = cc in omega arith)
refused_held l n a (Err b) e = (let q : b ≡ a = cc in ap (λ (z : Refusal). Err z) q)

pub refused_levels : (d : List ℕ) (n : ℕ) (h : Result Layout Refusal) (a : Refusal) → opened_as d h ≡ Err a
    → found_as d n h ≡ Err a
unfolding opened_as found_as
refused_levels d n (Ok l) a e = refused_held l n a (held_of l d n) (alike l d n 0 ∙ e)
refused_levels d n (Err b) a e = (let q : b ≡ a = cc in ap (λ (z : Refusal). Err z) q)

-- ---- no second outcome satisfies a promise

-- a refusal says what no file and no level does
apart : (l : List ℕ) (a : Refusal) → accepts l ≡ true → l ≡ refusal_said a → ⊥
apart l a h e = true≢false (sym h ∙ ap accepts e ∙ refusal a)

-- each kind is that of its number
container_at : ℕ → Container
container_at n = get_or (Pkm ∷ Pkm ∷ Ktx1 ∷ Ktx2 ∷ Dds ∷ Sheet ∷ []) n Pkm

orientation_at : ℕ → Orientation
orientation_at n = get_or (Untold ∷ TopDown ∷ BottomUp ∷ []) n Untold

container_back : (c : Container) → container_at (container_number c) ≡ c
unfolding container_at
container_back Pkm = refl
container_back Ktx1 = refl
container_back Ktx2 = refl
container_back Dds = refl
container_back Sheet = refl

orientation_back : (o : Orientation) → orientation_at (orientation_number o) ≡ o
unfolding orientation_at
orientation_back Untold = refl
orientation_back TopDown = refl
orientation_back BottomUp = refl

flag_back : (b : Bool) → eqb (flag b) 1 ≡ b
flag_back true = refl
flag_back false = refl

-- the facts that a list of numbers says
facts : List ℕ → FileFacts
facts l =
    record {
      container = container_at (get_or l 1 0);
      format = format_at_lem (get_or l 2 0);
      srgb = eqb (get_or l 3 0) 1;
      width = get_or l 4 0;
      height = get_or l 5 0;
      levels = get_or l 6 0;
      big_endian = eqb (get_or l 7 0) 1;
      orientation = orientation_at (get_or l 8 0);
      left_over = get_or l 9 0;
    }

facts_back : (f : FileFacts) → facts (opened_said (Ok f)) ≡ f
unfolding facts
facts_back f =
    rw (container_back f.container, of_number f.format, flag_back f.srgb, flag_back f.big_endian, orientation_back f.orientation) refl

said_once : (r q : Result FileFacts Refusal) → opened_said r ≡ opened_said q → r ≡ q
said_once (Ok f) (Ok g) e = ap (λ (z : FileFacts). Ok z) (sym (facts_back f) ∙ ap facts e ∙ facts_back g)
said_once (Ok f) (Err a) e = absurd (apart (opened_said (Ok f)) a refl e)
said_once (Err a) (Ok f) e = absurd (apart (opened_said (Ok f)) a refl (sym e))
said_once (Err a) (Err b) e = ap (λ (x : Answer). given x (facts [])) (answer (Err a) (Err b) e)

pub one_opening : (d : List ℕ) (r q : Result FileFacts Refusal) → OpensFile d r → OpensFile d q → r ≡ q
one_opening d r q a b = said_once r q (a ∙ sym b)

level_in : List ℕ → FileLevel
level_in l = record { width = get_or l 1 0; height = get_or l 2 0; start = get_or l 3 0; length = get_or l 4 0 }

found_once : (r q : Result FileLevel Refusal) → found_said r ≡ found_said q → r ≡ q
unfolding level_in
found_once (Ok k) (Ok m) e = ap (λ (l : List ℕ). Ok (level_in l)) e
found_once (Ok k) (Err a) e = absurd (apart (found_said (Ok k)) a refl e)
found_once (Err a) (Ok k) e = absurd (apart (found_said (Ok k)) a refl (sym e))
found_once (Err a) (Err b) e = ap (λ (x : Answer). given x (level_in [])) (answer (Err a) (Err b) e)

pub one-level : (d : List ℕ) (n : ℕ) (r q : Result FileLevel Refusal) → FindsLevel d n r → FindsLevel d n q → r ≡ q
one-level d n r q a b = found_once r q (a ∙ sym b)

-- what is promised, put together: a file that is opened has its levels, each exactly its blocks inside the bytes, and no others
pub opened_file : (d : List ℕ) (n : ℕ) (f : FileFacts) (r : Result FileLevel Refusal) → OpensFile d (Ok f) → FindsLevel d n r → LevelOf f d n r
unfolding opened_verdict found_verdict
opened_file d n f r a b =
    let e : opened_as d (header_of d) ≡ Ok f = said_once (opened_as d (header_of d)) (Ok f) (sym a) in
    let g : r ≡ found_as d n (header_of d) = found_once r (found_as d n (header_of d)) b in
    rw g (opened_levels d n (header_of d) f e)

pub refused_file : (d : List ℕ) (n : ℕ) (a : Refusal) (r : Result FileLevel Refusal) → OpensFile d (Err a) → FindsLevel d n r
    → r ≡ Err a
unfolding opened_verdict found_verdict
refused_file d n a r p b =
    let e : opened_as d (header_of d) ≡ Err a = said_once (opened_as d (header_of d)) (Err a) (sym p) in
    found_once r (found_as d n (header_of d)) b ∙ refused_levels d n (header_of d) a e
