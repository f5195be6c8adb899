-- What an older reader may show: for each pair of an older and a newer rule, the exact set of blocks in which the older one can show a
-- wrong pixel, and the smallest block in which it does.
-- Assumes nothing.
use mathlib.Core.Path.{◌≡◌, ◌∙◌, refl, sym, ap, subst}
use mathlib.Core.Bool.{Bool, true, false, cond, not, ◌&&◌, ◌||◌, true≢false}
use mathlib.Core.List.{List, [], ◌∷◌}
use mathlib.Core.Logic.{◌⊎◌, inl, inr, ⊎_elim}
use Prim.Native.Nat.{ℕ, zero, suc, ◌+◌, ◌-◌, ◌*◌, ◌/◌, ◌<◌, ◌≤◌, min}
use native.Mathlib.Omega.{arith}
use native.Mathlib.Decide.{dec_lt, ℕ_discrete}
use native.Mathlib.Nat.{zero-mul}
use borrow.Author.Tests.{eq-eqb, lt-ltb, le-ltb}
use lib.Dec.{T as So, eqb, ltb, ltb→lt, lit<}
use lib.IntN.{ℤ, pos, negsuc, neg_ℤ, ◌+ℤ◌, ◌-ℤ◌, ◌*ℤ◌}
use lib.ListN.{length, get_or}
use Rattle.rules.specs.Notation.{byte, bits, minus, clamp, modulo, twos}
use Rattle.rules.specs.Pixel.{Shows, word}
use Rattle.rules.specs.Colour.{rgb, base, sum, beyond, five, wrapped, differential, differs, flipped, code, by_beyond, kind_by_sums_lem, out_of_range_lem, steps_of, shaded}
use Rattle.rules.specs.Modes.{planar_bases_lem, planar_channel, planar_pixel_lem, is_planar, indexed, etc1_pixel, rgb_pixel, rgba1_pixel}
use Rattle.rules.specs.Formats.{shows_of}
use Rattle.rules.specs.Places.{tile}
use Rattle.rules.specs.Guards.{Guard, in_range, not_opaque, opaque_only}
use Rattle.rules.specs.declared.Kind.{Kind}
use Rattle.rules.specs.declared.Kind.TheVariants.{Individual, Differential, T, H, Planar}
use Rattle.laws.specs.Kinds.{strange}
use Rattle.laws.proofs.Every.{every, below}
use Rattle.laws.proofs.Guards.{opaque_sound}
use Rattle.laws.proofs.Range.{exactly, agree}
use Rattle.laws.proofs.Signed.{clamp_le}

-- ---- blocks with the first four bytes of another, whose indices are all one

abbrev headed : List ℕ → List ℕ → List ℕ
headed d indices = byte d 0 ∷ byte d 1 ∷ byte d 2 ∷ byte d 3 ∷ indices

-- every index 0, and every index 2
abbrev zeros : List ℕ → List ℕ
zeros d = headed d (0 ∷ 0 ∷ 0 ∷ 0 ∷ [])

abbrev twos_of : List ℕ → List ℕ
twos_of d = headed d (255 ∷ 255 ∷ 0 ∷ 0 ∷ [])

-- a block that has the first four bytes of d, and a pixel of it at which two rules differ
pub record Wrong (old new : Shows) (d : List ℕ) : Type 0 where
  pub block : List ℕ
  pub long : length block ≡ 8
  pub same_head : (k : ℕ) → k < 4 → byte block k ≡ byte d k
  pub column : ℕ
  pub row : ℕ
  pub in_column : column < 4
  pub in_row : row < 4
  pub differ : old block column row ≡ new block column row → ⊥

-- ---- arithmetic

one_way : (t : Bool) (n : ℕ) → cond t n n ≡ n
one_way true n = refl
one_way false n = refl

-- a clamped difference, over natural numbers
lowered : (c s : ℕ) → clamp 255 (pos c +ℤ minus s) ≡ min (c - s) 255
lowered c zero = omega arith
lowered c (suc s) =
    elim (dec_lt c (suc s)) [
      | yes h ↦ rw (lt-ltb c (suc s) h) (omega (arith, h))
      | no h ↦ rw (le-ltb c (suc s) (omega (arith, h)))
    ]

-- a byte with a step added, and with it taken away, are not the same
spread : (c s : ℕ) → c ≤ 255 → 0 < s → clamp 255 (pos c +ℤ pos s) ≡ clamp 255 (pos c +ℤ minus s) → ⊥
spread c s h q e = let z : min (c + s) 255 ≡ min (c - s) 255 = e ∙ lowered c s in omega arith

-- colours that are the same have the same bytes
apart : (a b c a' b' c' : ℕ) → a ≤ 255 → b ≤ 255 → c ≤ 255 → a' ≤ 255 → b' ≤ 255 → c' ≤ 255 → word 255 a b c ≡ word 255 a' b' c' → (a ≡ a') × (b ≡ b')
apart a b c a' b' c' h i j h' i' j' e = (omega arith, omega arith)

alike : (c c' : List ℕ) (s s' : ℤ) → shaded c s ≡ shaded c' s'
    → (clamp 255 (pos (get_or c 0 0) +ℤ s) ≡ clamp 255 (pos (get_or c' 0 0) +ℤ s'))
    × (clamp 255 (pos (get_or c 1 0) +ℤ s) ≡ clamp 255 (pos (get_or c' 1 0) +ℤ s'))
alike c c' s s' e =
    apart _ _ _ _ _ _
    (clamp_le 255 (pos (get_or c 0 0) +ℤ s)) (clamp_le 255 (pos (get_or c 1 0) +ℤ s)) (clamp_le 255 (pos (get_or c 2 0) +ℤ s))
    (clamp_le 255 (pos (get_or c' 0 0) +ℤ s')) (clamp_le 255 (pos (get_or c' 1 0) +ℤ s')) (clamp_le 255 (pos (get_or c' 2 0) +ℤ s'))
    e

-- no colour is transparent
solid : (a b c : ℕ) → word 255 a b c ≡ 0 → ⊥
solid a b c e = omega (arith, e)

-- the lesser step of a code
abbrev lesser : ℕ → ℕ
lesser n = get_or (steps_of n) 0 0

some_step : (n : ℕ) → n < 8 → 0 < lesser n
some_step n h = ltb→lt 0 (lesser n) (below (λ i. ltb 0 (lesser i)) 8 tt n h)

-- at its first pixel a planar block shows its first base, whatever its indices are
zero_times : (z : ℤ) → pos 0 *ℤ z ≡ pos 0
zero_times (pos n) = ap pos (zero-mul n)
zero_times (negsuc n) = ap (λ (k : ℕ). neg_ℤ (pos k)) (zero-mul (suc n))

corner : (o h v h' v' : ℕ) → planar_channel o h v 0 0 ≡ planar_channel o h' v' 0 0
unfolding planar_channel
corner o h v h' v' = rw (zero_times (pos h -ℤ pos o), zero_times (pos v -ℤ pos o), zero_times (pos h' -ℤ pos o), zero_times (pos v' -ℤ pos o))

one_word : (a b c a' b' c' : ℕ) → a ≡ a' → b ≡ b' → c ≡ c' → word 255 a b c ≡ word 255 a' b' c'
one_word a b c a' b' c' e f g = rw (e, f, g)

-- a sum that is out of range, and its base: the two reds, or greens, lie so far apart that no two steps join them
wrap : ℕ → ℕ → ℕ
wrap q r = modulo (pos 8 *ℤ pos q +ℤ pos 8 *ℤ twos 3 r) 256 / 8

sum_of : ℕ → ℕ → ℤ
sum_of q r = pos q +ℤ twos 3 r

parted : ℕ → ℕ → ℕ → ℕ → Bool
parted q r i j = not (eqb (min (five q - lesser i) 255) (min (five (wrap q r) - lesser j) 255))

far_at : ℕ → ℕ → Bool
far_at q r = not (beyond (sum_of q r)) || every (λ i. every (λ j. parted q r i j) 8) 8

right : (t u : Bool) → So (not t || u) → t ≡ true → So u
right true u s e = s
right false u s e = absurd (true≢false (sym e))

denied : (a b : ℕ) → So (not (eqb a b)) → a ≡ b → ⊥
denied a b s e = subst (λ (t : Bool). So (not t)) (eq-eqb a b e) s

far : (b i j : ℕ) → beyond (sum b) ≡ true → i < 8 → j < 8 → min (five (base b) - lesser i) 255 ≡ min (five (wrapped b) - lesser j) 255 → ⊥
unfolding wrapped wrap sum_of parted far_at
far b i j h p q =
    let t : So (far_at (base b) (bits 2 0 b)) =
    below (λ r. far_at (base b) r) 8 (below (λ q. every (λ r. far_at q r) 8) 32 tt (base b) (omega arith)) (bits 2 0 b) (omega arith) in
    denied _ _
    (below (λ j. parted (base b) (bits 2 0 b) i j) 8
    (below (λ i. every (λ j. parted (base b) (bits 2 0 b) i j) 8) 8 (right (beyond (sum b)) _ t h) i p)
    j
    q)

-- ---- what the rules show in those blocks

module _ (d : List ℕ) where
  one_kind : (l : List ℕ) → kind_by_sums_lem (headed d l) ≡ kind_by_sums_lem d
  unfolding kind_by_sums_lem
  one_kind l = refl

  -- the older rules
  etc1_zeros : differs d ≡ true → etc1_pixel (zeros d) 0 0 ≡ shaded (rgb (λ b. five (base b)) d) (pos (lesser (code d 0)))
  unfolding etc1_pixel
  etc1_zeros t = rw (one_way (flipped d) 0, t)

  etc1_twos : differs d ≡ true → etc1_pixel (twos_of d) 0 0 ≡ shaded (rgb (λ b. five (base b)) d) (minus (lesser (code d 0)))
  unfolding etc1_pixel
  etc1_twos t = rw (one_way (flipped d) 0, t)

  etc1_last : differs d ≡ true → etc1_pixel (twos_of d) 3 3 ≡ shaded (rgb (λ b. five (wrapped b)) d) (minus (lesser (code d 1)))
  unfolding etc1_pixel
  etc1_last t = rw (one_way (flipped d) 1, t)

  rgb_zeros : differs d ≡ false → rgb_pixel (zeros d) 0 0 ≡ shaded (rgb (λ b. bits 7 4 b * 17) d) (pos (lesser (code d 0)))
  unfolding rgb_pixel indexed
  rgb_zeros t = rw (t, one_way (flipped d) 0)

  rgb_twos : differs d ≡ false → rgb_pixel (twos_of d) 0 0 ≡ shaded (rgb (λ b. bits 7 4 b * 17) d) (minus (lesser (code d 0)))
  unfolding rgb_pixel indexed
  rgb_twos t = rw (t, one_way (flipped d) 0)

  -- planar, in both
  one_corner : planar_pixel_lem (planar_bases_lem (zeros d)) 0 0 ≡ planar_pixel_lem (planar_bases_lem (twos_of d)) 0 0
  unfolding planar_bases_lem
  one_corner = one_word _ _ _ _ _ _ (corner _ _ _ _ _) (corner _ _ _ _ _) (corner _ _ _ _ _)

  rgb_planar : (l : List ℕ) → differs d ≡ true → kind_by_sums_lem d ≡ Planar → rgb_pixel (headed d l) 0 0 ≡ planar_pixel_lem (planar_bases_lem (headed d l)) 0 0
  unfolding rgb_pixel
  rgb_planar l t k = rw (t, one_kind l, k)

  rgba1_planar : (l : List ℕ) → kind_by_sums_lem d ≡ Planar → rgba1_pixel (headed d l) 0 0 ≡ planar_pixel_lem (planar_bases_lem (headed d l)) 0 0
  unfolding rgba1_pixel
  rgba1_planar l k = rw (one_kind l, k)

  -- T and H: where all indices are one, one colour everywhere
  t_alike : differs d ≡ true → kind_by_sums_lem d ≡ T → rgb_pixel (twos_of d) 0 0 ≡ rgb_pixel (twos_of d) 3 3
  unfolding rgb_pixel indexed
  t_alike t k = rw (t, one_kind (255 ∷ 255 ∷ 0 ∷ 0 ∷ []), k)

  h_alike : differs d ≡ true → kind_by_sums_lem d ≡ H → rgb_pixel (twos_of d) 0 0 ≡ rgb_pixel (twos_of d) 3 3
  unfolding rgb_pixel indexed
  h_alike t k = rw (t, one_kind (255 ∷ 255 ∷ 0 ∷ 0 ∷ []), k)

  -- RGBA1 with the opaque bit clear: index 2 is transparent, but in a planar block
  transparent : differs d ≡ false → is_planar (kind_by_sums_lem d) ≡ false → rgba1_pixel (twos_of d) 0 0 ≡ 0
  unfolding rgba1_pixel
  transparent t k = rw (one_kind (255 ∷ 255 ∷ 0 ∷ 0 ∷ []), k, t)

-- ---- a wrong pixel

wrong_at_lem : (old new : Shows) (d l : List ℕ) (x y : ℕ) → length l ≡ 4 → x < 4 → y < 4 → (old (headed d l) x y ≡ new (headed d l) x y → ⊥) → Wrong old new d
wrong_at_lem old new d l x y e h i n =
    record {
      block = headed d l;
      long = omega (arith, e);
      same_head = same;
      column = x;
      row = y;
      in_column = h;
      in_row = i;
      differ = n;
    }
  where
    same : (k : ℕ) → k < 4 → byte (headed d l) k ≡ byte d k
    same zero p = refl
    same (suc zero) p = refl
    same (suc (suc zero)) p = refl
    same (suc (suc (suc zero))) p = refl
    same (suc (suc (suc (suc k)))) p = absurd (omega arith)

-- where the newer rule shows one colour at two places and the older does not, one of them is wrong
one_of_two : (p p' q q' : ℕ) → p' ≡ q' → (p ≡ q → ⊥) → (p ≡ p' → ⊥) ⊎ (q ≡ q' → ⊥)
one_of_two p p' q q' e n =
    elim (ℕ_discrete p p') [
      | yes z ↦ inr (λ w. n (z ∙ e ∙ sym w))
      | no z ↦ inl z
    ]

-- a planar block, of the older rule with its base and its step
planar_wrong : (old new : Shows) (d c : List ℕ) (s : ℕ)
    → get_or c 0 0 ≤ 255
    → 0 < s
    → old (zeros d) 0 0 ≡ shaded c (pos s)
    → old (twos_of d) 0 0 ≡ shaded c (minus s)
    → new (zeros d) 0 0 ≡ planar_pixel_lem (planar_bases_lem (zeros d)) 0 0
    → new (twos_of d) 0 0 ≡ planar_pixel_lem (planar_bases_lem (twos_of d)) 0 0
    → Wrong old new d
planar_wrong old new d c s h i o o' n n' =
    ⊎_elim
    (λ q. wrong_at_lem old new d (0 ∷ 0 ∷ 0 ∷ 0 ∷ []) 0 0 refl (lit< tt) (lit< tt) q)
    (λ q. wrong_at_lem old new d (255 ∷ 255 ∷ 0 ∷ 0 ∷ []) 0 0 refl (lit< tt) (lit< tt) q)
    (one_of_two _ _ _ _ (n ∙ one_corner d ∙ sym n')
    (λ q. spread (get_or c 0 0) s h i (alike c c (pos s) (minus s) (sym o ∙ q ∙ o')).0))

-- T and H under ETC1
two_halves_wrong : (d : List ℕ) → differs d ≡ true
    → ((min (five (base (byte d 0)) - lesser (code d 0)) 255 ≡ min (five (wrapped (byte d 0)) - lesser (code d 1)) 255)
    × (min (five (base (byte d 1)) - lesser (code d 0)) 255 ≡ min (five (wrapped (byte d 1)) - lesser (code d 1)) 255) → ⊥)
    → rgb_pixel (twos_of d) 0 0 ≡ rgb_pixel (twos_of d) 3 3
    → Wrong etc1_pixel rgb_pixel d
two_halves_wrong d t n e =
    ⊎_elim
    (λ q. wrong_at_lem etc1_pixel rgb_pixel d (255 ∷ 255 ∷ 0 ∷ 0 ∷ []) 0 0 refl (lit< tt) (lit< tt) q)
    (λ q. wrong_at_lem etc1_pixel rgb_pixel d (255 ∷ 255 ∷ 0 ∷ 0 ∷ []) 3 3 refl (lit< tt) (lit< tt) q)
    (one_of_two _ _ _ _ e
    (λ q.
    let z = alike (rgb (λ b. five (base b)) d) (rgb (λ b. five (wrapped b)) d) (minus (lesser (code d 0))) (minus (lesser (code d 1))) (sym (etc1_twos d t) ∙ q ∙ etc1_last d t) in
    n (sym (lowered _ _) ∙ z.0 ∙ lowered _ _, sym (lowered _ _) ∙ z.1 ∙ lowered _ _)))

-- what a kind says of the sums
red_beyond : (r g b : Bool) → by_beyond r g b ≡ T → r ≡ true
red_beyond true g b e = refl
red_beyond false true b e = let z : ◌≡◌ {A = ℕ} 0 1 = cc in absurd (omega arith)
red_beyond false false true e = let z : ◌≡◌ {A = ℕ} 0 1 = cc in absurd (omega arith)
red_beyond false false false e = let z : ◌≡◌ {A = ℕ} 0 1 = cc in absurd (omega arith)

green_beyond : (r g b : Bool) → by_beyond r g b ≡ H → g ≡ true
green_beyond true g b e = let z : ◌≡◌ {A = ℕ} 0 1 = cc in absurd (omega arith)
green_beyond false true b e = refl
green_beyond false false true e = let z : ◌≡◌ {A = ℕ} 0 1 = cc in absurd (omega arith)
green_beyond false false false e = let z : ◌≡◌ {A = ℕ} 0 1 = cc in absurd (omega arith)

module _ (d : List ℕ) (t : differs d ≡ true) where
  t_red : kind_by_sums_lem d ≡ T → beyond (sum (byte d 0)) ≡ true
  unfolding kind_by_sums_lem
  t_red k = red_beyond (beyond (sum (byte d 0))) (beyond (sum (byte d 1))) (beyond (sum (byte d 2))) k

  h_green : kind_by_sums_lem d ≡ H → beyond (sum (byte d 1)) ≡ true
  unfolding kind_by_sums_lem
  h_green k = green_beyond (beyond (sum (byte d 0))) (beyond (sum (byte d 1))) (beyond (sum (byte d 2))) k

  by_kind : (k : Kind) → kind_by_sums_lem d ≡ k → strange k ≡ true → Wrong etc1_pixel rgb_pixel d
  by_kind Individual e s = absurd (true≢false (sym s))
  by_kind Differential e s = absurd (true≢false (sym s))
  by_kind T e s =
      two_halves_wrong d t (λ z. far (byte d 0) (code d 0) (code d 1) (t_red e) (omega arith) (omega arith) z.0) (t_alike d t e)
  by_kind H e s =
      two_halves_wrong d t (λ z. far (byte d 1) (code d 0) (code d 1) (h_green e) (omega arith) (omega arith) z.1) (h_alike d t e)
  by_kind Planar e s =
      planar_wrong etc1_pixel rgb_pixel d (rgb (λ b. five (base b)) d) (lesser (code d 0)) (omega arith) (some_step (code d 0) (omega arith))
      (etc1_zeros d t) (etc1_twos d t) (rgb_planar d _ t e) (rgb_planar d _ t e)

both_true : (a b : Bool) → (a && b) ≡ true → a ≡ true
both_true true b e = refl
both_true false b e = absurd (true≢false (sym e))

differs_then : (d : List ℕ) → out_of_range_lem d ≡ true → differs d ≡ true
unfolding out_of_range_lem
differs_then d h = both_true (differs d) _ h

strangely : (d : List ℕ) → differs d ≡ true → out_of_range_lem d ≡ strange (kind_by_sums_lem d)
strangely d t = exactly d ∙ ap (λ (b : Bool). strange (cond b (kind_by_sums_lem d) Individual)) t

etc1_wrong : (d : List ℕ) → out_of_range_lem d ≡ true → Wrong etc1_pixel rgb_pixel d
etc1_wrong d h = let t = differs_then d h in by_kind d t (kind_by_sums_lem d) refl (sym (strangely d t) ∙ h)

clear : (t : Bool) → not t ≡ true → t ≡ false
clear true e = absurd (true≢false (sym e))
clear false e = refl

rgb_wrong : (d : List ℕ) → not_opaque d ≡ true → Wrong rgb_pixel rgba1_pixel d
rgb_wrong d h = by d (clear (differs d) h) (kind_by_sums_lem d) refl
  where
    faint : (d : List ℕ) → differs d ≡ false → is_planar (kind_by_sums_lem d) ≡ false → Wrong rgb_pixel rgba1_pixel d
    faint d t k =
        wrong_at_lem rgb_pixel rgba1_pixel d (255 ∷ 255 ∷ 0 ∷ 0 ∷ []) 0 0 refl (lit< tt) (lit< tt)
        (λ q. solid _ _ _ (sym (rgb_twos d t) ∙ q ∙ transparent d t k))

    by : (d : List ℕ) → differs d ≡ false → (k : Kind) → kind_by_sums_lem d ≡ k → Wrong rgb_pixel rgba1_pixel d
    by d t Individual e = faint d t (ap is_planar e)
    by d t Differential e = faint d t (ap is_planar e)
    by d t T e = faint d t (ap is_planar e)
    by d t H e = faint d t (ap is_planar e)
    by d t Planar e =
        planar_wrong rgb_pixel rgba1_pixel d (rgb (λ b. bits 7 4 b * 17) d) (lesser (code d 0)) (omega arith) (some_step (code d 0) (omega arith))
        (rgb_zeros d t) (rgb_twos d t) (rgba1_planar d _ e) (rgba1_planar d _ e)

-- ---- the exact set

-- the number that eight bytes are, the first highest
abbrev pub number_of : List ℕ → ℕ
number_of d =
    byte d 0 * 0x100000000000000 + byte d 1 * 0x1000000000000 + byte d 2 * 0x10000000000 + byte d 3 * 0x100000000
    + byte d 4 * 0x1000000 + byte d 5 * 0x10000 + byte d 6 * 0x100 + byte d 7

-- A guard is exact: its test looks at the first four bytes of a block; where they pass it, the older rule shows what the newer does,
-- whatever the indices are; and where they do not, indices follow with which it shows a wrong pixel.
pub record Exact (g : Guard) : Type 0 where
  pub by_head : (d e : List ℕ) → ((k : ℕ) → k < 4 → byte d k ≡ byte e k) → g.bad d ≡ g.bad e
  pub right : (d : List ℕ) (x y : ℕ) → g.bad d ≡ false → shows_of g.own d x y ≡ shows_of g.shown d x y
  pub wrong : (d : List ℕ) → g.bad d ≡ true → Wrong (shows_of g.own) (shows_of g.shown) d
  pub smallest : List ℕ
  pub is_wrong_lem : shows_of g.own smallest 0 0 ≡ shows_of g.shown smallest 0 0 → ⊥
  pub none_smaller : (d : List ℕ) (x y : ℕ) → number_of d < number_of smallest → shows_of g.own d x y ≡ shows_of g.shown d x y

-- the set is exact: a block with a wrong pixel behind these four bytes is one that the guard refuses
module _ (g : Guard) (exact : Exact g) where
  pub wrong_only_there : (d : List ℕ) → Wrong (shows_of g.own) (shows_of g.shown) d → g.bad d ≡ true
  wrong_only_there d w = decide (g.bad d) refl
    where
      decide : (b : Bool) → g.bad d ≡ b → b ≡ true
      decide true e = refl
      decide false e =
          absurd (w.differ (exact.right w.block w.column w.row (exact.by_head w.block d w.same_head ∙ e)))

-- no block below 00 00 04 02 00 00 00 00 is out of range
good : (n b : ℕ) (test : ℕ → Bool) → So (every (λ k. not (test k)) n) → b < n → test b ≡ false
good n b test s h = unset (test b) (below (λ k. not (test k)) n s b h)
  where
    unset : (t : Bool) → So (not t) → t ≡ false
    unset true q = absurd q
    unset false q = refl

module _ (d : List ℕ) (h : number_of d < 0x40200000000) where
  red_zero : byte d 0 ≡ 0
  red_zero = omega arith

  green_zero : byte d 1 ≡ 0
  green_zero = omega arith

  in_range_lem : out_of_range_lem d ≡ false
  unfolding out_of_range_lem
  in_range_lem =
      elim (dec_lt (byte d 2) 4) [
        | yes l ↦
            let z : beyond (sum (byte d 2)) ≡ false = good 4 (byte d 2) (λ b. beyond (sum b)) tt l in
            rw (red_zero, green_zero, z) (neither (differs d))
        | no l ↦
            let z : differs d ≡ false = good 2 (byte d 3) (λ b. eqb (bits 1 1 b) 1) tt (omega (arith, l)) in
            rw z
      ]
    where
      neither : (t : Bool) → (t && false) ≡ false
      neither true = refl
      neither false = refl

-- ETC1 for RGB: the blocks out of range, of which 00 00 04 02 00 00 00 00 is the smallest
head_range : (d e : List ℕ) → ((k : ℕ) → k < 4 → byte d k ≡ byte e k) → out_of_range_lem d ≡ out_of_range_lem e
unfolding out_of_range_lem
head_range d e h = rw (h 0 (lit< tt), h 1 (lit< tt), h 2 (lit< tt), h 3 (lit< tt))

first_planar : etc1_pixel (0 ∷ 0 ∷ 4 ∷ 2 ∷ 0 ∷ 0 ∷ 0 ∷ 0 ∷ []) 0 0 ≡ rgb_pixel (0 ∷ 0 ∷ 4 ∷ 2 ∷ 0 ∷ 0 ∷ 0 ∷ 0 ∷ []) 0 0 → ⊥
unfolding etc1_pixel rgb_pixel indexed kind_by_sums_lem planar_bases_lem planar_channel wrapped
first_planar e = let z : ◌≡◌ {A = ℕ} 0xFF020202 0xFF000000 = e in omega arith

pub etc1_for_rgb : Exact in_range
unfolding shows_of
etc1_for_rgb =
    record {
      by_head = head_range;
      right = agree;
      wrong = etc1_wrong;
      smallest = 0 ∷ 0 ∷ 4 ∷ 2 ∷ 0 ∷ 0 ∷ 0 ∷ 0 ∷ [];
      is_wrong_lem = first_planar;
      none_smaller = λ d x y h. agree d x y (in_range_lem d h);
    }

-- RGB for RGBA1: the blocks with their opaque bit clear, of which the block of zeros is the smallest
head_opaque : (d e : List ℕ) → ((k : ℕ) → k < 4 → byte d k ≡ byte e k) → not_opaque d ≡ not_opaque e
head_opaque d e h = rw (h 3 (lit< tt))

first_clear : rgb_pixel (0 ∷ 0 ∷ 0 ∷ 0 ∷ 0 ∷ 0 ∷ 0 ∷ 0 ∷ []) 0 0 ≡ rgba1_pixel (0 ∷ 0 ∷ 0 ∷ 0 ∷ 0 ∷ 0 ∷ 0 ∷ 0 ∷ []) 0 0 → ⊥
unfolding rgb_pixel rgba1_pixel indexed kind_by_sums_lem differential
first_clear e = let z : ◌≡◌ {A = ℕ} 0xFF020202 0xFF000000 = e in omega arith

pub rgb_for_rgba1 : Exact opaque_only
unfolding shows_of
rgb_for_rgba1 =
    record {
      by_head = head_opaque;
      right = opaque_sound.agree;
      wrong = rgb_wrong;
      smallest = 0 ∷ 0 ∷ 0 ∷ 0 ∷ 0 ∷ 0 ∷ 0 ∷ 0 ∷ [];
      is_wrong_lem = first_clear;
      none_smaller = λ d x y h. absurd (omega (arith, h));
    }

-- The test is of the first four bytes. What indices follow may hide it: a block of white, with its opaque bit clear, is refused though
-- RGB shows it right.
abbrev pub white : List ℕ
white = 255 ∷ 255 ∷ 255 ∷ 252 ∷ 0 ∷ 0 ∷ 255 ∷ 255 ∷ []

pub refused_though_right : (not_opaque white ≡ true) × (tile rgb_pixel white ≡ tile rgba1_pixel white)
unfolding rgb_pixel rgba1_pixel indexed kind_by_sums_lem differential
refused_though_right = (refl, refl)
