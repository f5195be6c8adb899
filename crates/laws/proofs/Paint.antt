-- Painting a list, element by element and part by part.
-- Assumes nothing.
use mathlib.Core.Path.{◌≡◌, ◌∙◌, refl, sym, ap}
use mathlib.Core.List.{List, ◌++◌}
use mathlib.Core.Logic.{◌⊎◌, ⊎_elim}
use Prim.Native.Nat.{ℕ, ◌+◌, ◌-◌, ◌<◌, ◌≤◌}
use native.Mathlib.Omega.{arith}
use lib.ListN.{length, get_or, set, take, drop, length-set, length-take, length-drop, length-append, get_or-append}
use lib.Seq.{get_or-set_same, get_or-set_other, get_or-take, get_or-drop, get_or-append-add}
use mathlib.Core.Bool.{Bool, true, false, cond}
use native.Mathlib.Decide.{dec_lt}
use lib.Dec.{T}
use lib.Seq.{ext_get_or}
use Rattle.rules.specs.Places.{painted}
use Rattle.laws.specs.Painted.{PaintedOver, Painted}
use Rattle.laws.proofs.Filled.{is_build, length_build, get_or_build}

-- nothing is painted yet
pub none : {A : Type 0} {z : A} (P : ℕ → Type 0) (v : ℕ → A) (l : List A) → ((k : ℕ) → P k → ⊥) → PaintedOver z P v l l
none P v l n = record { hit = λ k p. absurd (n k p); miss = λ k p. refl; same = refl }

-- the same elements, said otherwise
pub said : {A : Type 0} {z : A} (P Q : ℕ → Type 0) (v u : ℕ → A) (old new : List A) → PaintedOver z P v old new → ((k : ℕ) → Q k → P k) → ((k : ℕ) → P k → Q k)
    → ((k : ℕ) → Q k → v k ≡ u k) → PaintedOver z Q u old new
said P Q v u old new p to from e =
    record { hit = λ k q. p.hit k (to k q) ∙ e k q; miss = λ k n. p.miss k (λ m. n (from k m)); same = p.same }

-- one element more
pub one : {A : Type 0} {z : A} (P Q : ℕ → Type 0) (v : ℕ → A) (old new : List A) (j : ℕ) (a : A) → PaintedOver z P v old new → j < length new → Q j → a ≡ v j
    → ((k : ℕ) → P k → Q k) → ((k : ℕ) → Q k → (P k × (k ≡ j → ⊥)) ⊎ (k ≡ j)) → PaintedOver z Q v old (set new j a)
one {A} {z} P Q v old new j a p h q e up down =
    record {
      hit =
          λ k m.
          ⊎_elim (λ w. get_or-set_other new j k a z w.1 ∙ p.hit k w.0)
          (λ w. ap (λ (m : ℕ). get_or (set new j a) m z) w ∙ get_or-set_same new j a z h ∙ e ∙ ap v (sym w))
          (down k m);
      miss = λ k n. get_or-set_other new j k a z (λ w. n (rw w q)) ∙ p.miss k (λ m. n (up k m));
      same = length-set new j a ∙ p.same;
    }

-- one part, and then another
pub also : {A : Type 0} {z : A} (P Q R : ℕ → Type 0) (v : ℕ → A) (old mid new : List A) → PaintedOver z P v old mid → PaintedOver z Q v mid new
    → ((k : ℕ) → P k → R k) → ((k : ℕ) → Q k → R k) → ((k : ℕ) → R k → (P k × (Q k → ⊥)) ⊎ Q k) → PaintedOver z R v old new
also P Q R v old mid new p q f g h =
    record {
      hit = λ k r. ⊎_elim (λ w. q.miss k w.1 ∙ p.hit k w.0) (λ w. q.hit k w) (h k r);
      miss = λ k n. q.miss k (λ m. n (g k m)) ∙ p.miss k (λ m. n (f k m));
      same = q.same ∙ p.same;
    }

-- a part of a list, of n elements from a on, that was lent and is put back
module _ {A : Type 0} (z : A) (a n : ℕ) (old part : List A) (h : a + n ≤ length old) (e : length part ≡ n) where
  back : List A
  back = take a old ++ (part ++ drop n (drop a old))

  head : length (take a old) ≡ a
  head = simp length-take (omega arith)

  at_left : (k : ℕ) → k < a → get_or back k z ≡ get_or old k z
  unfolding back
  at_left k l = get_or-append (take a old) _ z k (omega (arith, head)) ∙ get_or-take a old k z l

  from_a : (i : ℕ) → get_or back (a + i) z ≡ get_or (part ++ drop n (drop a old)) i z
  unfolding back
  from_a i = ap (λ (m : ℕ). get_or back (m + i) z) (sym head) ∙ get_or-append-add (take a old) _ i z

  at_part : (i : ℕ) → i < n → get_or back (a + i) z ≡ get_or part i z
  at_part i l = from_a i ∙ get_or-append part _ z i (omega arith)

  at_right : (j : ℕ) → get_or back (a + (n + j)) z ≡ get_or old (a + (n + j)) z
  at_right j =
      from_a (n + j)
      ∙ ap (λ (m : ℕ). get_or (part ++ drop n (drop a old)) (m + j) z) (sym e)
      ∙ get_or-append-add part _ j z
      ∙ get_or-drop n (drop a old) j z
      ∙ get_or-drop a old (n + j) z

  same_back : length back ≡ length old
  unfolding back
  same_back = simp (length-append, length-take, length-drop) (omega arith)

-- what is painted in the part is painted in the list
pub lent : {A : Type 0} {z : A} (P : ℕ → Type 0) (v : ℕ → A) (a n : ℕ) (old part : List A) → a + n ≤ length old → PaintedOver z P v (take n (drop a old)) part
    → PaintedOver z (λ k. (a ≤ k) × (k < a + n) × P (k - a)) (λ k. v (k - a)) old (take a old ++ (part ++ drop n (drop a old)))
unfolding back
lent {A} {z} P v a n old part h p =
    record {
      hit = λ k m. ap (λ (j : ℕ). get_or (back z a n old part h e) j z) (again k m.0) ∙ at_part z a n old part h e (k - a) (omega (arith, m.0, m.1)) ∙ p.hit (k - a) m.2;
      miss = λ k m. elim (dec_lt k a) [
        | yes l ↦ at_left z a n old part h e k l
        | no l ↦ elim (dec_lt k (a + n)) [
          | yes r ↦ in_part k (omega (arith, l)) r (λ q. m (omega (arith, l), r, q))
          | no r ↦ behind k (omega (arith, r))
        ]
      ];
      same = same_back z a n old part h e;
    }
  where
    e : length part ≡ n
    e = p.same ∙ simp (length-take, length-drop) (omega arith)

    again : (k : ℕ) → a ≤ k → k ≡ a + (k - a)
    again k l = omega arith

    in_part : (k : ℕ) → a ≤ k → k < a + n → (P (k - a) → ⊥) → get_or (back z a n old part h e) k z ≡ get_or old k z
    in_part k l r q =
        ap (λ (m : ℕ). get_or (back z a n old part h e) m z) (again k l)
        ∙ at_part z a n old part h e (k - a) (omega arith)
        ∙ p.miss (k - a) q
        ∙ get_or-take n (drop a old) (k - a) z (omega arith)
        ∙ get_or-drop a old (k - a) z
        ∙ ap (λ (m : ℕ). get_or old m z) (sym (again k l))

    behind : (k : ℕ) → a + n ≤ k → get_or (back z a n old part h e) k z ≡ get_or old k z
    behind k l =
        let s : k ≡ a + (n + (k - a - n)) = omega arith in
        ap (λ (m : ℕ). get_or (back z a n old part h e) m z) s
        ∙ at_right z a n old part h e (k - a - n)
        ∙ ap (λ (m : ℕ). get_or old m z) (sym s)

-- what is painted is the list that the rules say, where a test tells the elements that are painted
chosen : (t : Bool) (P : Type 0) (a x y : ℕ) → (T t → P) → (P → T t) → (P → a ≡ x) → ((P → ⊥) → a ≡ y) → a ≡ cond t x y
chosen true P a x y to from h m = h (to tt)
chosen false P a x y to from h m = m (λ p. absurd (from p))

pub is_painted : (P : ℕ → Type 0) (t : ℕ → Bool) (v : ℕ → ℕ) (old new : List ℕ) → ((k : ℕ) → T (t k) → P k) → ((k : ℕ) → P k → T (t k)) → Painted P v old new → new ≡ painted t v old
unfolding painted
is_painted P t v old new to from p =
    is_build (λ k. cond (t k) (v k) (get_or old k 0)) 0 (length old) new p.same
    (λ k h. chosen (t k) (P k) (get_or new k 0) (v k) (get_or old k 0) (to k) (from k) (p.hit k) (p.miss k))

-- and what that list holds
pub length_painted : (t : ℕ → Bool) (v : ℕ → ℕ) (old : List ℕ) → length (painted t v old) ≡ length old
unfolding painted
length_painted t v old = length_build (λ k. cond (t k) (v k) (get_or old k 0)) 0 (length old)

pub get_d_painted : (t : ℕ → Bool) (v : ℕ → ℕ) (old : List ℕ) (k : ℕ) → k < length old → get_or (painted t v old) k 0 ≡ cond (t k) (v k) (get_or old k 0)
unfolding painted
get_d_painted t v old k h = get_or_build (λ k. cond (t k) (v k) (get_or old k 0)) 0 (length old) k h

-- painting with other values is the same where they agree on what is painted
pub painted_same : (t : ℕ → Bool) (v u : ℕ → ℕ) (old : List ℕ) → ((k : ℕ) → T (t k) → v k ≡ u k) → painted t v old ≡ painted t u old
painted_same t v u old e =
    ext_get_or 0 (painted t v old) (painted t u old) (length_painted t v old ∙ sym (length_painted t u old))
    (λ k h.
    let b : k < length old = omega (arith, length_painted t v old) in
    get_d_painted t v old k b ∙ agree (t k) (v k) (u k) (get_or old k 0) (e k) ∙ sym (get_d_painted t u old k b))
  where
    agree : (b : Bool) (x y z : ℕ) → (T b → x ≡ y) → cond b x z ≡ cond b y z
    agree true x y z h = h tt
    agree false x y z h = refl
