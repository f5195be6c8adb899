-- The kept bytes followed by the new ones.
-- Assumes nothing.
use mathlib.Core.Path.{◌≡◌, ◌∙◌, sym, ap}
use mathlib.Core.Bool.{Bool, cond}
use mathlib.Core.List.{List, ◌++◌}
use Prim.Native.Nat.{ℕ, ◌+◌, ◌-◌, ◌*◌, ◌<◌, ◌≤◌}
use native.Mathlib.Omega.{arith}
use native.Mathlib.Nat.{zero-mul, suc-mul}
use native.Mathlib.Numerals.{add-one}
use native.Mathlib.Decide.{dec_lt, ℕ_discrete}
use borrow.Author.Tests.{lt-ltb, le-ltb}
use lib.Dec.{ltb}
use lib.ListN.{length, get_or, take, drop, set, length-set, length-take, length-drop, length-append, get_or-append}
use lib.Seq.{ext_get_or, length-take-le, get_or-take, get_or-drop, get_or-append-add, get_or-set_same, get_or-set_other}
use Rattle.rules.specs.Notation.{build, byte}
use Rattle.rules.specs.Places.{bytes_of}
use Rattle.laws.proofs.Filled.{is_build, length_build, get_or_build}
use Rattle.rules.specs.Pieces.{padded}

module _ (kept e : List ℕ) (h : ℕ) (long : h ≤ length kept) where
  size : length (take h kept) ≡ h
  size = length-take-le h kept long

  -- a byte of the kept ones, and one of the new ones
  pub low : (i : ℕ) → i < h → get_or kept i 0 ≡ byte (take h kept ++ e) i
  low i q = sym (get_or-append (take h kept) e 0 i (omega (arith, size)) ∙ get_or-take h kept i 0 q)

  pub high : (i : ℕ) → h ≤ i → get_or e (i - h) 0 ≡ byte (take h kept ++ e) i
  high i q =
      let z : i ≡ length (take h kept) + (i - h) = omega (arith, size) in
      sym (ap (λ (j : ℕ). get_or (take h kept ++ e) j 0) z ∙ get_or-append-add (take h kept) e (i - h) 0)

-- one byte more of those that are kept for the next piece
module _ (l : List ℕ) (at i : ℕ) where
  choose : (k : ℕ) (x : ℕ) → (k ≡ i → ⊥) → cond (ltb k i) x 0 ≡ cond (ltb k (i + 1)) x 0
  choose k x ne =
      elim (dec_lt k i) [
        | yes q ↦ ap (λ (t : Bool). cond t x 0) (lt-ltb k i q) ∙ sym (ap (λ (t : Bool). cond t x 0) (lt-ltb k (i + 1) (omega (arith, q))))
        | no q ↦ ap (λ (t : Bool). cond t x 0) (le-ltb k i (omega (arith, q))) ∙ sym (ap (λ (t : Bool). cond t x 0) (le-ltb k (i + 1) (omega (arith, q, ne))))
      ]

  pub padded_more : (out : List ℕ) (v : ℕ) → i < 15 → out ≡ padded l at i → v ≡ byte l (at + i) → set out i v ≡ padded l at (i + 1)
  padded_more out v b p e =
      let n : length out ≡ 15 = ap length p in
      is_build (λ k. cond (ltb k (i + 1)) (byte l (at + k)) 0) 0 15 (set out i v) (length-set out i v ∙ n)
      (λ k h.
      elim (ℕ_discrete k i) [
        | yes s ↦
            ap (λ (j : ℕ). get_or (set out i v) j 0) s
            ∙ get_or-set_same out i v 0 (omega arith)
            ∙ e
            ∙ sym (ap (λ (t : Bool). cond t (byte l (at + i)) 0) (lt-ltb i (i + 1) (omega arith)))
            ∙ ap (λ (j : ℕ). cond (ltb j (i + 1)) (byte l (at + j)) 0) (sym s)
        | no s ↦
            get_or-set_other out i k v 0 s
            ∙ ap (λ (z : List ℕ). get_or z k 0) p
            ∙ get_or_build (λ j. cond (ltb j i) (byte l (at + j)) 0) 0 15 k h
            ∙ choose k (byte l (at + k)) s
      ])

-- ---- the bytes of a block

-- a block of one list is a block of another, byte by byte
pub same_bytes : (s m n : ℕ) (d l : List ℕ) → m * s + s ≤ length d → n * s + s ≤ length l → ((i : ℕ) → i < s → get_or d (m * s + i) 0 ≡ get_or l (n * s + i) 0) → bytes_of s d m ≡ bytes_of s l n
same_bytes s m n d l a b e =
    let x : length (bytes_of s d m) ≡ s = simp (length-take, length-drop) (omega arith) in
    let y : length (bytes_of s l n) ≡ s = simp (length-take, length-drop) (omega arith) in
    ext_get_or 0 (bytes_of s d m) (bytes_of s l n) (x ∙ sym y)
    (λ i h.
    let q : i < s = omega arith in
    get_or-take s (drop (m * s) d) i 0 q
    ∙ get_or-drop (m * s) d i 0
    ∙ e i q
    ∙ sym (get_or-drop (n * s) l i 0)
    ∙ sym (get_or-take s (drop (n * s) l) i 0 q))

-- the block that is in both, from its sixteen bytes
pub joint_block : (s m : ℕ) (l : List ℕ) → s ≤ 16 → s ≤ length l → m ≡ 0 → bytes_of s (build 16 (byte l)) m ≡ bytes_of s l m
joint_block s m l h k z =
    let o : m * s ≡ 0 = ap (λ (x : ℕ). x * s) z ∙ zero-mul s in
    let w : length (build 16 (byte l)) ≡ 16 = length_build (byte l) 0 16 in
    same_bytes s m m (build 16 (byte l)) l (omega arith) (omega arith) (λ i q. get_or_build (byte l) 0 16 (m * s + i) (omega arith))

-- a later one, from the new bytes without those that went to it
pub later_block : (s m n h : ℕ) (kept e : List ℕ) → h ≤ s → h ≤ length kept → n ≡ m + 1 → n * s + s ≤ h + length e → bytes_of s (drop (s - h) e) m ≡ bytes_of s (take h kept ++ e) n
later_block s m n h kept e a k z b =
    let o : n * s ≡ m * s + s = ap (λ (x : ℕ). x * s) z ∙ add-one-mul m s in
    let w : length (take h kept ++ e) ≡ h + length e = length-append (take h kept) e ∙ ap (λ (x : ℕ). x + length e) (length-take-le h kept k) in
    let v : length (drop (s - h) e) ≡ length e - (s - h) = length-drop (s - h) e in
    same_bytes s m n (drop (s - h) e) (take h kept ++ e) (omega arith) (omega arith)
    (λ i q.
    get_or-drop (s - h) e (m * s + i) 0
    ∙ ap (λ (x : ℕ). get_or e x 0) (omega arith)
    ∙ high kept e h k (n * s + i) (omega arith))
  where
    add-one-mul : (m s : ℕ) → (m + 1) * s ≡ m * s + s
    add-one-mul m s = rw add-one (suc-mul m s)
