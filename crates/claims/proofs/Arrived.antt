-- The bytes at hand are those of all bytes so far: of d, of which G are taken, and then of e, of which L are taken in all.
-- Assumes nothing.
use mathlib.Core.Path.{◌≡◌, ◌∙◌, sym, ap}
use mathlib.Core.Bool.{Bool, cond}
use mathlib.Core.List.{List, ◌++◌}
use Prim.Native.Nat.{ℕ, ◌+◌, ◌-◌, ◌*◌, ◌/◌, ◌%◌, ◌<◌, ◌≤◌, min}
use native.Mathlib.Omega.{arith}
use native.Mathlib.Nat.{div-add-mod', div-mul-le_self, mod-lt, mul-le-mul_right}
use native.Mathlib.Decide.{dec_lt}
use borrow.Author.Tests.{lt-ltb, le-ltb}
use lib.Dec.{ltb}
use lib.ListN.{length, get_or, take, length-append, get_or-append}
use lib.Seq.{length-take-le, get_or-append-add}
use Rattle.rules.specs.Notation.{byte}
use Rattle.rules.specs.Places.{bytes_of}
use Rattle.laws.proofs.Filled.{get_or_build, build_same}
use Rattle.blocks.proofs.Blocks.{room}
use Rattle.rules.specs.Pieces.{padded}
use Rattle.pieces.proofs.kept.Joined.{low, high, same_bytes}
use Rattle.pieces.proofs.kept.Numbers.{sub_times}

-- kept bytes that are equal byte by byte
pub padded_same : (l m : List ℕ) (a b n : ℕ) → ((i : ℕ) → i < n → byte l (a + i) ≡ byte m (b + i)) → padded l a n ≡ padded m b n
padded_same l m a b n e =
    build_same 0 (λ i. cond (ltb i n) (byte l (a + i)) 0) (λ i. cond (ltb i n) (byte m (b + i)) 0) 15
    (λ i h.
    elim (dec_lt i n) [
      | yes q ↦
          ap (λ (t : Bool). cond t (byte l (a + i)) 0) (lt-ltb i n q)
          ∙ e i q
          ∙ sym (ap (λ (t : Bool). cond t (byte m (b + i)) 0) (lt-ltb i n q))
      | no q ↦
          ap (λ (t : Bool). cond t (byte l (a + i)) 0) (le-ltb i n (omega (arith, q)))
          ∙ sym (ap (λ (t : Bool). cond t (byte m (b + i)) 0) (le-ltb i n (omega (arith, q))))
    ])

-- a bytes are painted and h are kept
module _ (W G L a h : ℕ) (d e kept : List ℕ) (parts : a + h ≡ G) (few : h ≤ 15) (g : G ≡ min (length d) W) (l : L ≡ min (G + length e) W) (k : kept ≡ padded d a h) where
  long : h ≤ length kept
  long = let n : length kept ≡ 15 = ap length k in omega arith

  pub hand_byte : (i : ℕ) → a + i < L → byte (take h kept ++ e) i ≡ byte (d ++ e) (a + i)
  hand_byte i q =
      elim (dec_lt i h) [
        | yes m ↦
            sym (low kept e h long i m)
            ∙ ap (λ (z : List ℕ). get_or z i 0) k
            ∙ get_or_build (λ j. cond (ltb j h) (byte d (a + j)) 0) 0 15 i (omega (arith, m))
            ∙ ap (λ (t : Bool). cond t (byte d (a + i)) 0) (lt-ltb i h m)
            ∙ sym (get_or-append d e 0 (a + i) (omega (arith, m)))
        | no m ↦
            let z : length d + (i - h) ≡ a + i = omega (arith, m) in
            sym (high kept e h long i (omega (arith, m)))
            ∙ sym (get_or-append-add d e (i - h) 0)
            ∙ ap (λ (j : ℕ). get_or (d ++ e) j 0) z
      ]

  pub hand_length : length (take h kept ++ e) ≡ h + length e
  hand_length = length-append (take h kept) e ∙ ap (λ (x : ℕ). x + length e) (length-take-le h kept long)

module _ (s W G L : ℕ) (d e kept : List ℕ) (small : s ≤ 16) (some : 0 < s) (g : G ≡ min (length d) W) (l : L ≡ min (G + length e) W) (k : kept ≡ padded d (G / s * s) (G % s)) where
  abbrev hand : List ℕ
  hand = take (G % s) kept ++ e

  parts : G / s * s + G % s ≡ G
  parts = div-add-mod' G s

  few : G % s ≤ 15
  few = omega (arith, mod-lt G some)

  there : (i : ℕ) → G / s * s + i < L → byte hand i ≡ byte (d ++ e) (G / s * s + i)
  there = hand_byte W G L (G / s * s) (G % s) d e kept parts few g l k

  -- a block that was finished before
  pub old_block : (n : ℕ) → n < G / s → bytes_of s d n ≡ bytes_of s (d ++ e) n
  old_block n h =
      let r : n * s + s ≤ G = room s (G / s) n G h (div-mul-le_self G s) in
      same_bytes s n n d (d ++ e) (omega arith) (omega (arith, length-append d e)) (λ i q. sym (get_or-append d e 0 (n * s + i) (omega arith)))

  -- one that is now
  pub new_block : (n : ℕ) → G / s ≤ n → n < L / s → bytes_of s hand (n - G / s) ≡ bytes_of s (d ++ e) n
  new_block n i j =
      let r : n * s + s ≤ L = room s (L / s) n L j (div-mul-le_self L s) in
      let c : G / s * s ≤ n * s = mul-le-mul_right s i in
      let t : (n - G / s) * s ≡ n * s - G / s * s = sub_times n (G / s) s in
      same_bytes s (n - G / s) n hand (d ++ e)
      (omega (arith, hand_length W G L (G / s * s) (G % s) d e kept parts few g l k, parts))
      (omega (arith, length-append d e))
      (λ m q. there ((n - G / s) * s + m) (omega arith) ∙ ap (λ (x : ℕ). byte (d ++ e) x) (omega arith))

  -- and the bytes that are kept now
  pub new-kept : G / s ≤ L / s → padded hand ((L / s - G / s) * s) (L % s) ≡ padded (d ++ e) (L / s * s) (L % s)
  new-kept u =
      let b : L / s * s + L % s ≡ L = div-add-mod' L s in
      let c : G / s * s ≤ L / s * s = mul-le-mul_right s u in
      let t : (L / s - G / s) * s ≡ L / s * s - G / s * s = sub_times (L / s) (G / s) s in
      padded_same hand (d ++ e) ((L / s - G / s) * s) (L / s * s) (L % s)
      (λ i q. there ((L / s - G / s) * s + i) (omega arith) ∙ ap (λ (x : ℕ). byte (d ++ e) x) (omega arith))
