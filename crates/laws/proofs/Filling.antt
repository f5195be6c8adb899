-- The invariant of a loop that fills an array, one store a turn, and its three steps: where it begins, what a turn keeps,
-- and what it ends with. Place k is stored at turn `turn k`, which is k itself where the places go in order.
-- Assumes nothing.
use mathlib.Core.Path.{◌≡◌, ◌∙◌}
use mathlib.Core.List.{List}
use Prim.Native.Nat.{ℕ, ◌+◌, ◌<◌, ◌≤◌}
use native.Mathlib.Omega.{arith}
use lib.ListN.{length, get_or, set, length-set}
use Rattle.rules.specs.Notation.{build}
use Rattle.laws.proofs.Filled.{fills_by, is_build}

pub record Filling {A : Type 0} (turn : ℕ → ℕ) (f : ℕ → A) (z : A) (n i : ℕ) (l : List A) : Type 0 where
  pub turns : i ≤ n
  pub size : length l ≡ n
  pub passed : (k : ℕ) → k < n → turn k < i → get_or l k z ≡ f k

module _ {A : Type 0} (turn : ℕ → ℕ) (f : ℕ → A) (z : A) (n : ℕ) where
  pub begun : (l : List A) → length l ≡ n → Filling turn f z n 0 l
  begun l e = record { turns = omega arith; size = e; passed = λ k h t. absurd (omega arith) }

  -- the place o is the one whose turn it is
  pub stored : (l : List A) (i o : ℕ) (v : A) → Filling turn f z n i l → i < n → o < n → ((k : ℕ) → k < n → turn k ≡ i → k ≡ o) → v ≡ f o → Filling turn f z n (i + 1) (set l o v)
  stored l i o v p h b u e =
      record {
        turns = omega arith;
        size = length-set l o v ∙ p.size;
        passed = fills_by f z turn n l i o v (omega (arith, p.size)) u p.passed e;
      }

  pub filled : (l : List A) (i : ℕ) → Filling turn f z n i l → ((k : ℕ) → k < n → turn k < i) → l ≡ build n f
  filled l i p h = is_build f z n l p.size (λ k b. p.passed k b (h k b))

-- the same in order
abbrev pub in_order_lem : ℕ → ℕ
in_order_lem k = k

module _ {A : Type 0} (f : ℕ → A) (z : A) (n : ℕ) (l : List A) (i : ℕ) (p : Filling in_order_lem f z n i l) where
  pub stored_next : (v : A) → i < n → v ≡ f i → Filling in_order_lem f z n (i + 1) (set l i v)
  stored_next v h e = stored in_order_lem f z n l i i v p h h (λ k b t. t) e

  pub filled_all : n ≤ i → l ≡ build n f
  filled_all h = filled in_order_lem f z n l i p (λ k b. omega arith)
