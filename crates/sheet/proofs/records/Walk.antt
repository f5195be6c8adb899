-- The walk, turn by turn: what it meets where nothing is left, where a record is cut short, and where a record is whole.
-- Assumes nothing.
use mathlib.Core.Path.{◌≡◌, refl, ap}
use mathlib.Core.Bool.{cond}
use mathlib.Core.List.{List, [], ◌∷◌}
use Prim.Native.Nat.{ℕ, zero, suc, ◌+◌, ◌≤◌, ◌<◌}
use native.Mathlib.Omega.{arith}
use borrow.Author.Tests.{lt-ltb, le-ltb}
use lib.ListN.{length, length-drop}
use Rattle.rules.specs.Records.{Records, more, ended, short, length_in, record_in, behind, is_cut_lem, walked, records_of}

-- turns beyond those that are needed change nothing
pub enough : (n m : ℕ) (d : List ℕ) → length d ≤ n → length d ≤ m → walked n d ≡ walked m d
unfolding walked
enough zero zero d h k = refl
enough zero (suc m) [] h k = refl
enough zero (suc m) (b ∷ l) h k = absurd (omega arith)
enough (suc n) zero [] h k = refl
enough (suc n) zero (b ∷ l) h k = absurd (omega arith)
enough (suc n) (suc m) [] h k = refl
enough (suc n) (suc m) (b ∷ l) h k =
    ap (λ (z : Records). cond (is_cut_lem (b ∷ l)) short (more (record_in (b ∷ l)) z))
    (enough n m (behind (b ∷ l)) (omega (arith, length-drop (6 + length_in (b ∷ l)) (b ∷ l))) (omega (arith, length-drop (6 + length_in (b ∷ l)) (b ∷ l))))

pub at_the_end : (d : List ℕ) → length d ≡ 0 → records_of d ≡ ended
unfolding walked
at_the_end [] h = refl
at_the_end (b ∷ l) h = absurd (omega arith)

pub cut_short : (d : List ℕ) → 0 < length d → length d < 6 + length_in d → records_of d ≡ short
unfolding walked
cut_short [] p h = absurd (omega arith)
cut_short (b ∷ l) p h = rw (lt-ltb (length (b ∷ l)) (6 + length_in (b ∷ l)) h)

pub whole : (d : List ℕ) → 6 + length_in d ≤ length d → records_of d ≡ more (record_in d) (records_of (behind d))
unfolding walked
whole [] h = absurd (omega arith)
whole (b ∷ l) h =
    rw (le-ltb (length (b ∷ l)) (6 + length_in (b ∷ l)) h)
    (ap (more (record_in (b ∷ l)))
    (enough (length l) (length (behind (b ∷ l))) (behind (b ∷ l)) (omega (arith, length-drop (6 + length_in (b ∷ l)) (b ∷ l))) (omega arith)))
