-- The steps of a channel: small, so that every type holds them.
-- Assumes nothing.
use mathlib.Core.Path.{◌≡◌}
use mathlib.Core.List.{List, []}
use Prim.Native.Nat.{ℕ, ◌/◌, ◌%◌, ◌<◌}
use lib.Dec.{eqb, eqb→eq, lit<}
use lib.IntN.{ℤ, pos}
use lib.ListN.{length, get_or}
use lib.Signed.{mag}
use Rattle.rules.specs.Channels.{alpha_steps_lem, alpha_step}
use Rattle.laws.proofs.Every.{below}
use Rattle.laws.proofs.Signed.{small, small_at}

-- the step of place k, row by row
abbrev pub step_at : List ℕ → ℕ → ℤ
step_at d k = alpha_step d (k % 4) (k / 4)

-- of the table's rows: each step is small, and there are eight
pub small_row : (n j : ℕ) → n < 16 → mag (get_or (get_or alpha_steps_lem n []) j (pos 0)) < 16
small_row n j h = small_at 16 (get_or alpha_steps_lem n []) (lit< tt) (below (λ k. small 16 (get_or alpha_steps_lem k [])) 16 tt n h) j

pub eight_in_row : (n : ℕ) → n < 16 → length (get_or alpha_steps_lem n []) ≡ 8
eight_in_row n h = eqb→eq _ 8 (below (λ k. eqb (length (get_or alpha_steps_lem k [])) 8) 16 tt n h)
