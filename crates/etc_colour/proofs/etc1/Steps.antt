-- The steps of a code are small.
-- Assumes nothing.
use Rattle.std.proofs.Common.{ℕ, ◌<◌, get_or, pos, lit<}
use lib.Signed.{mag}
use Rattle.laws.proofs.Every.{below}
use Rattle.laws.proofs.Signed.{small, small_at}
use Rattle.rules.specs.Colour.{steps_of}
use Rattle.tables.specs.consts.Tables.{four_steps}

pub small_step : (code k : ℕ) → code < 8 → mag (get_or (four_steps (steps_of code)) k (pos 0)) < 1024
small_step code k h =
    small_at 1024 (four_steps (steps_of code)) (lit< tt) (below (λ j. small 1024 (four_steps (steps_of j))) 8 tt code h) k
