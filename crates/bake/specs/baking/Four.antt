-- A base colour of four bits a channel.
-- Assumes nothing.
use Rattle.std.specs.Prelude.{List, ℕ, ◌<◌, get_or}

pub record Four (c : List ℕ) : Type 0 where
  pub red : get_or c 0 0 < 16
  pub green : get_or c 1 0 < 16
  pub blue : get_or c 2 0 < 16
