-- A piece that is taken: what the function below the checks promises.
-- Assumes nothing.
use Rattle.std.specs.Prelude.{◌≡◌, List, ℕ}
use Rattle.std.specs.Prelude.{Ok}
use Rattle.rules.specs.declared.Progress.{Progress}
use Rattle.rules.specs.declared.Taken.{Taken}
use Rattle.rules.specs.Pieces.{completed, behind_last, after, image_after}

pub record Took (p : Progress) (e image : List ℕ) (r : Taken) (new : List ℕ) : Type 0 where
  pub answer : r.answer ≡ (Ok tt)
  pub state : r.progress ≡ after p e
  pub painted : r.painted ≡ completed p e
  pub unused : r.unused ≡ behind_last p e
  pub leaves : new ≡ image_after p e image
