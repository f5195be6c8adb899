-- What a reader owes when it refuses, and when it is done.
-- Assumes nothing.
use mathlib.Core.Path.{◌≡◌, ◌∙◌, sym, ap}
use mathlib.Core.Bool.{Bool, false, cond}
use mathlib.Core.List.{List}
use Prim.Native.Nat.{ℕ}
use Rattle.std.specs.Prelude.{Ok}
use Rattle.rules.specs.Answers.{Answer, said, accepts, Outcome}

module _ (verdict after old : List ℕ) where
  -- a refusal changes nothing
  pub unchanged : (a : Answer) → said a ≡ verdict → accepts (said a) ≡ false → Outcome verdict after a old old
  unchanged a e r =
      record { says = e; leaves = sym (ap (λ (t : Bool). cond t after old) (sym (ap accepts e) ∙ r)) }

  -- what is done is what the rules say
  pub done : (new : List ℕ) → said (Ok tt) ≡ verdict → new ≡ after → Outcome verdict after (Ok tt) old new
  done new e f = record { says = e; leaves = f ∙ ap (λ (v : List ℕ). cond (accepts v) after old) e }
