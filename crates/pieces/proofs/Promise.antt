-- What a piece owes when it is taken.
-- Assumes nothing.
use mathlib.Core.Path.{◌≡◌, ◌∙◌, refl, ap}
use mathlib.Core.List.{List, ◌++◌}
use Prim.Native.Nat.{ℕ, ◌+◌, ◌-◌, ◌*◌, ◌/◌, ◌%◌}
use lib.ListN.{length, take}
use Rattle.std.specs.Prelude.{Ok}
use Rattle.rules.specs.declared.Progress.{Progress}
use Rattle.rules.specs.Pieces.{size, got, later, padded}
use Rattle.blocks.specs.Run.{PaintsRun}
use Rattle.blocks.proofs.Runs.{run_painted}
use Rattle.pieces.specs.Took.{Took}

module _ (p : Progress) (e image : List ℕ) where
  -- the state with so many bytes taken and these kept
  abbrev with : ℕ → List ℕ → Progress
  with t k = record { format = p.format; picture = p.picture; taken = t; kept = k }

  -- what the numbers of the code are in the rules
  pub took : (s G L : ℕ) (rest new : List ℕ) (u : ℕ) → s ≡ size p → G ≡ got p → L ≡ later p e
      → rest ≡ padded (take (G % s) p.kept ++ e) ((L / s - G / s) * s) (L % s)
      → u ≡ G + length e - L
      → PaintsRun p.format (take (G % s) p.kept ++ e) p.picture (G / s) (L / s) image new
      → Took p e image (record { answer = (Ok tt); progress = with L rest; painted = L / s - G / s; unused = u }) new
  took s G L rest new u a b c k m q =
      record {
        answer = refl;
        state = ap (λ (t : ℕ). with t rest) c ∙ ap (with (later p e)) (rw (a, b, c) at k);
        painted = rw (a, b, c);
        unused = rw (b, c) at m;
        leaves = run_painted p.picture (got p / size p) (later p e / size p) _ image new (rw (a, b, c) at q);
      }
