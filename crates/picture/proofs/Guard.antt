-- A reader that looks for a block that it must not read, before it paints: what is painted where it finds none. All of it is over
-- the guard.
-- Assumes nothing.
use mathlib.Core.Path.{◌≡◌, ◌∙◌, refl, sym, ap}
use mathlib.Core.Bool.{Bool, true, false, cond}
use mathlib.Core.List.{List}
use Prim.Native.Nat.{ℕ, ◌%◌, ◌≤◌}
use native.Mathlib.Omega.{arith}
use lib.Dec.{T as So}
use Rattle.rules.specs.Places.{blocks, block_at, bytes_of, column, row, inside, pixel_by, picture_by}
use Rattle.rules.specs.Answers.{accepts, left, Check, first_of, guarded, Outcome}
use Rattle.rules.specs.Formats.{size_of, shows_of}
use Rattle.rules.specs.Guards.{Guard, bad_at, guard_verdict}
use Rattle.rules.specs.Readers.{picture_of, ReadsGuarded}
use Rattle.rules.specs.Answers.{Answer}
use Rattle.rules.specs.declared.Picture.{Picture}
use Rattle.laws.proofs.First.{first}
use Rattle.laws.proofs.Guards.{Sound, accepted}
use Rattle.laws.proofs.Judged.{numbered, all_pass, passed}
use Rattle.laws.proofs.Paint.{painted_same}
use Rattle.blocks.proofs.Blocks.{block_in}

-- where a guard finds no block, a picture painted by its own rule is painted by the rule that is shown
module _ (g : Guard) (sound : Sound g) (pic : Picture) (d old : List ℕ) where
  pub agree : blocks pic ≤ first_of (bad_at g d) (blocks pic) → picture_of g.own pic d old ≡ picture_of g.shown pic d old
  agree h =
      painted_same (inside pic) (pixel_by (shows_of g.own) (bytes_of (size_of g.own) d) pic) (pixel_by (shows_of g.shown) (bytes_of (size_of g.own) d) pic) old
      (λ k i.
      sound.agree (bytes_of (size_of g.own) d (block_at pic k)) (column pic k % 4) (row pic k % 4)
      ((first (bad_at g d) (blocks pic)).none (block_at pic k) (omega (arith, block_in pic k i))))
      ∙ ap (λ (s : ℕ). picture_by (shows_of g.shown) (bytes_of s d) pic old) sound.one_size

  -- so a reader that says the verdict and paints by its own rule reads as the guard promises
  pub reads : (cs : List Check) → So (numbered cs) → (v new : List ℕ) (a : Answer)
      → v ≡ guard_verdict g cs pic d
      → Outcome v (picture_of g.own pic d old) a old new
      → ReadsGuarded g cs d pic old a new
  reads checks n v new a e o =
      record {
        says = o.says ∙ e;
        leaves = o.leaves ∙ ap (λ (z : List ℕ). left z (picture_of g.own pic d old) old) e ∙ choose (accepts (guard_verdict g checks pic d)) refl;
      }
    where
      choose : (t : Bool) → accepts (guard_verdict g checks pic d) ≡ t → cond t (picture_of g.own pic d old) old ≡ cond t (picture_of g.shown pic d old) old
      choose true h =
          let then = guarded g.number (bad_at g d) (blocks pic) in
          agree
          (accepted g.number (bad_at g d) (blocks pic) sound.is_refusal
          (sym (ap accepts (all_pass checks then (passed checks then n h))) ∙ h))
      choose false h = refl
