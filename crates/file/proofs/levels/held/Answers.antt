-- `file::levels::held` meets its contract: a picture that is not too large has few levels.
-- Assumes nothing.
use mathlib.Core.Path.{◌≡◌, ◌∙◌, sym, ap₂}
use mathlib.Core.Bool.{false}
use Prim.Native.Nat.{◌-◌}
use Rattle.rules.specs.FileLevels.{larger, too_many_lem}
use Rattle.file.proofs.Walk.{sound, largest}
use Rattle.file.proofs.levels.held.Goals as goal

pub levels-requires : goal.levels-requires
levels-requires c =
    let l = c.args.l in
    let few : too_many_lem (larger l.width l.height) (l.levels - 1) ≡ false =
    sym (c.too_many.ensures ∙ ap₂ too_many_lem (c.max.ensures ∙ largest _ _) c.saturating_sub.ensures) ∙ c.if-too_many.false in
    sound l.width l.height l.levels (rw c.sized-pic.ensures at (sym c.too_large.ensures ∙ c.if-too_large.false)) few
