-- `capi::older_counts` meets its contract: a refusal writes nothing, and the counts are laid into the room.
use mathlib.Core.Path.{◌∙◌, refl, sym, ap}
use Rattle.rules.specs.Places.{sized, blocks}
use Rattle.guard.specs.Viewers.{guard_of}
use Rattle.rules.specs.Older.{older_counts_lem, older_said}
use Rattle.capi.proofs.Counted.{refused, lays}
use Rattle.capi.proofs.older_counts.Goals as goal

-- Assumes nothing.

pub returns-in-Err : goal.returns-in-Err
returns-in-Err c =
    let a = c.args in
    refused 6 (older_counts_lem (guard_of a.viewer) (sized a.width a.height) a.«data».now (blocks (sized a.width a.height)))
    a.«data».now (sized a.width a.height) a.counts.now
    _ _ (sym (ap older_said c.in-Err.is) ∙ (rw c.sized-pic.ensures at c.count.ensures)) c.refusal_number.ensures

pub returns-in-Ok : goal.returns-in-Ok
returns-in-Ok c =
    let a = c.args in
    lays 6 (older_counts_lem (guard_of a.viewer) (sized a.width a.height) a.«data».now (blocks (sized a.width a.height)))
    a.«data».now (sized a.width a.height) a.counts.now
    refl _ (sym (ap older_said c.in-Ok.is) ∙ (rw c.sized-pic.ensures at c.count.ensures)) c.lay.result _ c.lay.ensures
