-- `capi::yalivucu_census_etc2_rgba1` meets its contract: a refusal writes nothing, and the counts are laid into the room.
use mathlib.Core.Path.{◌∙◌, sym, ap}
use Rattle.rules.specs.Places.{sized}
use Rattle.rules.specs.Census.{rgba1_tests, rgba1_said}
use Rattle.capi.proofs.Counted.{census_refused, census_lays}
use Rattle.capi.proofs.yalivucu_census_etc2_rgba1.Goals as goal

-- Assumes nothing.

pub returns-in-Err : goal.returns-in-Err
returns-in-Err c =
    let a = c.args in
    census_refused rgba1_tests a.«data».now (sized a.width a.height) a.counts.now
    _ _ (sym (ap rgba1_said c.in-Err.is) ∙ c.census_etc2_rgba1.ensures) c.refusal_number.ensures

pub returns-in-Ok : goal.returns-in-Ok
returns-in-Ok c =
    let a = c.args in
    census_lays rgba1_tests a.«data».now (sized a.width a.height) a.counts.now
    _ (sym (ap rgba1_said c.in-Ok.is) ∙ c.census_etc2_rgba1.ensures) c.lay.result _ c.lay.ensures
