-- `capi::yalivucu_census_etc2_rgb` meets its contract: a refusal writes nothing, and the counts are laid into the room.
use mathlib.Core.Path.{◌∙◌, sym, ap}
use Rattle.rules.specs.Places.{sized}
use Rattle.rules.specs.Census.{rgb_tests, rgb_said}
use Rattle.capi.proofs.Counted.{census_refused, census_lays}
use Rattle.capi.proofs.yalivucu_census_etc2_rgb.Goals as goal

-- Assumes nothing.

pub returns-in-Err : goal.returns-in-Err
returns-in-Err c =
    let a = c.args in
    census_refused rgb_tests a.«data».now (sized a.width a.height) a.counts.now
    _ _ (sym (ap rgb_said c.in-Err.is) ∙ c.census_etc2_rgb.ensures) c.refusal_number.ensures

pub returns-in-Ok : goal.returns-in-Ok
returns-in-Ok c =
    let a = c.args in
    census_lays rgb_tests a.«data».now (sized a.width a.height) a.counts.now
    _ (sym (ap rgb_said c.in-Ok.is) ∙ c.census_etc2_rgb.ensures) c.lay.result _ c.lay.ensures
