-- `degrees::read_degrees` meets its contract: each way out is that of the first check that fails, or the reading.
use mathlib.Core.Path.{◌≡◌, sym, ◌∙◌, subst}
use mathlib.Core.Bool.{true}
use lib.Dec.{T}
use lib.Ieee.{binary32, fits}
use Rattle.rules.specs.Degrees.{in_degrees_lem, sound, one_digit_lem}
use Rattle.degrees.proofs.Checks.{reads}
use Rattle.degrees.proofs.read_degrees.Goals as goal

pub returns : goal.returns
returns c =
    let good-legend : sound c.args.legend ≡ true = sym c.sound-good_legend.ensures ∙ c.if-not-good_legend.false in
    let good-digit : one_digit_lem c.args.named c.args.shown ≡ true = sym c.one_digit-good_digit.ensures ∙ c.if-not-good_digit.false in
    let good-measurement : in_degrees_lem c.args.measured ≡ true = sym c.in_degrees-good_measurement.ensures ∙ c.if-not-good_measurement.false in
    let single : T (fits binary32 c.args.measured) = subst T (sym c.well_formed.1.1.1.1.0.1) tt in
    let a = c.args in
    reads a.legend a.named a.shown a.pixel a.measured good-legend good-digit good-measurement
    (sym c.unseen-not_seen.ensures ∙ c.if-not_seen.false)
    single
    c.predicted-p.result
    (subst T (sym c.predicted-p.type_inv) tt)
    (rw c.to_be_bytes.ensures at c.predicted-p.ensures)
