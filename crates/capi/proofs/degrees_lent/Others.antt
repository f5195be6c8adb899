-- A number that is no kind's is refused with 13: a level that is not a number is not sound.
-- Assumes nothing.
use mathlib.Core.Path.{◌≡◌}
use mathlib.Core.Bool.{false}
use Prim.Native.Nat.{ℕ, ◌<◌}
use native.Mathlib.Omega.{arith}
use borrow.Author.Tests.{ne_eqb}
use lib.Ieee.{Float}
use Rattle.rules.specs.Degrees.{sound}
use Rattle.capi.specs.degrees_lent.Lent.{legend_at_lem}

pub no_other_kind_is_sound : (kind : ℕ) (low step second : Float) → 2 < kind → sound (legend_at_lem kind low step second) ≡ false
no_other_kind_is_sound kind low step second h =
    rw (ne_eqb kind 0 (λ e. omega arith), ne_eqb kind 1 (λ e. omega arith), ne_eqb kind 2 (λ e. omega arith))
