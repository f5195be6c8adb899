-- No second outcome satisfies what a caller from C is told of degrees: the number and the three values are fixed.
-- Assumes nothing.
use mathlib.Core.Path.{◌≡◌, ◌∙◌, sym, ap}
use Prim.Native.Nat.{ℕ}
use lib.ListN.{get_or}
use lib.Ieee.{Float}
use Rattle.rules.specs.Degrees.{degrees_said}
use Rattle.rules.specs.declared.Legend.{Legend}
use Rattle.rules.specs.declared.Reading.{Reading}
use Rattle.rules.specs.declared.NoReading.{NoReading}
use Rattle.std.specs.Prelude.{Result}
use Rattle.degrees.proofs.floats.Unique.{one_reply}
use Rattle.capi.specs.degrees_lent.Lent.{value_or, DegreesTold}

pub degrees :
    (legend : Legend) (named shown pixel : ℕ) (x p m d : Float) (n n' : ℕ) (p₁ m₁ d₁ p₂ m₂ d₂ : Float)
    → DegreesTold legend named shown pixel x p m d n p₁ m₁ d₁
    → DegreesTold legend named shown pixel x p m d n' p₂ m₂ d₂
    → (n ≡ n') × (p₁ ≡ p₂) × (m₁ ≡ m₂) × (d₁ ≡ d₂)
degrees legend named shown pixel x p m d n n' p₁ m₁ d₁ p₂ m₂ d₂ s t =
    let e = one_reply legend named shown pixel x s.reply t.reply s.reads t.reads in (
      s.says ∙ ap (λ (r : Result Reading NoReading). get_or (degrees_said r) 0 0) e ∙ sym t.says,
      s.the_predicted ∙ ap (λ (r : Result Reading NoReading). value_or (λ k. k.predicted) r p) e ∙ sym t.the_predicted,
      s.the_measured ∙ ap (λ (r : Result Reading NoReading). value_or (λ k. k.measured) r m) e ∙ sym t.the_measured,
      s.the_difference ∙ ap (λ (r : Result Reading NoReading). value_or (λ k. k.difference) r d) e ∙ sym t.the_difference,
    )
