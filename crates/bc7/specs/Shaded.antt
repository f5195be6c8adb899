-- A pixel out of the endpoints that were read, in the words of the definition.
-- Assumes nothing.
use Rattle.std.specs.Prelude.{List, ℕ, ◌+◌, ◌*◌, get_or}
use Rattle.rules.specs.Bc7.{blend, rotated}
use Rattle.bc7.specs.declared.endpoints.Ends.{Ends}

-- a pixel out of the endpoints of four channels, by the subset s, a weight of colour and one of alpha
abbrev pub between : List ℕ → ℕ → ℕ → ℕ
between l s w = blend (get_or l (2 * s) 0) (get_or l (2 * s + 1) 0) w

abbrev pub shaded : ℕ → Ends → ℕ → ℕ → ℕ → ℕ
shaded t e s c a = rotated t (between e.alpha s a) (between e.red s c) (between e.green s c) (between e.blue s c)
