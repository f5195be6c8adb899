-- A partition in one number: the subset of each pixel, two bits each, and a bit for each anchor above them.
-- Assumes nothing.
use Rattle.std.specs.Prelude.{ℕ, zero, suc, ◌+◌, ◌*◌, ◌^◌}
use Rattle.rules.specs.Bptc.{subset}
use Rattle.rules.specs.Bc7.{is_anchor}

-- f 0, f 1, .. f (n - 1), of b bits each, the first lowest
unfoldable pub packed : (ℕ → ℕ) → ℕ → ℕ → ℕ
packed f b zero = 0
packed f b (suc n) = packed f b n + f n * 2 ^ (n * b)

unfoldable pub layout_of : ℕ → ℕ → ℕ
layout_of n p = packed (subset n p) 2 16 + packed (is_anchor n p) 1 16 * 4294967296
