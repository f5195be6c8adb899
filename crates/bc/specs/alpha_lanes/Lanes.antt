-- The eight alphas as lanes of vector code: alpha k is a formula of k in numbers of sixteen bits, the same for all.
-- Assumes nothing.
use Rattle.std.specs.Prelude.{cond, ℕ, ◌+◌, ◌*◌, ◌/◌, ◌%◌, eqb}
use Rattle.bc.specs.bc1.Lanes.{sum}

-- five times alpha k, where it is one of the fifths
abbrev pub fifths : ℕ → ℕ → ℕ → ℕ
fifths a b k =
    sum a b (cond (eqb k 0) 5 (cond (eqb k 2) 4 (cond (eqb k 3) 3 (cond (eqb k 4) 2 (cond (eqb k 5) 1 0)))))
    (cond (eqb k 1) 5 (cond (eqb k 2) 1 (cond (eqb k 3) 2 (cond (eqb k 4) 3 (cond (eqb k 5) 4 0)))))

-- what seven times alpha k has more than that, where it is one of the sevenths
abbrev pub more : ℕ → ℕ → ℕ → ℕ
more a b k =
    sum a b (cond (eqb k 1) 0 (cond (eqb k 7) 1 2)) (cond (eqb k 1) 2 (cond (eqb k 6) 5 (cond (eqb k 7) 6 0)))

-- c and d are a and b where sevenths are asked for, and else 0; m is a seventh or a fifth of 65,536; g is added to the last
unfoldable pub alpha_lane_lem : ℕ → ℕ → ℕ → ℕ → ℕ → ℕ → ℕ → ℕ
alpha_lane_lem a b c d m g k = ((fifths a b k + more c d k) % 65536 * m / 65536 + g * cond (eqb k 7) 1 0 % 65536) % 65536
