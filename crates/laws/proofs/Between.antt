-- What lies between two bytes is a byte: the alphas of BC3, and the values of BC4 and BC5.
-- Assumes nothing.
use mathlib.Core.Bool.{Bool, true, false}
use mathlib.Core.List.{List, [], ◌∷◌}
use Prim.Native.Nat.{ℕ, zero, suc, ◌≤◌, ◌<◌}
use native.Mathlib.Omega.{arith}
use lib.Dec.{lit<, ltb}
use lib.IntN.{pos, ◌+ℤ◌}
use lib.ListN.{get_or}
use Rattle.rules.specs.Notation.{bits}
use Rattle.rules.specs.Channels.{signed_base}
use Rattle.rules.specs.Desktop.{eight_up_to, alphas_in_lem}
use Rattle.rules.specs.Rgtc.{greatest, endpoint, values_in_lem}
use Rattle.laws.proofs.Signed.{clamp_le}

-- every element is a byte
record Bytes (d : List ℕ) : Type 0 where
  at : (k : ℕ) → get_or d k 0 < 256

none : Bytes []
none = record { at = λ k. lit< tt }

also : (x : ℕ) (l : List ℕ) → x < 256 → Bytes l → (k : ℕ) → get_or (x ∷ l) k 0 < 256
also x l p q zero = p
also x l p q (suc k) = q.at k

more : {x : ℕ} {l : List ℕ} → x < 256 → Bytes l → Bytes (x ∷ l)
more {x = x} {l = l} p q = record { at = also x l p q }

small : (t : ℕ) (f : Bool) (a b : ℕ) → t < 256 → a < 256 → b < 256 → Bytes (eight_up_to t f a b)
small t true a b l p q =
    more p (more q (more (omega arith) (more (omega arith) (more (omega arith) (more (omega arith) (more (omega arith) (more (omega arith) none)))))))
small t false a b l p q =
    more p (more q (more (omega arith) (more (omega arith) (more (omega arith) (more (omega arith) (more (omega arith) (more l none)))))))

top : (s : Bool) → greatest s < 256
top true = lit< tt
top false = lit< tt

-- the signed values end at 254
pub endpoint_le : (b : ℕ) → endpoint true b ≤ 254
endpoint_le b = clamp_le 254 (signed_base b +ℤ pos 127)

end : (s : Bool) (b : ℕ) → b < 256 → endpoint s b < 256
end true b h = omega (arith, endpoint_le b)
end false b h = h

pub values_small : (s : Bool) (w k : ℕ) → get_or (values_in_lem s w) k 0 < 256
values_small s w k =
    let a = endpoint s (bits 7 0 w) in
    let b = endpoint s (bits 15 8 w) in
    (small (greatest s) (ltb b a) a b (top s) (end s (bits 7 0 w) (omega arith)) (end s (bits 15 8 w) (omega arith))).at k

pub alphas_small : (w k : ℕ) → get_or (alphas_in_lem w) k 0 < 256
alphas_small w k = values_small false w k
