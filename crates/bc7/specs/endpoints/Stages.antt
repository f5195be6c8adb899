-- What each stage of reading a block has found, in the words of the definition.
-- Assumes nothing.
use Rattle.std.specs.Prelude.{◌≡◌, ℕ, ◌+◌, ◌*◌, ◌/◌, ◌^◌, ◌<◌, get_or}
use Rattle.rules.specs.Bc7.{rotation_place, selection_place, colour_place, index_place, colour_end, alpha_end}
use Rattle.rules.specs.Bits.{field}
use Rattle.rules.specs.declared.Mode.{Mode}
use Rattle.bc7.specs.rest.Whole.{whole}
use Rattle.bc7.specs.declared.endpoints.Front.{Front}
use Rattle.bc7.specs.declared.endpoints.Ends.{Ends}

-- the fields in front of the endpoints are read, of the block d of mode m
pub record Fronted (d m : ℕ) (k : Mode) (h : Front) : Type 0 where
  pub partition : h.partition ≡ field d (m + 1) k.partition
  pub rotation : h.rotation ≡ field d (rotation_place m k) k.rotation
  pub selection : h.selection ≡ field d (selection_place m k) k.selection
  pub rest : whole h.rest ≡ d / 2 ^ colour_place m k

-- the endpoints are read
pub record Ended (d m : ℕ) (k : Mode) (r : Ends) : Type 0 where
  pub red : (e : ℕ) → e < 2 * k.subsets → get_or r.red e 0 ≡ colour_end d m k 0 e
  pub green : (e : ℕ) → e < 2 * k.subsets → get_or r.green e 0 ≡ colour_end d m k 1 e
  pub blue : (e : ℕ) → e < 2 * k.subsets → get_or r.blue e 0 ≡ colour_end d m k 2 e
  pub alpha : (e : ℕ) → e < 2 * k.subsets → get_or r.alpha e 0 ≡ alpha_end d m k e
  pub rest : whole r.rest ≡ d / 2 ^ index_place m k
