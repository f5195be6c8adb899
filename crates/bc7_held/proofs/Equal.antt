-- At the first bit of a block's bytes a bit reader finds what the fast reader shows.
-- Assumes nothing.
use mathlib.Core.Path.{◌≡◌, ◌∙◌, ap}
use mathlib.Core.Bool.{Bool, false}
use mathlib.Core.List.{List}
use Prim.Native.Nat.{ℕ, ◌+◌, ◌*◌, ◌≤◌}
use native.Mathlib.Omega.{arith}
use lib.ListN.{length}
use borrow.Author.Tests.{le-ltb}
use Rattle.rules.specs.Bits.{lacks, field_at}
use Rattle.rules.specs.Places.{tile}
use Rattle.rules.specs.Bc7.{pixel_of, block_word, bc7_pixel}
use Rattle.std.specs.Prelude.{Ok}
use Rattle.laws.proofs.Filled.{build_same}
use Rattle.laws.proofs.Number.{Bytes, first_bytes}
use Rattle.bc.proofs.bc1.Shown.{by_row}
use Rattle.bc7_held.specs.Sixteen.{sixteen_of, block_from_lem}

pub present : (d : List ℕ) (p : ℕ) → p + 128 ≤ length d * 8 → p + 128 ≤ 18446744073709551615 → lacks d p 128 ≡ false
present d p h i = rw (le-ltb (length d * 8) (p + 128) h, le-ltb 18446744073709551615 (p + 128) i)

shown : (d : List ℕ) → sixteen_of false (block_word d) ≡ Ok (tile bc7_pixel d)
unfolding bc7_pixel
shown d =
    ap (λ (l : List ℕ). Ok l) (build_same 0 (pixel_of (block_word d)) _ 16 (λ k h. ap (pixel_of (block_word d)) (by_row k)))

pub same_as_fast : (d : List ℕ) → Bytes d → 16 ≤ length d → block_from_lem d 0 ≡ Ok (tile bc7_pixel d)
same_as_fast d b h =
    ap (λ (t : Bool). sixteen_of t (field_at d 0 128)) (present d 0 (omega arith) (omega arith))
    ∙ ap (sixteen_of false) (first_bytes 16 d b h)
    ∙ shown d
