-- The first block of some bytes shows what the bytes show: no format reads behind its block.
-- Assumes nothing.
use mathlib.Core.Path.{◌≡◌, ◌∙◌, sym, ap}
use mathlib.Core.List.{List}
use Prim.Native.Nat.{ℕ, ◌/◌, ◌%◌}
use native.Mathlib.Nat.{zero-mul}
use lib.ListN.{take, drop}
use Rattle.rules.specs.Places.{tile, bytes_of}
use Rattle.rules.specs.Formats.{size_of, shows_of}
use Rattle.rules.specs.declared.Format.{Format}
use Rattle.laws.proofs.Filled.{build_same}
use Rattle.laws.proofs.Reach.{reads_its_block}

pub first_block : (f : Format) (d : List ℕ) → tile (shows_of f) (bytes_of (size_of f) d 0) ≡ tile (shows_of f) d
first_block f d =
    build_same 0 _ _ 16
    (λ k h. ap (λ (m : ℕ). shows_of f (take (size_of f) (drop m d)) (k % 4) (k / 4)) (zero-mul (size_of f)) ∙ sym (reads_its_block f d (k % 4) (k / 4)))
