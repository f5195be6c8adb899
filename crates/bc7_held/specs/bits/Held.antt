-- A bit reader after a read.
-- Assumes nothing.
use Rattle.std.specs.Prelude.{Option, ◌≡◌, ℕ}
use Rattle.rules.specs.Bits.{bits_said, read_verdict, place_after_lem}
use Rattle.bc7_held.specs.declared.bits.BitReader.{BitReader}

-- the same bytes, and the place past n bits, or kept where the read is refused
abbrev pub read_on : BitReader → ℕ → BitReader
read_on r n = record { src = r.src; place = place_after_lem r.src.now r.place n }

-- a read of n bits by the reader r answers b and leaves the reader q
abbrev pub ReadsBits : BitReader → ℕ → Option ℕ → BitReader → Type 0
ReadsBits r n b q = (bits_said b ≡ read_verdict r.src.now r.place n) × (q ≡ read_on r n)
