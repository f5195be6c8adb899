-- What a bit reader finds of a block.
-- Assumes nothing.
use Rattle.std.specs.Prelude.{Result, Ok, Err, Bool, true, false, List, ℕ}
use Rattle.rules.specs.Notation.{build}
use Rattle.rules.specs.Bits.{lacks, field_at}
use Rattle.rules.specs.Bc7.{pixel_of}
use Rattle.rules.specs.declared.Refusal.{Refusal}
use Rattle.rules.specs.declared.Refusal.TheVariants.{ShortData}

-- the pixels of the 128 bits v, or refusal 2
abbrev pub sixteen_of : Bool → ℕ → Result (List ℕ) Refusal
sixteen_of true v = Err ShortData
sixteen_of false v = Ok (build 16 (pixel_of v))

abbrev pub block_from_lem : List ℕ → ℕ → Result (List ℕ) Refusal
block_from_lem d p = sixteen_of (lacks d p 128) (field_at d p 128)
