-- Readers that look at every block before they paint one, and refuse where a block meets a test.
-- Assumes nothing.
use Rattle.std.specs.Prelude.{Bool, not, List, ℕ}
use Rattle.rules.specs.Places.{blocks, bytes_of}
use Rattle.rules.specs.Answers.{Check, judged, guarded}
use Rattle.rules.specs.Colour.{differs, out_of_range_lem}
use Rattle.rules.specs.Formats.{size_of}
use Rattle.rules.specs.declared.Format.{Format}
use Rattle.rules.specs.declared.Format.TheVariants.{Etc1, Etc2Rgb, Etc2Rgba1}
use Rattle.rules.specs.declared.Picture.{Picture}

-- A guard: the refusal's number, what a block must not be, the format whose own rule an older viewer has for its blocks, and the
-- format whose rule every accepted pixel follows.
pub record Guard : Type 0 where
  pub number : ℕ
  pub bad : List ℕ → Bool
  pub own : Format
  pub shown : Format

-- what is asked of block n of the bytes d
abbrev pub bad_at : Guard → List ℕ → ℕ → Bool
bad_at g d n = g.bad (bytes_of (size_of g.own) d n)

-- the checks, and then every block of the picture
abbrev pub guard_verdict : Guard → List Check → Picture → List ℕ → List ℕ
guard_verdict g checks p d = judged checks (guarded g.number (bad_at g d) (blocks p))

-- "the strict ETC1 reader .. refuses exactly when some block of the picture has its difference bit set and a .. base plus
-- signed step outside 0 to 31, and it names the first such block. Otherwise it accepts, and each pixel is the one that the Khronos
-- ETC2 RGB rule gives."
abbrev pub in_range : Guard
in_range = record { number = 4; bad = out_of_range_lem; own = Etc1; shown = Etc2Rgb }

-- "Old viewers know RGB but not RGBA1. Add a reader of RGBA1 that refuses with 11 exactly when some block has its opaque bit clear,
-- names the first one .. Where it accepts, every pixel equals the Khronos RGB reading and the RGBA1 reading of the same bytes." (M-109)
abbrev pub not_opaque : List ℕ → Bool
not_opaque d = not (differs d)

abbrev pub opaque_only : Guard
opaque_only = record { number = 11; bad = not_opaque; own = Etc2Rgb; shown = Etc2Rgba1 }
