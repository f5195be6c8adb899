-- The rows of the two checks without an image: what they say of some blocks, and of so many bytes of 00. Answers are worked out by hand:
-- 1, 2 and, of strict ETC1, 6, in that order, and then the first bad block.
-- Assumes nothing.
use mathlib.Core.Bool.{Bool, ◌&&◌}
use mathlib.Core.List.{List, [], ◌∷◌}
use mathlib.Core.Path.{◌≡◌}
use Prim.Native.Nat.{ℕ}
use lib.Dec.{T}
use lib.ListN.{replicate}
use Rattle.rules.specs.Places.{sized}
use Rattle.rules.specs.Answers.{Answer, said, first_of}
use Rattle.rules.specs.Colour.{out_of_range_lem}
use Rattle.rules.specs.Formats.{size_of}
use Rattle.rules.specs.Readers.{strict_check, opaque_check, ChecksStrict, ChecksOpaque}
use Rattle.rules.specs.declared.Picture.{Picture}
use Rattle.rules.proofs.Rows.{same, bytes as eights}

-- what is promised
strict_no_less : (d : List ℕ) (p : Picture) (a : Answer) → ChecksStrict d p a → said a ≡ strict_check p d
strict_no_less d p a o = o

opaque_no_less : (d : List ℕ) (p : Picture) (a : Answer) → ChecksOpaque d p a → said a ≡ opaque_check p d
opaque_no_less d p a o = o

-- the size, the bytes, and what each of the two says
says : ℕ → ℕ → List ℕ → List ℕ → List ℕ → Bool
says w h d strict opaque = same (strict_check (sized w h) d) strict && same (opaque_check (sized w h) d) opaque

zeros : ℕ → List ℕ
zeros n = replicate n 0

specimens : Bool
specimens =
    -- S2, T: out of range, and its bit set; then a block of 00, in range, and its bit clear
    says 4 4 (eights (0x0400000200000000 ∷ [])) (4 ∷ 0 ∷ []) (0 ∷ [])
    && says 4 4 (zeros 8) (0 ∷ []) (11 ∷ 0 ∷ [])
    -- the first of two, and the last; what follows the blocks is too much for strict ETC1, and is ignored otherwise
    && says 13 1 (eights (0xF800000200000000 ∷ 0x0400000200000000 ∷ 0 ∷ 0x0004000200000000 ∷ [])) (4 ∷ 1 ∷ []) (11 ∷ 2 ∷ [])
    && says 4 9 (eights (0xF800000200000000 ∷ 0xF800000200000000 ∷ 0x000004020000003F ∷ [])) (4 ∷ 2 ∷ []) (0 ∷ [])
    && says 4 4 (eights (0xF800000200000000 ∷ 0 ∷ [])) (6 ∷ []) (0 ∷ [])
    -- 1 before 2, 2 before a block, 6 before a block; sides of 0
    && says 65537 9 (zeros 8) (1 ∷ []) (1 ∷ [])
    && says 5 65537 (zeros 48) (1 ∷ []) (1 ∷ [])
    && says 5 9 (zeros 47) (2 ∷ []) (2 ∷ [])
    && says 5 9 (zeros 48) (0 ∷ []) (11 ∷ 0 ∷ [])
    && says 5 9 (zeros 49) (6 ∷ []) (11 ∷ 0 ∷ [])
    && says 65536 0 [] (0 ∷ []) (0 ∷ [])
    && says 0 5 (zeros 1) (6 ∷ []) (0 ∷ [])

hold : T specimens
unfolding says zeros specimens first_of out_of_range_lem size_of
hold = tt
