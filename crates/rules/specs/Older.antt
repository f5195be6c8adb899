-- What an older viewer shows wrong, in numbers, over a pair of rules: a guard's own, the older one, and the one that is shown.
-- Assumes nothing.
use Rattle.std.specs.Prelude.{Bool, cond, not, ◌&&◌, List, [], ◌∷◌, ◌≡◌, ℕ, ◌+◌, ◌*◌, ◌/◌, ◌%◌, ltb, eqb, length, Result}
use Rattle.rules.specs.Pixel.{alpha_of}
use Rattle.rules.specs.Places.{across, blocks, bytes_of}
use Rattle.rules.specs.Answers.{judged, first_of, said_with}
use Rattle.rules.specs.Formats.{shows_of}
use Rattle.rules.specs.Guards.{Guard}
use Rattle.rules.specs.Census.{count_of, census_checks}
use Rattle.rules.specs.Counting.{sum_of, most_of}
use Rattle.rules.specs.Checking.{apart, farthest}
use Rattle.rules.specs.declared.Picture.{Picture}
use Rattle.rules.specs.declared.OlderCounts.{OlderCounts}
use Rattle.rules.specs.declared.Refusal.{Refusal}

-- "by block and place": a block has places 0 to 15, row by row. What the two rules show at place k of block n
abbrev pub older_at : Guard → List ℕ → ℕ → ℕ → ℕ
older_at g d n k = shows_of g.own (bytes_of 8 d n) (k % 4) (k / 4)

abbrev pub newer_at : Guard → List ℕ → ℕ → ℕ → ℕ
newer_at g d n k = shows_of g.shown (bytes_of 8 d n) (k % 4) (k / 4)

-- "clipped tiles counted only as far as they are shown"
abbrev pub in_picture : Picture → ℕ → ℕ → Bool
in_picture p n k = ltb (n % across p.width * 4 + k % 4) p.width && ltb (n / across p.width * 4 + k / 4) p.height

-- "the pixels of a picture that the two rules show differently": of pixels that are shown or not
abbrev pub wrong : (ℕ → Bool) → (ℕ → ℕ) → (ℕ → ℕ) → ℕ → Bool
wrong shown old new k = shown k && not (eqb (old k) (new k))

abbrev pub wrong_at : Guard → Picture → List ℕ → ℕ → ℕ → Bool
wrong_at g p d n = wrong (in_picture p n) (older_at g d n) (newer_at g d n)

-- a block that has one
abbrev pub has_wrong : Guard → Picture → List ℕ → ℕ → Bool
has_wrong g p d n = ltb (first_of (wrong_at g p d n) 16) 16

-- how far such a pixel's colour is off, and its alpha; any other is off by 0
abbrev pub colour_off_lem : (ℕ → Bool) → (ℕ → ℕ) → (ℕ → ℕ) → ℕ → ℕ
colour_off_lem shown old new k = cond (wrong shown old new k) (farthest (old k) (new k)) 0

abbrev pub alpha_off_lem : (ℕ → Bool) → (ℕ → ℕ) → (ℕ → ℕ) → ℕ → ℕ
alpha_off_lem shown old new k = cond (wrong shown old new k) (apart (alpha_of (old k)) (alpha_of (new k))) 0

-- Of the first n blocks: "how many pixels, how many blocks;
abbrev pub wrong_pixels : Guard → Picture → List ℕ → ℕ → ℕ
wrong_pixels g p d n = sum_of (λ b. count_of (wrong_at g p d b) 16) n

abbrev pub wrong_blocks : Guard → Picture → List ℕ → ℕ → ℕ
wrong_blocks g p d n = count_of (has_wrong g p d) n

-- the first such block and its first such pixel", or n and 16 where there is none;
abbrev pub first_block_lem : Guard → Picture → List ℕ → ℕ → ℕ
first_block_lem g p d n = first_of (has_wrong g p d) n

abbrev pub first_place : Guard → Picture → List ℕ → ℕ → ℕ
first_place g p d n = cond (ltb (first_block_lem g p d n) n) (first_of (wrong_at g p d (first_block_lem g p d n)) 16) 16

-- "the largest difference in any of red, green and blue, and in alpha"
abbrev pub most_colour : Guard → Picture → List ℕ → ℕ → ℕ
most_colour g p d n = most_of (λ b. most_of (colour_off_lem (in_picture p b) (older_at g d b) (newer_at g d b)) 16) n

abbrev pub most_alpha : Guard → Picture → List ℕ → ℕ → ℕ
most_alpha g p d n = most_of (λ b. most_of (alpha_off_lem (in_picture p b) (older_at g d b) (newer_at g d b)) 16) n

-- "answer those numbers, or refuse with 1 or 2 as the census does"
abbrev pub older_counts_lem : Guard → Picture → List ℕ → ℕ → List ℕ
older_counts_lem g p d n =
    wrong_pixels g p d n
    ∷ wrong_blocks g p d n
    ∷ first_block_lem g p d n
    ∷ first_place g p d n
    ∷ most_colour g p d n
    ∷ most_alpha g p d n
    ∷ []

abbrev pub older_verdict : Guard → List ℕ → Picture → List ℕ
older_verdict g d p = judged (census_checks p (length d)) (0 ∷ older_counts_lem g p d (blocks p))

abbrev pub older_values : OlderCounts → List ℕ
older_values c = c.pixels ∷ c.blocks ∷ c.block ∷ c.place ∷ c.colour ∷ c.alpha ∷ []

abbrev pub older_said : Result OlderCounts Refusal → List ℕ
older_said = said_with older_values

-- The promises: ETC1 for RGB, and RGB for RGBA1, of bytes d and a picture's description.
abbrev pub CountsOlder : Guard → List ℕ → Picture → Result OlderCounts Refusal → Type 0
CountsOlder g d p answer = older_said answer ≡ older_verdict g d p
