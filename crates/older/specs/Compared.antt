-- What a comparison of the places of one block comes to, and the counts of the blocks before one.
-- Assumes nothing.
use Rattle.std.specs.Prelude.{Bool, cond, ◌&&◌, List, ◌≡◌, ℕ, suc, ◌+◌, ◌*◌, ◌/◌, ◌%◌, ◌≤◌, max, ltb}
use Rattle.rules.specs.Answers.{first_of}
use Rattle.rules.specs.Census.{more, count_of}
use Rattle.rules.specs.Counting.{most_of}
use Rattle.rules.specs.Guards.{Guard}
use Rattle.rules.specs.declared.Picture.{Picture}
use Rattle.rules.specs.Older.{older_at, newer_at, in_picture, wrong, colour_off_lem, alpha_off_lem}
use Rattle.rules.specs.Older.{wrong_pixels, wrong_blocks, first_block_lem, first_place, most_colour, most_alpha}
use Rattle.older.specs.declared.Found.{Found}
use Rattle.rules.specs.declared.OlderCounts.{OlderCounts}

-- the first n places compared
pub record Compared (shown : ℕ → Bool) (old new : ℕ → ℕ) (n pixels colour alpha : ℕ) : Type 0 where
  pub few : pixels ≤ n
  pub counted : pixels ≡ count_of (wrong shown old new) n
  pub farthest : colour ≡ most_of (colour_off_lem shown old new) n
  pub clearest : alpha ≡ most_of (alpha_off_lem shown old new) n

-- a block's sixteen places; and so of block n of a picture
pub record Finds (shown : ℕ → Bool) (old new : ℕ → ℕ) (f : Found) : Type 0 where
  pub all : Compared shown old new 16 f.pixels f.colour f.alpha
  pub first : f.place ≡ first_of (wrong shown old new) 16

abbrev pub FindsIn : Guard → Picture → List ℕ → ℕ → Found → Type 0
FindsIn g p d n f = Finds (in_picture p n) (older_at g d n) (newer_at g d n) f

-- as many columns and rows as are left of the picture
abbrev pub clipped : ℕ → ℕ → ℕ → Bool
clipped columns rows k = ltb (k % 4) columns && ltb (k / 4) rows

-- the counts of the first n blocks
pub record Counted (g : Guard) (p : Picture) (d : List ℕ) (n : ℕ) (c : OlderCounts) : Type 0 where
  pub few : c.pixels ≤ n * 16
  pub fewer : c.blocks ≤ n
  pub pixels : c.pixels ≡ wrong_pixels g p d n
  pub blocks : c.blocks ≡ wrong_blocks g p d n
  pub block : c.block ≡ first_block_lem g p d n
  pub place : c.place ≡ first_place g p d n
  pub colour : c.colour ≡ most_colour g p d n
  pub alpha : c.alpha ≡ most_alpha g p d n

-- and what one more block, of number n, makes of them
pub record Joined (c : OlderCounts) (n : ℕ) (f : Found) (r : OlderCounts) : Type 0 where
  pub pixels : r.pixels ≡ c.pixels + f.pixels
  pub blocks : r.blocks ≡ more (ltb f.place 16) c.blocks
  pub block : r.block ≡ cond (ltb c.block n) c.block (cond (ltb f.place 16) n (suc n))
  pub place : r.place ≡ cond (ltb c.block n) c.place f.place
  pub colour : r.colour ≡ max f.colour c.colour
  pub alpha : r.alpha ≡ max f.alpha c.alpha
