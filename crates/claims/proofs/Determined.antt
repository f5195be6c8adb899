-- "A reader's statement determines the answer and every element of the lent image afterwards, for all inputs, refused ones
-- included. It is shown that no second outcome could satisfy it." Below: one lemma, applied to the promise of each reader.
-- Assumes nothing.
use mathlib.Core.Bool.{Bool}
use mathlib.Core.List.{List}
use Prim.Native.Nat.{ℕ}
use Rattle.rules.specs.Readers.{ReadsPicture, ReadsStrict, ReadsOpaque, ReadsBlock, ReadsAlpha, ReadsChannel, ReplacesChannel}
use Rattle.rules.specs.Answers.{Answer}
use Rattle.rules.specs.declared.Format.{Format}
use Rattle.rules.specs.declared.Picture.{Picture}
use Rattle.laws.proofs.Unique.{no_second_outcome}
use Rattle.claims.proofs.Outcomes.{Same}

module _ (d image : List ℕ) (a b : Answer) (new new' : List ℕ) where
  -- the picture readers of the formats
  pub picture_determined : (f : Format) (pic : Picture) → ReadsPicture f d pic image a new → ReadsPicture f d pic image b new' → Same a b new new'
  picture_determined f pic p q = no_second_outcome _ _ image a b new new' p q

  -- strict ETC1
  pub strict_determined : (pic : Picture) → ReadsStrict d pic image a new → ReadsStrict d pic image b new' → Same a b new new'
  strict_determined pic p q = no_second_outcome _ _ image a b new new' p q

  -- RGBA1 for an opaque-only viewer
  pub opaque_determined : (pic : Picture) → ReadsOpaque d pic image a new → ReadsOpaque d pic image b new' → Same a b new new'
  opaque_determined pic p q = no_second_outcome _ _ image a b new new' p q

  -- the block readers of the formats
  pub block_determined : (f : Format) → ReadsBlock f d image a new → ReadsBlock f d image b new' → Same a b new new'
  block_determined f p q = no_second_outcome _ _ image a b new new' p q

  -- the alpha half
  pub alpha_determined : ReadsAlpha d image a new → ReadsAlpha d image b new' → Same a b new new'
  alpha_determined p q = no_second_outcome _ _ image a b new new' p q

  -- a single channel, unsigned and signed
  pub channel_determined : (signed : Bool) (channel : ℕ) → ReadsChannel signed d channel image a new → ReadsChannel signed d channel image b new' → Same a b new new'
  channel_determined signed channel p q = no_second_outcome _ _ image a b new new' p q

  -- the alpha half of BC3 into a channel
  pub replaced_determined : (channel : ℕ) → ReplacesChannel d channel image a new → ReplacesChannel d channel image b new' → Same a b new new'
  replaced_determined channel p q = no_second_outcome _ _ image a b new new' p q
