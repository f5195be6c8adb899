-- What document 01 claims of the block readers, over the promise that they share: those of the formats, the alpha half, the
-- single channels, and M-106's alpha half into a channel.
-- Assumes nothing.
use mathlib.Core.Path.{◌≡◌, ◌∙◌, sym, ap}
use mathlib.Core.Bool.{Bool}
use mathlib.Core.List.{List, [], ◌∷◌}
use Prim.Native.Nat.{ℕ, ◌+◌, ◌-◌, ◌*◌, ◌/◌, ◌%◌, ◌<◌, ◌≤◌, min}
use native.Mathlib.Omega.{arith}
use native.Mathlib.Nat.{zero-mul, one-mul}
use borrow.Author.Tests.{le-ltb}
use lib.Dec.{T, ltb, ltb→lt}
use lib.ListN.{length, get_or, take, drop, length-take}
use Rattle.rules.specs.Pixel.{Shows}
use Rattle.rules.specs.Places.{sized, needed, bytes_of, pixel_at}
use Rattle.rules.specs.Answers.{Check, refusal, image_check, channel_check, block_checks, judged, verdict, Outcome}
use Rattle.rules.specs.Channels.{with_alpha, alpha_byte, eac_byte, or_channel}
use Rattle.rules.specs.Desktop.{bc3_alpha, replaced}
use Rattle.rules.specs.Formats.{size_of, shows_of}
use Rattle.rules.specs.Readers.{block_verdict, block_painted, ReadsPicture, ReadsBlock, ReadsAlpha, ReadsChannel, ReplacesChannel}
use Rattle.rules.specs.Answers.{Answer}
use Rattle.rules.specs.declared.Format.{Format}
use Rattle.blocks.proofs.Alone.{small}
use Rattle.laws.proofs.Paint.{painted_same}
use Rattle.pixel.proofs.place.Plain.{painted_plain}
use Rattle.laws.proofs.Reach.{reads_its_block, alpha_reads_eight, channel_reads_eight, bc3_alpha_reads_eight, some_bytes}
use Rattle.claims.proofs.Outcomes.{Same, same_outcome, the_length_stays, the_rest_stays}
use Rattle.claims.proofs.Alike.{ends_alike}

-- "A block reader writes elements 0 to 15 only": the length stays, and so does every element from 16 on
pub record FirstSixteen (image new : List ℕ) : Type 0 where
  pub as_long : length new ≡ length image
  pub rest : (k : ℕ) → k < length image → 16 ≤ k → get_or new k 0 ≡ get_or image k 0

-- What tells one block reader from another: a rule for pixels that reads the bytes of one block and no others, how what it says of
-- pixel k joins the image, and what is checked before the lengths.
record Reader : Type 0 where
  rule : Shows
  size : ℕ
  some : 0 < size
  own : (d : List ℕ) (x y : ℕ) → rule d x y ≡ rule (take size d) x y
  join : List ℕ → ℕ → ℕ → ℕ
  before : List Check

-- the readers of the formats, of the alpha half, and of a channel
abbrev block : Format → Reader
block f =
    record {
      rule = shows_of f;
      size = size_of f;
      some = some_bytes f;
      own = reads_its_block f;
      join = λ image k v. v;
      before = [];
    }

abbrev alpha : Reader
alpha =
    record {
      rule = alpha_byte;
      size = 8;
      some = omega arith;
      own = alpha_reads_eight;
      join = λ image k v. with_alpha (get_or image k 0) v;
      before = [];
    }

abbrev joined : (ℕ → ℕ → ℕ → ℕ) → (gives : Shows) → ((d : List ℕ) (x y : ℕ) → gives d x y ≡ gives (take 8 d) x y) → ℕ → Reader
joined join gives own channel =
    record {
      rule = gives;
      size = 8;
      some = omega arith;
      own = own;
      join = λ image k v. join channel (get_or image k 0) v;
      before = channel_check channel ∷ [];
    }

abbrev single : Bool → ℕ → Reader
single signed channel = joined or_channel (eac_byte signed) (channel_reads_eight signed) channel

abbrev replacing : ℕ → Reader
replacing channel = joined replaced bc3_alpha bc3_alpha_reads_eight channel

-- the promise that all of them share
abbrev Reads : Reader → List ℕ → List ℕ → Answer → List ℕ → Type 0
Reads r d image a new =
    Outcome (judged r.before (block_verdict r.size d image))
    (block_painted (λ k. r.join image k (r.rule d (k % 4) (k / 4))) image)
    a
    image
    new

module _ (r : Reader) (d image : List ℕ) (a : Answer) (new : List ℕ) (p : Reads r d image a new) where
  sixteen : FirstSixteen image new
  sixteen =
      record {
        as_long = the_length_stays (λ k. ltb k 16) _ _ image new a p;
        rest = λ k h o. the_rest_stays (λ k. ltb k 16) _ _ image new a p k h (le-ltb k 16 o);
      }

  not_read : (e : List ℕ) (b : Answer) (new' : List ℕ) → take r.size d ≡ take r.size e → Reads r e image b new' → Same a b new new'
  not_read e b new' same q =
      let lengths : min r.size (length d - 0) ≡ min r.size (length e - 0) = omega (arith, simp length-take at (ap length same)) in
      let pixel : (x y : ℕ) → r.rule d x y ≡ r.rule e x y =
      λ x y. r.own d x y ∙ ap (λ (l : List ℕ). r.rule l x y) same ∙ sym (r.own e x y) in
      same_outcome _ _ _ _ image a b new new'
      (ap (λ (t : Bool). judged r.before (verdict (refusal 2 t ∷ image_check 16 (length image) ∷ [])))
      (ends_alike r.size 0 r.size (length d) (length e) r.some (omega arith) lengths))
      (painted_same (λ k. ltb k 16) _ _ image (λ k t. ap (r.join image k) (pixel (k % 4) (k / 4))))
      p
      q

-- For a user: of each block reader.
module _ (d image : List ℕ) (a : Answer) (new : List ℕ) where
  -- it writes elements 0 to 15 only
  pub a_block_reader_writes_sixteen : (f : Format) → ReadsBlock f d image a new → FirstSixteen image new
  a_block_reader_writes_sixteen f = sixteen (block f) d image a new

  pub the_alpha_reader_writes_sixteen : ReadsAlpha d image a new → FirstSixteen image new
  the_alpha_reader_writes_sixteen = sixteen alpha d image a new

  pub a_channel_reader_writes_sixteen : (signed : Bool) (channel : ℕ) → ReadsChannel signed d channel image a new → FirstSixteen image new
  a_channel_reader_writes_sixteen signed channel = sixteen (single signed channel) d image a new

  -- "ours stops after element 15" (M-106)
  pub the_replacing_reader_writes_sixteen : (channel : ℕ) → ReplacesChannel d channel image a new → FirstSixteen image new
  the_replacing_reader_writes_sixteen channel = sixteen (replacing channel) d image a new

  -- inputs that agree on the bytes of the block have one outcome
  module _ (e : List ℕ) (b : Answer) (new' : List ℕ) where
    pub bytes_behind_a_block_are_not_read : (f : Format) → take (size_of f) d ≡ take (size_of f) e → ReadsBlock f d image a new → ReadsBlock f e image b new' → Same a b new new'
    bytes_behind_a_block_are_not_read f same p = not_read (block f) d image a new p e b new' same

    pub bytes_behind_an_alpha_half_are_not_read : take 8 d ≡ take 8 e → ReadsAlpha d image a new → ReadsAlpha e image b new' → Same a b new new'
    bytes_behind_an_alpha_half_are_not_read same p = not_read alpha d image a new p e b new' same

    module _ (signed : Bool) (channel : ℕ) where
      pub bytes_behind_a_channel_are_not_read : take 8 d ≡ take 8 e → ReadsChannel signed d channel image a new → ReadsChannel signed e channel image b new' → Same a b new new'
      bytes_behind_a_channel_are_not_read same p = not_read (single signed channel) d image a new p e b new' same

    pub bytes_behind_a_replacing_half_are_not_read : (channel : ℕ) → take 8 d ≡ take 8 e → ReplacesChannel d channel image a new → ReplacesChannel e channel image b new' → Same a b new new'
    bytes_behind_a_replacing_half_are_not_read channel same p = not_read (replacing channel) d image a new p e b new' same

-- a block reader is the picture reader of its format at 4 by 4: one answer and one image, for all bytes and every image
module _ (f : Format) (d image : List ℕ) (a b : Answer) (new new' : List ℕ) where
  pixel : (k : ℕ) → T (ltb k 16) → shows_of f d (k % 4) (k / 4) ≡ pixel_at (shows_of f) (size_of f) (sized 4 4) d k
  pixel k t =
      let n = small k (ltb→lt k 16 t) in
      reads_its_block f d (k % 4) (k / 4)
      ∙ ap (λ (m : ℕ). shows_of f (take (size_of f) (drop m d)) (k % 4) (k / 4)) (sym (zero-mul (size_of f)))
      ∙ ap (λ (m : ℕ). shows_of f (bytes_of (size_of f) d m) (k % 4) (k / 4)) (sym n.0)
      ∙ ap (λ (x : ℕ). shows_of f (bytes_of (size_of f) d (k / 4 / 4 * 1 + k % 4 / 4)) x (k / 4)) (sym n.1)
      ∙ ap (λ (y : ℕ). shows_of f (bytes_of (size_of f) d (k / 4 / 4 * 1 + k % 4 / 4)) (k % 4 % 4) y) (sym n.2)

  pub a_block_is_a_picture_of_4_by_4 : ReadsBlock f d image a new → ReadsPicture f d (sized 4 4) image b new' → Same a b new new'
  unfolding needed
  a_block_is_a_picture_of_4_by_4 =
      same_outcome _ _ _ _ image a b new new'
      (ap (λ (bytes : ℕ). verdict (block_checks bytes (length d) (length image))) (sym (one-mul (size_of f))))
      (painted_same (λ k. ltb k 16) _ (pixel_at (shows_of f) (size_of f) (sized 4 4) d) image pixel ∙ sym (painted_plain 4 4 (pixel_at (shows_of f) (size_of f) (sized 4 4) d) image))
