-- Inputs that agree on the blocks of a picture, or on all but one of them, for any rule for pixels and any size of block.
-- Assumes nothing.
use mathlib.Core.Path.{◌≡◌, ◌∙◌, refl, sym, ap}
use mathlib.Core.Bool.{Bool, true, false, cond, ◌&&◌, true≢false}
use mathlib.Core.List.{List, [], ◌∷◌, ◌++◌}
use Prim.Native.Nat.{ℕ, zero, suc, ◌+◌, ◌-◌, ◌*◌, ◌%◌, ◌<◌, ◌≤◌, min}
use native.Mathlib.Omega.{arith}
use native.Mathlib.Nat.{zero-mul, suc-mul}
use native.Mathlib.Decide.{dec_lt}
use borrow.Author.Tests.{lt-ltb, le-ltb, eq-eqb}
use lib.Dec.{T, ltb, eqb}
use lib.ListN.{length, get_or, take, drop, length-take, length-drop}
use lib.Seq.{take-append-le, drop-append-le}
use Rattle.rules.specs.Pixel.{Shows}
use Rattle.rules.specs.Places.{inside, in_tile, needed, blocks, block_at, bytes_of, column, row, pixel_at, painted, picture_by, Alike, Beside}
use Rattle.rules.specs.Answers.{refusal, limit_check, pitch_check, data_check, image_check, picture_checks, exact_checks, judged}
use Rattle.rules.specs.declared.Picture.{Picture}
use Rattle.laws.proofs.Paint.{length_painted, get_d_painted, painted_same}
use Rattle.blocks.proofs.Blocks.{block_in, room}

-- the picture of bytes d over an image
abbrev pub over : Shows → ℕ → Picture → List ℕ → List ℕ → List ℕ
over shows s pic image d = picture_by shows (bytes_of s d) pic image

-- ".. differ at most in that block's clipped tile." (demand 2): images that are the same outside the tile of block n, where element k
-- belongs to pixel `at k`: one element to a pixel, or several
pub record OnlyInTileBy (at : ℕ → ℕ) (pic : Picture) (n : ℕ) (new new' : List ℕ) : Type 0 where
  pub as_long : length new ≡ length new'
  pub outside : (k : ℕ) → k < length new → in_tile pic n (at k) ≡ false → get_or new k 0 ≡ get_or new' k 0

abbrev pub OnlyInTile : Picture → ℕ → List ℕ → List ℕ → Type 0
OnlyInTile pic n new new' = OnlyInTileBy (λ k. k) pic n new new'

-- two lists, of lengths m and n, that have as many bytes of a block of s bytes that stands at byte t and ends before byte u: both
-- have the whole block, or neither
pub ends_alike : (s t u m n : ℕ) → 0 < s → t + s ≡ u → min s (m - t) ≡ min s (n - t) → ltb m u ≡ ltb n u
ends_alike s t u m n p q e =
    elim (dec_lt m u) [
      | yes h ↦ lt-ltb m u h ∙ sym (lt-ltb n u (omega arith))
      | no h ↦ le-ltb m u (omega (arith, h)) ∙ sym (le-ltb n u (omega (arith, h)))
    ]

-- so of lists that agree on n blocks both have all bytes of them, or neither
pub enough_alike : (s : ℕ) (d e : List ℕ) → 0 < s → (n : ℕ) → ((m : ℕ) → m < n → bytes_of s d m ≡ bytes_of s e m) → ltb (length d) (n * s) ≡ ltb (length e) (n * s)
enough_alike s d e p zero h =
    le-ltb (length d) (0 * s) (omega (arith, zero-mul s)) ∙ sym (le-ltb (length e) (0 * s) (omega (arith, zero-mul s)))
enough_alike s d e p (suc n) h =
    ends_alike s (n * s) (suc n * s) (length d) (length e) p (sym (suc-mul n s))
    (simp (length-take, length-drop) at (ap length (h n (omega arith))))

module _ (s : ℕ) (pic : Picture) (d e : List ℕ) where
  -- a pixel goes by the bytes of its own block alone
  pixel : (shows : Shows) (k : ℕ) → bytes_of s d (block_at pic k) ≡ bytes_of s e (block_at pic k) → pixel_at shows s pic d k ≡ pixel_at shows s pic e k
  pixel shows k = ap (λ (l : List ℕ). shows l (column pic k % 4) (row pic k % 4))

  -- outside the tile of block n an element is no pixel of the picture, or one of another block
  pub beside_by : (at : ℕ → ℕ) (v w : ℕ → ℕ) (n : ℕ) → Beside s pic n d e
      → ((k : ℕ) → bytes_of s d (block_at pic (at k)) ≡ bytes_of s e (block_at pic (at k)) → v k ≡ w k)
      → (old : List ℕ)
      → OnlyInTileBy at pic n (painted (λ k. inside pic (at k)) v old) (painted (λ k. inside pic (at k)) w old)
  beside_by at v w n b same old =
      record {
        as_long = length_painted (λ k. inside pic (at k)) v old ∙ sym (length_painted (λ k. inside pic (at k)) w old);
        outside =
            λ k h out.
            let l : k < length old = omega (arith, length_painted (λ k. inside pic (at k)) v old) in
            get_d_painted (λ k. inside pic (at k)) v old k l
            ∙ choose (inside pic (at k)) (eqb (block_at pic (at k)) n) (v k) (w k) (get_or old k 0) out
            (λ i z. same k (b (block_at pic (at k)) (block_in pic (at k) i) (λ q. true≢false (sym (eq-eqb (block_at pic (at k)) n q) ∙ z))))
            ∙ sym (get_d_painted (λ k. inside pic (at k)) w old k l);
      }
    where
      choose : (t u : Bool) (v w o : ℕ) → (t && u) ≡ false → (T t → u ≡ false → v ≡ w) → cond t v o ≡ cond t w o
      choose true u v w o h e = e tt h
      choose false u v w o h e = refl

  pub beside_in_tile : (shows : Shows) (n : ℕ) → Beside s pic n d e → (old : List ℕ) → OnlyInTile pic n (over shows s pic old d) (over shows s pic old e)
  beside_in_tile shows n b old = beside_by (λ k. k) (pixel_at shows s pic d) (pixel_at shows s pic e) n b (pixel shows) old

  module _ (same : Alike s pic d e) where
    -- the whole picture, and what the checks say
    pub picture_alike : (shows : Shows) (old : List ℕ) → over shows s pic old d ≡ over shows s pic old e
    picture_alike shows old =
        painted_same (inside pic) (pixel_at shows s pic d) (pixel_at shows s pic e) old
        (λ k i. pixel shows k (same (block_at pic k) (block_in pic k i)))

    pub enough_either : 0 < s → ltb (length d) (blocks pic * s) ≡ ltb (length e) (blocks pic * s)
    enough_either p = enough_alike s d e p (blocks pic) same

    pub verdict_alike : 0 < s → (elements : ℕ) (then then' : List ℕ) → then ≡ then' → judged (picture_checks s pic (length d) elements) then ≡ judged (picture_checks s pic (length e) elements) then'
    verdict_alike p elements then then' q =
        ap (λ (t : Bool). judged (limit_check pic ∷ pitch_check pic ∷ refusal 2 t ∷ image_check (needed pic) elements ∷ []) then) (enough_either p)
        ∙ ap (judged (picture_checks s pic (length e) elements)) q

-- where nothing is left over, a reader that wants an exact length says what any other does
pub none_left : (s : ℕ) (pic : Picture) (bytes elements : ℕ) (then : List ℕ)
    → bytes ≤ blocks pic * s → judged (exact_checks s pic bytes elements) then ≡ judged (picture_checks s pic bytes elements) then
none_left s pic bytes elements then h =
    ap (λ (t : Bool). judged (limit_check pic ∷ pitch_check pic ∷ data_check (blocks pic * s) bytes ∷ refusal 6 t ∷ image_check (needed pic) elements ∷ []) then)
    (le-ltb (blocks pic * s) bytes h)

-- bytes put behind the last block change no block
pub behind : (s : ℕ) (pic : Picture) (d more : List ℕ) → blocks pic * s ≤ length d → Alike s pic d (d ++ more)
behind s pic d more h m l =
    let r : m * s + s ≤ length d = room s (blocks pic) m (length d) l h in
    sym (ap (take s) (drop-append-le (m * s) d more (omega arith))
    ∙ take-append-le s (drop (m * s) d) more (omega (arith, length-drop (m * s) d)))
