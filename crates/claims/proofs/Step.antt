-- One theorem over a piece: where d was read, and e is taken, d ++ e is read.
-- Assumes nothing.
use mathlib.Core.Path.{◌≡◌, ◌∙◌, refl, sym, ap}
use mathlib.Core.Bool.{Bool, true, cond}
use mathlib.Core.List.{List, [], ◌∷◌, ◌++◌}
use Prim.Native.Nat.{ℕ, ◌+◌, ◌*◌, ◌/◌, ◌%◌, ◌≤◌, min}
use native.Mathlib.Omega.{arith}
use borrow.Author.Tests.{ltb-false}
use lib.ListN.{length, length-append}
use Rattle.rules.specs.Places.{needed, blocks, bytes_of, bytes_from, pixel_by, pixel_at, painted}
use Rattle.rules.specs.Answers.{said, accepts}
use Rattle.rules.specs.Formats.{size_of, shows_of}
use Rattle.rules.specs.declared.Format.{Format}
use Rattle.rules.specs.declared.Picture.{Picture}
use Rattle.laws.specs.Painted.{Painted}
use Rattle.laws.proofs.Paint.{length_painted}
use Rattle.laws.proofs.Judged.{passed}
use Rattle.laws.proofs.Reach.{some_bytes, few_bytes}
use Rattle.pixel.specs.place.Tile.{Room}
use Rattle.pixel.proofs.place.Grid.{roomy, kept}
use Rattle.blocks.specs.Run.{InRun}
use Rattle.rules.specs.declared.Progress.{Progress}
use Rattle.rules.specs.declared.Taken.{Taken}
use Rattle.rules.specs.Pieces.{got, held, later, completed, behind_last, after, padded, in_run, image_after, start_checks, piece_verdict, Takes}
use Rattle.rules.specs.Pieces.{used, wholes, state_of, so_far}
use Rattle.claims.proofs.Arrived.{old_block, new_block, new-kept}
use Rattle.pieces.proofs.kept.Numbers.{blocks_up}
use Rattle.blocks.proofs.Runs.{run_painted, two_runs, other_bytes, was_painted}

-- What a piece e that is taken makes of what was read.
pub record Stepped (f : Format) (pic : Picture) (d e image : List ℕ) (r : Taken) (new : List ℕ) : Type 0 where
  pub state : r.progress ≡ state_of f pic (d ++ e)
  pub leaves : new ≡ so_far f pic (d ++ e) image
  pub painted : wholes f pic d + r.painted ≡ wholes f pic (d ++ e)
  pub unused : used f pic (d ++ e) + r.unused ≡ used f pic d + length e

module _ (f : Format) (pic : Picture) (d e : List ℕ) where
  abbrev p : Progress
  p = state_of f pic d

  abbrev s : ℕ
  s = size_of f

  abbrev W : ℕ
  W = blocks pic * size_of f

  -- the numbers
  got_is : got p ≡ used f pic d
  got_is = omega arith

  later_is : later p e ≡ used f pic (d ++ e)
  later_is = omega (arith, length-append d e)

  up : got p / s ≤ later p e / s
  up = blocks_up s (blocks pic) (got p) (later p e) (some_bytes f) (omega arith) (omega arith)

  -- the bytes that are kept
  kept-is : p.kept ≡ padded d (got p / s * s) (got p % s)
  kept-is = ap (λ (x : ℕ). padded d (x / s * s) (x % s)) (sym got_is)

  after_is : after p e ≡ state_of f pic (d ++ e)
  after_is =
      ap (λ (x : List ℕ). make (later p e) x) (new-kept s W (got p) (later p e) d e p.kept (few_bytes f) (some_bytes f) (omega arith) refl kept-is up)
      ∙ ap (λ (x : ℕ). make x (padded (d ++ e) (x / s * s) (x % s))) later_is
    where
      make : ℕ → List ℕ → Progress
      make t k = record { format = f; picture = pic; taken = t; kept = k }

  -- the image
  image_is : (image new : List ℕ) → Room pic (length image) → new ≡ image_after p e (so_far f pic d image) → new ≡ so_far f pic (d ++ e) image
  image_is image new room q =
      let v = pixel_by (shows_of f) (bytes_of s (d ++ e)) pic in
      let mid = so_far f pic d image in
      let g : got p ≡ min (length d) W = omega arith in
      let a : Painted (InRun pic 0 (got p / s)) (pixel_at (shows_of f) s pic d) image mid =
      was_painted pic 0 (got p / s) (pixel_at (shows_of f) s pic d) image mid room (ap (λ (x : ℕ). painted (in_run pic 0 (x / s)) (pixel_at (shows_of f) s pic d) image) (sym got_is)) in
      let n : length mid ≡ length image = length_painted (in_run pic 0 (wholes f pic d)) (pixel_at (shows_of f) s pic d) image in
      let b = was_painted pic (got p / s) (later p e / s) (pixel_by (shows_of f) (bytes_from s (got p / s) (held p ++ e)) pic) mid new (kept pic _ _ room n) q in
      run_painted pic 0 (later p e / s) v image new
      (two_runs pic 0 (got p / s) (later p e / s) v image mid new (omega arith) up
      (other_bytes pic (shows_of f) 0 (got p / s) (bytes_of s d) (bytes_of s (d ++ e)) image mid
      (λ m i j. old_block s W (got p) (later p e) d e p.kept (few_bytes f) (some_bytes f) g refl kept-is m j) a)
      (other_bytes pic (shows_of f) (got p / s) (later p e / s) (bytes_from s (got p / s) (held p ++ e)) (bytes_of s (d ++ e)) mid new
      (λ m i j. new_block s W (got p) (later p e) d e p.kept (few_bytes f) (some_bytes f) g refl kept-is m i j) b))
      ∙ ap (λ (x : ℕ). painted (in_run pic 0 (x / s)) (pixel_at (shows_of f) s pic (d ++ e)) image) later_is

  -- where a piece is taken, the image has room
  room_in : (image : List ℕ) → accepts (piece_verdict p image) ≡ true → Room pic (length image)
  room_in image e =
      let n = length image in
      let k = passed (start_checks pic n) (0 ∷ []) tt e in
      roomy pic n (ltb-false pic.pitch pic.width k.rest.first) (ltb-false n (needed pic) k.rest.rest.first)

  pub step : (image new : List ℕ) (r : Taken) → Takes p e (so_far f pic d image) r new → accepts (said r.answer) ≡ true → Stepped f pic d e image r new
  step image new r t y =
      let mid = so_far f pic d image in
      let ok : accepts (piece_verdict p mid) ≡ true = sym (ap accepts t.says) ∙ y in
      let n : length mid ≡ length image = length_painted (in_run pic 0 (wholes f pic d)) (pixel_at (shows_of f) s pic d) image in
      let c : r.painted ≡ completed p e = t.painted ∙ ap (λ (b : Bool). cond b (completed p e) 0) ok in
      let u : r.unused ≡ behind_last p e = t.unused ∙ ap (λ (b : Bool). cond b (behind_last p e) (length e)) ok in
      let x : got p / s ≡ wholes f pic d = ap (λ (z : ℕ). z / s) got_is in
      let w : later p e / s ≡ wholes f pic (d ++ e) = ap (λ (z : ℕ). z / s) later_is in
      record {
        state = t.state ∙ ap (λ (b : Bool). cond b (after p e) p) ok ∙ after_is;
        leaves = image_is image new (kept pic _ _ (room_in mid ok) (sym n)) (t.leaves ∙ ap (λ (b : Bool). cond b (image_after p e mid) mid) ok);
        painted = omega (arith, up, x, w, c);
        unused = omega (arith, got_is, later_is, u);
      }
