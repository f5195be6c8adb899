-- Blocks beside each other, painted one after another: what every format's loop keeps.
-- Assumes nothing.
use mathlib.Core.Path.{◌≡◌, ◌∙◌, refl, sym, ap, subst}
use mathlib.Core.List.{List}
use Prim.Native.Nat.{ℕ, ◌+◌, ◌-◌, ◌*◌, ◌<◌, ◌≤◌}
use native.Mathlib.Omega.{arith}
use native.Mathlib.Nat.{add-mul}
use lib.ListN.{get_or, take, drop}
use lib.Seq.{drop-drop}
use Rattle.rules.specs.Pixel.{Shows}
use Rattle.rules.specs.Places.{across, bytes_of, bytes_from, tile, pixel_by}
use Rattle.rules.specs.declared.Picture.{Picture}
use Rattle.laws.specs.Painted.{Painted}
use Rattle.laws.proofs.Paint.{none}
use Rattle.laws.proofs.Parts.{part}
use Rattle.pixel.specs.place.Tile.{InTile, number_in}
use Rattle.blocks.specs.Run.{InRun, Stands, numbered, PaintsRow}
use Rattle.blocks.proofs.Blocks.{next, start as first}
use Rattle.blocks.proofs.Runs.{two_runs, other_bytes}

module _ (shows : Shows) (s : ℕ) (d : List ℕ) (pic : Picture) (bx by n : ℕ) where
  -- what holds before turn i of n: so many blocks have been painted, over old
  abbrev pub Turned : List ℕ → List ℕ → ℕ → Type 0
  Turned old new i = (i ≤ n) × PaintsRow shows s d pic bx by i old new

  pub start : (l : List ℕ) → Turned l l 0
  start l = (omega arith, none _ _ l (λ k z. omega (arith, z.from, z.to)))

  -- one turn: t are the pixels of block i of the data
  pub turn : (i : ℕ) (t old mid new : List ℕ) → i < n → (bx + n) * 4 ≤ pic.width → Turned old mid i
      → t ≡ tile shows (take (i * s + s - i * s) (drop (i * s) d))
      → Painted (InTile pic (bx + i) by) (λ k. get_or t (number_in pic k) 0) mid new
      → Turned old new (i + 1)
  turn i t old mid new h w a e p =
      let b = numbered pic bx by in
      let same : b + i - b ≡ i = omega arith in
      let st : Stands (across pic.width) (b + i) (bx + i) by = record { short = omega arith; counted = omega arith } in (
        omega arith,
        subst (λ (m : ℕ). Painted (InRun pic b m) (pixel_by shows (bytes_from s b d) pic) old new) (omega arith)
            (next pic shows (bytes_from s b d) b (b + i) (bx + i) by t old mid new (omega arith) st a.1
            (e ∙ ap (tile shows) (part s i d ∙ sym (ap (bytes_of s d) same)))
            p),
      )

  -- after the last
  pub ended : (i : ℕ) (old new : List ℕ) → n ≤ i → Turned old new i → PaintsRow shows s d pic bx by n old new
  ended i old new h a =
      let e : i ≡ n = omega (arith, a.0) in
      subst (λ (m : ℕ). PaintsRow shows s d pic bx by m old new) e a.1

  -- a block that is painted by itself
  pub one : (t old new : List ℕ) → bx < across pic.width → t ≡ tile shows (bytes_of s d 0)
      → Painted (InTile pic bx by) (λ k. get_or t (number_in pic k) 0) old new
      → PaintsRow shows s d pic bx by 1 old new
  one t old new h e p =
      let b = numbered pic bx by in
      let none_before : b - b ≡ 0 = omega arith in
      next pic shows (bytes_from s b d) b b bx by t old old new (omega arith) (record { short = h; counted = refl })
      (first pic shows (bytes_from s b d) b old)
      (e ∙ sym (ap (λ (m : ℕ). tile shows (bytes_of s d m)) none_before))
      p

-- Blocks of a row after a run, from data that begins behind it
module _ (shows : Shows) (s : ℕ) (d : List ℕ) (pic : Picture) where
  -- block m of a part that begins with block b is block m of the whole, which begins with block first
  behind : (first b m : ℕ) (l : List ℕ) → first ≤ b → b ≤ m → l ≡ drop ((b - first) * s) d → bytes_from s b l m ≡ bytes_from s first d m
  behind first b m l h i e =
      let q : (b - first) * s + (m - b) * s ≡ (m - first) * s =
      sym (add-mul (b - first) (m - b) s) ∙ ap (λ (z : ℕ). z * s) (omega arith)
      in
      ap (λ (z : List ℕ). bytes_of s z (m - b)) e
      ∙ ap (take s) (drop-drop ((m - b) * s) ((b - first) * s) d)
      ∙ ap (λ (z : ℕ). take s (drop z d)) q

  pub go_on : (first b bx by n : ℕ) (l old mid new : List ℕ)
      → first ≤ b
      → Stands (across pic.width) b bx by
      → l ≡ drop ((b - first) * s) d
      → Painted (InRun pic first b) (pixel_by shows (bytes_from s first d) pic) old mid
      → PaintsRow shows s l pic bx by n mid new
      → Painted (InRun pic first (b + n)) (pixel_by shows (bytes_from s first d) pic) old new
  go_on first b bx by n l old mid new h st e a p =
      two_runs pic first b (b + n) (pixel_by shows (bytes_from s first d) pic) old mid new h (omega arith) a
      (other_bytes pic shows b (b + n) (bytes_from s b l) (bytes_from s first d) mid new (λ m i j. behind first b m l h i e)
      (subst (λ (m : ℕ). Painted (InRun pic m (m + n)) (pixel_by shows (bytes_from s m l) pic) mid new) st.counted p))

-- what is left of the bytes behind a blocks, of a + b
pub left_over : (s a b m : ℕ) → (a + b) * s ≤ m → b * s ≤ m - a * s
left_over s a b m h = omega (arith, add-mul a b s)
