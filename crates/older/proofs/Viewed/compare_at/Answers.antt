-- `older::Viewed::compare_at` meets its contract: both rules' pixels of the block, and as much of it as the picture shows.
use mathlib.Core.Path.{◌≡◌, ◌∙◌, sym, ap}
use mathlib.Core.List.{List}
use Prim.Native.Nat.{ℕ, ◌+◌, ◌*◌, ◌/◌, ◌%◌, ◌<◌, ◌≤◌}
use lib.ListN.{get_or}
use Rattle.rules.specs.Places.{blocks, tile, bytes_of}
use Rattle.rules.specs.Formats.{size_of, shows_of}
use Rattle.rules.specs.declared.Format.{Format}
use Rattle.laws.proofs.Filled.{get_or_build}
use Rattle.guard.specs.Viewers.{guard_of}
use Rattle.guard.specs.declared.Viewer.{Viewer}
use Rattle.guard.proofs.Scan.{eight, sound}
use Rattle.blocks.proofs.Blocks.{room}
use Rattle.rules.specs.Older.{older_at, newer_at, in_picture}
use Rattle.older.proofs.Turn.{alike}
use Rattle.older.proofs.Place as place
use Rattle.older.proofs.Viewed.compare_at.Goals as goal

-- Assumes nothing.

-- a block of eight bytes lies in the data
fits : (f : Format) (n b m : ℕ) → size_of f ≡ 8 → b < n → n * 8 ≤ m → b * size_of f + size_of f ≤ m
fits f n b m e h r = rw e (room 8 n b m h r)

-- the newer rule's blocks have eight bytes too
shown-eight : (viewer : Viewer) → size_of (guard_of viewer).shown ≡ 8
shown-eight viewer = sym (sound viewer).one_size ∙ eight viewer

-- a pixel of a tile is what the rule shows at its place
at_place : (f g : Format) (d t : List ℕ) (n k : ℕ) → f ≡ g → size_of g ≡ 8 → t ≡ tile (shows_of f) (bytes_of (size_of f) d n) → k < 16 → get_or t k 0 ≡ shows_of g (bytes_of 8 d n) (k % 4) (k / 4)
at_place f g d t n k e s h l =
    ap (λ (z : List ℕ). get_or z k 0) h
    ∙ get_or_build (λ k. shows_of f (bytes_of (size_of f) d n) (k % 4) (k / 4)) 0 16 k l
    ∙ ap (λ (z : Format). shows_of z (bytes_of (size_of z) d n) (k % 4) (k / 4)) e
    ∙ ap (λ (z : ℕ). shows_of g (bytes_of z d n) (k % 4) (k / 4)) s

pub block_at-old-requires : goal.block_at-old-requires
block_at-old-requires c =
    fits c.own.result (blocks c.args.self.pic) c.args.b _ (ap size_of c.own.ensures ∙ eight c.args.self.viewer) c.requires c.args.self.enough

pub block_at-new-requires : goal.block_at-new-requires
block_at-new-requires c =
    fits c.shown.result (blocks c.args.self.pic) c.args.b _ (ap size_of c.shown.ensures ∙ shown-eight c.args.self.viewer) c.requires c.args.self.enough

pub returns : goal.returns
returns c =
    let a = c.args in
    let d = a.self.«data».now in
    let g = guard_of a.self.viewer in
    alike _ (in_picture a.self.pic a.b) _ (older_at g d a.b) _ (newer_at g d a.b)
    (λ k l. place.shown a.self.pic a.b c.requires c.across-row.result c.across-row.ensures k)
    (λ k l. at_place c.own.result g.own d c.block_at-old.result a.b k c.own.ensures (eight a.self.viewer) c.block_at-old.ensures l)
    (λ k l. at_place c.shown.result g.shown d c.block_at-new.result a.b k c.shown.ensures (shown-eight a.self.viewer) c.block_at-new.ensures l)
    _ c.compare.ensures
