-- `blocks::block_at` meets its contract: the part of the data that is lent is block n, and the picture of 4 by 4 is its tile.
-- Assumes nothing.
use mathlib.Core.Path.{refl}
use Prim.Native.Nat.{◌+◌, ◌*◌, ◌≤◌}
use native.Mathlib.Omega.{arith}
use lib.ListN.{length}
use Rattle.rules.specs.Formats.{size_of, shows_of}
use Rattle.blocks.proofs.Alone.{enough, alone, whole_four}
use Rattle.blocks.proofs.block_at.Goals as goal

pub overflow_mul-at : goal.overflow_mul-at
overflow_mul-at c =
    let room : c.args.n * c.size-s.result + c.size-s.result ≤ length c.args.«data».now = rw c.size-s.ensures.0 c.requires in
    omega (arith, room)

pub overflow_add-end : goal.overflow_add-end
overflow_add-end c =
    let room : c.args.n * c.size-s.result + c.size-s.result ≤ length c.args.«data».now = rw c.size-s.ensures.0 c.requires in
    omega (arith, room)

pub slice_bounds-run-end : goal.slice_bounds-run-end
slice_bounds-run-end c =
    let room : c.args.n * c.size-s.result + c.size-s.result ≤ length c.args.«data».now = rw c.size-s.ensures.0 c.requires in
    room

pub run-requires : goal.run-requires
run-requires c =
    let room : c.args.n * c.size-s.result + c.size-s.result ≤ length c.args.«data».now = rw c.size-s.ensures.0 c.requires in
    let a = c.args in
    (enough (shows_of a.f) c.size-s.result (size_of a.f) a.n a.«data».now c.size-s.ensures.0 room, whole_four)

pub returns : goal.returns
returns c =
    let a = c.args in
    alone (shows_of a.f) c.size-s.result (size_of a.f) a.n a.«data».now c.size-s.ensures.0 _ _ refl c.run.ensures
