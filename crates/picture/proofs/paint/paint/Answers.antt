-- `picture::paint::paint` meets its contract: a turn paints the block at the spot, and those that go with it.
-- Assumes nothing.
use Rattle.std.proofs.Common.{◌≡◌, ◌∙◌, sym, ap, ℕ, ◌+◌, ◌-◌, ◌*◌, ◌≤◌, length, drop, length-take, length-drop, arith}
use Rattle.rules.specs.Formats.{size_of, shows_of}
use Rattle.laws.proofs.Parts.{rest}
use Rattle.pixel.proofs.place.Grid.{kept}
use Rattle.blocks.proofs.Beside.{go_on, left_over}
use Rattle.picture.proofs.paint.paint.Goals as goal

pub paint_some-n-requires-clause-left_nonzero : goal.paint_some-n-requires-clause-left_nonzero
paint_some-n-requires-clause-left_nonzero c =
    let a = c.args in
    let l = c.loop-b in
    let both : l.b - a.first + (a.last - l.b) ≡ a.last - a.first = omega (arith, l.invariant.0, c.loop-b-test.true) in
    let left : (a.last - l.b) * size_of a.f ≤ length a.«data».now - (l.b - a.first) * size_of a.f =
    left_over (size_of a.f) (l.b - a.first) (a.last - l.b) (length a.«data».now) (rw (sym both) at c.requires.room.1) in (
      omega (arith, c.loop-b-test.true),
      rw c.size-s.ensures.0 (simp (length-take, length-drop) (omega arith)),
      c.requires.width_le_limit.0,
      kept a.pic _ _ c.requires.room.0 l.invariant.3.same,
    )

pub loop-b-preserved : goal.loop-b-preserved
loop-b-preserved c =
    let a = c.args in
    let l = c.loop-b in
    let d = a.«data».now in (
      omega arith,
      omega arith,
      c.after-spot.ensures l.b l.invariant.2,
      go_on (shows_of a.f) (size_of a.f) d a.pic a.first l.b l.spot.bx l.spot.by c.paint_some-n.result _ a.image.now l.image _
          l.invariant.0 (rw c.across-row.ensures at l.invariant.2)
          (rest ((l.b - a.first) * c.size-s.result) d ∙ ap (λ (z : ℕ). drop ((l.b - a.first) * z) d) c.size-s.ensures.0)
          l.invariant.3
          c.paint_some-n.ensures.3,
    )
