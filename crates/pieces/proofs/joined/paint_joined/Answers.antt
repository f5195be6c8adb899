-- `pieces::joined::paint_joined` meets its contract: the block that is in both, and then those that are in the new bytes alone.
-- Assumes nothing.
use Rattle.std.proofs.Common.{◌≡◌, ◌∙◌, ap, List, ℕ, ◌+◌, ◌-◌, ◌*◌, ◌<◌, ◌≤◌, length, take, drop, length-append, arith, rules}
use lib.Seq.{length-take-le}
use Rattle.rules.specs.Places.{bytes_of, bytes_from}
use Rattle.rules.specs.Formats.{size_of, shows_of}
use Rattle.laws.proofs.Parts.{rest}
use Rattle.blocks.proofs.Blocks.{room}
use Rattle.blocks.proofs.Runs.{two_runs, other_bytes}
use Rattle.pieces.specs.Arrived.{all_of}
use Rattle.pieces.proofs.kept.Joined.{joint_block, later_block}
use Rattle.pieces.proofs.kept.Numbers.{peel}
use Rattle.pieces.proofs.joined.paint_joined.Goals as goal

pub returns : goal.returns
returns c =
    let a = c.args in
    let v = a.arrived.now in
    let d = v.bytes.now in
    let s = size_of a.f in
    let shows = shows_of a.f in
    let both = all_of v in
    let some : a.first < a.last = omega arith in
    let parted : (a.last - (a.first + 1)) * s + s ≤ v.held + length d = omega (arith, peel a.first a.last s some, c.requires.held_bound.1) in
    let fifteen : length v.kept ≡ 15 = search rules in
    let long : v.held ≤ length v.kept = omega (arith, fifteen, v.few) in
    let size : length both ≡ v.held + length d = length-append (take v.held v.kept) d ∙ ap (λ (x : ℕ). x + length d) (length-take-le v.held v.kept long) in
    two_runs a.pic a.first (a.first + 1) a.last _ a.image.now _ _ (omega arith) (omega (arith, some))
    (other_bytes a.pic shows a.first (a.first + 1) _ (bytes_from s a.first both) a.image.now _
    (λ n i j.
    ap (λ (l : List ℕ). bytes_of s l (n - a.first)) c.first_block.ensures
    ∙ joint_block s (n - a.first) both (omega arith) (omega (arith, size, parted)) (omega arith))
    c.paint-2.ensures)
    (other_bytes a.pic shows (a.first + 1) a.last _ (bytes_from s a.first both) _ _
    (λ n i j.
    ap (λ (l : List ℕ). bytes_of s l (n - (a.first + 1)))
    (rest (c.size.result - v.held) d ∙ ap (λ (x : ℕ). drop (x - v.held) d) c.size.ensures.0)
    ∙ later_block s (n - (a.first + 1)) (n - a.first) v.held v.kept d (omega arith) long (omega arith)
    (room s (a.last - a.first) (n - a.first) _ (omega arith) c.requires.held_bound.1))
    c.paint-3.ensures)
