-- `older::Viewed::in_block` meets its contract: where the guard lets a block pass, both rules show the same.
use mathlib.Core.Path.{◌≡◌, ◌∙◌, sym, ap}
use mathlib.Core.Bool.{false}
use Prim.Native.Nat.{◌/◌, ◌%◌}
use Rattle.rules.specs.Places.{bytes_of}
use Rattle.rules.specs.Answers.{said}
use Rattle.laws.proofs.Parts.{part}
use Rattle.guard.specs.Viewers.{guard_of}
use Rattle.guard.proofs.Scan.{sound, passed}
use Rattle.rules.specs.Older.{older_at, newer_at, in_picture}
use Rattle.older.proofs.Turn.{nothing}
use Rattle.older.proofs.Viewed.in_block.Goals as goal

-- Assumes nothing.

pub returns-in-Ok : goal.returns-in-Ok
returns-in-Ok c =
    let a = c.args in
    let d = a.self.«data».now in
    let g = guard_of a.self.viewer in
    let good : g.bad (bytes_of 8 d a.b) ≡ false =
    sym (ap g.bad (part 8 a.b d))
    ∙ passed g.number (sound a.self.viewer).is_refusal c.judged.result _ a.b c.judged.ensures (ap said c.in-Ok.is) in
    nothing (in_picture a.self.pic a.b) (older_at g d a.b) (newer_at g d a.b) (λ k. (sound a.self.viewer).agree (bytes_of 8 d a.b) (k % 4) (k / 4) good)
