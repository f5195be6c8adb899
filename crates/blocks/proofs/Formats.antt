-- What is known of a format, once a match has told which it is.
-- Assumes nothing.
use mathlib.Core.Path.{◌≡◌, sym, subst}
use mathlib.Core.List.{List}
use Prim.Native.Nat.{ℕ, ◌*◌, ◌≤◌}
use Rattle.rules.specs.Formats.{size_of, shows_of}
use Rattle.rules.specs.declared.Format.{Format}
use Rattle.rules.specs.declared.Picture.{Picture}
use Rattle.blocks.specs.Run.{PaintsRow}

-- enough bytes for n blocks of it
pub enough : {f g : Format} {m : ℕ} (n : ℕ) → f ≡ g → n * size_of f ≤ m → n * size_of g ≤ m
enough {m = m} n e h = subst (λ (g : Format). n * size_of g ≤ m) e h

-- what its blocks show
pub shown : {f g : Format} (d : List ℕ) (pic : Picture) (bx by n : ℕ) (old new : List ℕ) → f ≡ g
    → PaintsRow (shows_of g) (size_of g) d pic bx by n old new
    → PaintsRow (shows_of f) (size_of f) d pic bx by n old new
shown d pic bx by n old new e p = subst (λ (g : Format). PaintsRow (shows_of g) (size_of g) d pic bx by n old new) (sym e) p
