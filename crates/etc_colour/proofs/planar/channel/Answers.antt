use Rattle.std.proofs.Common.{◌≡◌, ◌-◌, ◌/◌, ◌<◌, min, sym, ap, ◌∙◌, arith, w16}
use Rattle.rules.specs.Notation.{clamp}
use Rattle.laws.proofs.Signed.{held, held_is}
use Rattle.laws.proofs.Diff.{Is, is_fits, is_held, is_natural, is_negative, is_quotient}
use Rattle.rules.specs.Modes.{planar_channel}
use Rattle.etc_colour.proofs.planar.Fold.{planar_is, more, fewer}
use Rattle.etc_colour.proofs.planar.Machine.{two, three, all, all_m, small_more, small_fewer}
use Rattle.etc_colour.proofs.planar.channel.Goals as goal

pub overflow_add-n : goal.overflow_add-n
overflow_add-n c =
    let small : (more c.args.o c.args.h c.args.v c.args.x c.args.y < 3000) × (fewer c.args.o c.args.x c.args.y < 3000) = (
      small_more c.args.o c.args.h c.args.v c.args.x c.args.y (omega arith) (omega arith) (omega arith) (omega arith) (omega arith),
      small_fewer c.args.o c.args.h c.args.v c.args.x c.args.y (omega arith) (omega arith) (omega arith) (omega arith) (omega arith),
    ) in
    is_fits w16 (two c.args.o c.args.h c.args.v c.args.x c.args.y (omega arith) (omega arith) (omega arith) (omega arith) (omega arith))
    (omega (arith, small)) (omega (arith, small))

pub overflow_add-n-2 : goal.overflow_add-n-2
overflow_add-n-2 c =
    let small : (more c.args.o c.args.h c.args.v c.args.x c.args.y < 3000) × (fewer c.args.o c.args.x c.args.y < 3000) = (
      small_more c.args.o c.args.h c.args.v c.args.x c.args.y (omega arith) (omega arith) (omega arith) (omega arith) (omega arith),
      small_fewer c.args.o c.args.h c.args.v c.args.x c.args.y (omega arith) (omega arith) (omega arith) (omega arith) (omega arith),
    ) in
    is_fits w16 (three c.args.o c.args.h c.args.v c.args.x c.args.y (omega arith) (omega arith) (omega arith) (omega arith) (omega arith))
    (omega (arith, small)) (omega (arith, small))

pub overflow_add-n-3 : goal.overflow_add-n-3
overflow_add-n-3 c =
    let small : (more c.args.o c.args.h c.args.v c.args.x c.args.y < 3000) × (fewer c.args.o c.args.x c.args.y < 3000) = (
      small_more c.args.o c.args.h c.args.v c.args.x c.args.y (omega arith) (omega arith) (omega arith) (omega arith) (omega arith),
      small_fewer c.args.o c.args.h c.args.v c.args.x c.args.y (omega arith) (omega arith) (omega arith) (omega arith) (omega arith),
    ) in
    is_fits w16 (all c.args.o c.args.h c.args.v c.args.x c.args.y (omega arith) (omega arith) (omega arith) (omega arith) (omega arith))
    (omega (arith, small)) (omega (arith, small))

pub returns-then-n-lt0 : goal.returns-then-n-lt0
returns-then-n-lt0 c =
    let small : (more c.args.o c.args.h c.args.v c.args.x c.args.y < 3000) × (fewer c.args.o c.args.x c.args.y < 3000) = (
      small_more c.args.o c.args.h c.args.v c.args.x c.args.y (omega arith) (omega arith) (omega arith) (omega arith) (omega arith),
      small_fewer c.args.o c.args.h c.args.v c.args.x c.args.y (omega arith) (omega arith) (omega arith) (omega arith) (omega arith),
    ) in
    let number : Is (held w16 (all_m c.args.o c.args.h c.args.v c.args.x c.args.y)) (more c.args.o c.args.h c.args.v c.args.x c.args.y)
    (fewer c.args.o c.args.x c.args.y) =
    is_held w16 (all c.args.o c.args.h c.args.v c.args.x c.args.y (omega arith) (omega arith) (omega arith) (omega arith) (omega arith))
    (omega (arith, small)) (omega (arith, small)) in
    let value : planar_channel c.args.o c.args.h c.args.v c.args.x c.args.y
    ≡ min ((more c.args.o c.args.h c.args.v c.args.x c.args.y - fewer c.args.o c.args.x c.args.y) / 4) 255 =
    planar_is c.args.o c.args.h c.args.v c.args.x c.args.y in
    let n = number in
    (omega (arith, value, is_negative n c.if-n-lt0.true), omega arith)

pub returns-else-n-lt0 : goal.returns-else-n-lt0
returns-else-n-lt0 c =
    let small : (more c.args.o c.args.h c.args.v c.args.x c.args.y < 3000) × (fewer c.args.o c.args.x c.args.y < 3000) = (
      small_more c.args.o c.args.h c.args.v c.args.x c.args.y (omega arith) (omega arith) (omega arith) (omega arith) (omega arith),
      small_fewer c.args.o c.args.h c.args.v c.args.x c.args.y (omega arith) (omega arith) (omega arith) (omega arith) (omega arith),
    ) in
    let number : Is (held w16 (all_m c.args.o c.args.h c.args.v c.args.x c.args.y)) (more c.args.o c.args.h c.args.v c.args.x c.args.y)
    (fewer c.args.o c.args.x c.args.y) =
    is_held w16 (all c.args.o c.args.h c.args.v c.args.x c.args.y (omega arith) (omega arith) (omega arith) (omega arith) (omega arith))
    (omega (arith, small)) (omega (arith, small)) in
    let value : planar_channel c.args.o c.args.h c.args.v c.args.x c.args.y
    ≡ min ((more c.args.o c.args.h c.args.v c.args.x c.args.y - fewer c.args.o c.args.x c.args.y) / 4) 255 =
    planar_is c.args.o c.args.h c.args.v c.args.x c.args.y in
    let n = number in
    let q = is_quotient n 4 (is_natural n c.if-n-lt0.false) in
    (c.clamp.ensures.0 ∙ ap (clamp 255) (held_is w16 _ _ q (omega (arith, small))) ∙ sym value, c.clamp.ensures.1)
