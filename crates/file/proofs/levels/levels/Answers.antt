-- `file::levels::levels` meets its contract: what is left to walk comes to the same at each turn.
-- Assumes nothing.
use mathlib.Core.Path.{◌≡◌, ◌∙◌, sym, ap}
use mathlib.Core.Bool.{Bool, cond}
use Prim.Native.Nat.{ℕ, ◌+◌, ◌-◌}
use native.Mathlib.Omega.{arith}
use native.Mathlib.Nat.{sub-zero}
use borrow.Author.Tests.{eq-eqb, ne_eqb}
use lib.ListN.{length}
use Rattle.std.proofs.lemmas.Result.{err_from_is_err_and}
use Rattle.std.specs.Prelude.{Ok, Err}
use Rattle.rules.specs.FileLevels.{fit_in, fit_of_lem, level_at_lem, next_spot_lem, halved, lesser, chosen, levels_of}
use Rattle.file.proofs.Walk.{fits, least, stops, onward, over}
use Rattle.file.proofs.levels.levels.Goals as goal
use Rattle.file.proofs.levels.levels.Goals.{then-n-i, else-n-i}

pub loop-i-init : goal.loop-i-init
unfolding levels_of
loop-i-init c = (omega arith, omega arith, simp sub-zero)

pub returns-in_err-start : goal.returns-in_err-start
unfolding fit_of_lem
returns-in_err-start c =
    let l = c.loop-i in
    let a = c.args in
    let p = err_from_is_err_and c.from_residual.result c.from_residual.ensures.1 in
    let e : Err c.in_err-start.field-0.0 ≡ fit_of_lem a.l a.bytes.now l.i l.s = c.in_err-start.ensures ∙ ap (fit_in a.l.container a.l.big_endian a.bytes.now l.i l.s.at) c.bytes_for-length.ensures.0 in
    rw (p.1, p.2) (stops a.l a.bytes.now a.n l.left l.found l.i l.s _ (omega arith) e ∙ l.invariant.2)

pub overflow_add-end : goal.overflow_add-end
overflow_add-end c = let h = fits _ _ _ _ _ _ _ c.in_ok-start.ensures in omega (arith, h)

pub overflow_sub-bytes : goal.overflow_sub-bytes
overflow_sub-bytes c = fits _ _ _ _ _ _ _ c.in_ok-start.ensures

pub loop-i-preserved : goal.loop-i-preserved
unfolding fit_of_lem level_at_lem next_spot_lem
loop-i-preserved c =
    let l = c.loop-i in
    let a = c.args in
    let need = c.bytes_for-length.ensures.0 in
    let e : Ok c.in_ok-start.start ≡ fit_of_lem a.l a.bytes.now l.i l.s = c.in_ok-start.ensures ∙ ap (fit_in a.l.container a.l.big_endian a.bytes.now l.i l.s.at) c.bytes_for-length.ensures.0 in
    let level : c.if-n-i.found ≡ chosen a.n l.i (level_at_lem a.l l.s c.in_ok-start.start) l.found =
    elim c.if-n-i.branch [
      | then-n-i w ↦
          w.found-is
          ∙ ap (λ (n : ℕ). record { width = l.s.width; height = l.s.height; start = c.in_ok-start.start; length = n }) need
          ∙ sym (ap (λ (b : Bool). cond b (level_at_lem a.l l.s c.in_ok-start.start) l.found) (eq-eqb a.n l.i w.if-n-i.true))
      | else-n-i w ↦
          w.found-is ∙ sym (ap (λ (b : Bool). cond b (level_at_lem a.l l.s c.in_ok-start.start) l.found) (ne_eqb a.n l.i w.if-n-i.false))
    ] in
    let spot : record { width = c.halved.result; height = c.halved-in-loop-i.result; at = c.in_ok-start.start + c.bytes_for-length.result } ≡ next_spot_lem a.l l.s c.in_ok-start.start =
    ap (λ (n : ℕ). record { width = n; height = c.halved-in-loop-i.result; at = c.in_ok-start.start + c.bytes_for-length.result }) c.halved.ensures.0
    ∙ ap (λ (n : ℕ). record { width = halved l.s.width; height = n; at = c.in_ok-start.start + c.bytes_for-length.result }) c.halved-in-loop-i.ensures.0
    ∙ ap (λ (n : ℕ). record { width = halved l.s.width; height = halved l.s.height; at = c.in_ok-start.start + n }) need in (
      omega (arith, c.halved.ensures.1, l.invariant.0),
      omega (arith, c.halved-in-loop-i.ensures.1, l.invariant.1),
      onward a.l a.bytes.now a.n l.left l.found l.i l.s c.in_ok-start.start _ _ _
          (omega arith)
          e
          (c.min-left.ensures ∙ least _ _ ∙ ap (λ (n : ℕ). lesser l.left (length a.bytes.now - (c.in_ok-start.start + n))) need)
          level
          spot
          ∙ l.invariant.2,
    )

pub returns : goal.returns
returns c = sym (over c.args.l c.args.bytes.now c.args.n c.loop-i.left c.loop-i.found c.loop-i.i c.loop-i.s (omega arith)) ∙ c.loop-i.invariant.2
