-- `bc7::endpoints::endpoint` meets its contract: a value with its p-bit under it has no more than eight bits.
-- Assumes nothing.
use mathlib.Core.Path.{◌∙◌, ap}
use Prim.Native.Nat.{ℕ, ◌+◌}
use Rattle.rules.specs.Bc7.{expand}
use Rattle.laws.proofs.Shades.{put_up, with_p, with_p_byte}
use Rattle.bc7.proofs.endpoints.endpoint.Goals as goal

pub overflow_add-v : goal.overflow_add-v
overflow_add-v c = record {
  fits = rw (put_up c.args.v c.args.p c.args.w c.args.pb c.requires.0 c.requires.2 c.requires.3)
      (with_p_byte c.args.v c.args.p c.args.w c.args.pb c.requires.0 c.requires.2 c.requires.3);
}

pub expand-requires : goal.expand-requires
expand-requires c = (
  c.requires.0,
  rw (put_up c.args.v c.args.p c.args.w c.args.pb c.requires.0 c.requires.2 c.requires.3)
      (with_p c.args.v c.args.p c.args.w c.args.pb c.requires.0 c.requires.2 c.requires.3),
)

pub returns : goal.returns
returns c =
    c.expand.ensures ∙ ap (λ (x : ℕ). expand (c.args.w + c.args.pb) (x + c.args.p)) (put_up c.args.v c.args.p c.args.w c.args.pb c.requires.0 c.requires.2 c.requires.3)
