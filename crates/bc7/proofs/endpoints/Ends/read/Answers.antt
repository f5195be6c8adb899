-- `bc7::endpoints::Ends::read` meets its contract: the fields follow one another, and each channel is made of its own.
-- Assumes nothing.
use mathlib.Core.Path.{◌∙◌, sym, ap}
use mathlib.Core.Bool.{Bool, cond}
use Prim.Native.Nat.{◌+◌, ◌*◌, ◌^◌}
use native.Mathlib.Omega.{arith}
use lib.ListN.{get_or-replicate}
use borrow.Author.Tests.{eq-eqb, ne_eqb}
use Rattle.rules.specs.Bits.{field}
use Rattle.rules.specs.Bc7.{expand, alpha_place, p_bits, p_of}
use Rattle.bc7.specs.rest.Whole.{whole}
use Rattle.bc7.proofs.endpoints.Fetch.{fetched, colour_end_lem, alpha_end_lem}
use Rattle.bc7.proofs.endpoints.Ends.read.Goals as goal

pub returns-then-k-eq0 : goal.returns-then-k-eq0
returns-then-k-eq0 c =
    let k = c.args.row.mode in
    let p = c.args.row.sane in
    let cw = c.several-colours.ensures.width in
    let bw = c.several-bits.ensures.width in
    λ d m w.
    let f = fetched d m k c.several-colours.result.values c.several-alphas.result.values c.several-bits.result.values (whole c.args.r) (whole c.several-colours.new.self)
    (whole c.several-alphas.new.self) (whole c.several-bits.new.self) c.p_count.result w c.several-colours.ensures.by_index c.several-colours.ensures.rest_value c.several-alphas.ensures.by_index
    c.several-alphas.ensures.rest_value c.p_count.ensures.0 c.several-bits.ensures.by_index c.several-bits.ensures.rest_value in
    record {
      red = λ e h. colour_end_lem d m k f 0 0 e _ (omega arith) (omega arith) h (rw (cw, bw) at (c.channel-red.ensures e h));
      green = λ e h. colour_end_lem d m k f 1 (2 * k.subsets) e _ (omega arith) (omega arith) h (rw (cw, bw) at (c.channel-green.ensures e h));
      blue = λ e h. colour_end_lem d m k f 2 (2 * (2 * k.subsets)) e _ (omega arith) (omega arith) h (rw (cw, bw) at (c.channel-blue.ensures e h));
      alpha = λ e h. get_or-replicate 8 e 255 0 (omega (arith, p.subsets))
          ∙ sym (ap (λ (t : Bool). cond t 255 (expand (k.alpha + p_bits m k) (field d (alpha_place m k + e * k.alpha) k.alpha * 2 ^ p_bits m k + p_of d m k e))) (eq-eqb k.alpha 0 c.if-k-eq0.true));
      rest = f.rest;
    }

pub returns-else-k-eq0 : goal.returns-else-k-eq0
returns-else-k-eq0 c =
    let k = c.args.row.mode in
    let p = c.args.row.sane in
    let cw = c.several-colours.ensures.width in
    let bw = c.several-bits.ensures.width in
    λ d m w.
    let f = fetched d m k c.several-colours.result.values c.several-alphas.result.values c.several-bits.result.values (whole c.args.r) (whole c.several-colours.new.self)
    (whole c.several-alphas.new.self) (whole c.several-bits.new.self) c.p_count.result w c.several-colours.ensures.by_index c.several-colours.ensures.rest_value c.several-alphas.ensures.by_index
    c.several-alphas.ensures.rest_value c.p_count.ensures.0 c.several-bits.ensures.by_index c.several-bits.ensures.rest_value in
    record {
      red = λ e h. colour_end_lem d m k f 0 0 e _ (omega arith) (omega arith) h (rw (cw, bw) at (c.channel-red.ensures e h));
      green = λ e h. colour_end_lem d m k f 1 (2 * k.subsets) e _ (omega arith) (omega arith) h (rw (cw, bw) at (c.channel-green.ensures e h));
      blue = λ e h. colour_end_lem d m k f 2 (2 * (2 * k.subsets)) e _ (omega arith) (omega arith) h (rw (cw, bw) at (c.channel-blue.ensures e h));
      alpha = λ e h. alpha_end_lem d m k f e _ (ne_eqb k.alpha 0 c.if-k-eq0.false) h (rw (c.several-alphas.ensures.width, bw) at (c.channel-alpha.ensures e h));
      rest = f.rest;
    }
