-- The two bytes of the word, their values, and the eight made of them.
-- Assumes nothing.
use mathlib.Core.Path.{◌∙◌, ap}
use Rattle.rules.specs.Rgtc.{endpoint}
use Rattle.bc.proofs.alphas.Shares.{ends}
use Rattle.bc.proofs.rgtc.Values.{made}
use Rattle.bc.proofs.rgtc.values_in.Goals as goal

pub returns : goal.returns
returns c =
    let a = c.args in
    c.lit.ensures
    ∙ made a.signed a.w c.endpoint.result c.endpoint-2.result c.greatest.result a.unit a.rest c.alphas-eight.result
    (c.endpoint.ensures ∙ ap (endpoint a.signed) (ends a.w c.to_le_bytes.result c.to_le_bytes.ensures).0)
    (c.endpoint-2.ensures ∙ ap (endpoint a.signed) (ends a.w c.to_le_bytes.result c.to_le_bytes.ensures).1)
    c.greatest.ensures.0
    c.alphas-eight.ensures
