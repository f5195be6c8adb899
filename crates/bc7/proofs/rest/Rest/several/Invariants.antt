-- The invariant of the loop of `bc7::rest::Rest::several`.
use Rattle.bc7.specs.rest.Whole.{whole}
use Rattle.bc7.proofs.rest.Loops.{Several}
use Rattle.bc7.proofs.rest.Rest.several.Given as goal

abbrev pub invariant-loop-i : goal.invariant-loop-i
invariant-loop-i l = Several (whole l.fn.self) l.count l.b (whole l.self) l.values l.i
