-- The numbers in which signed and unsigned values differ are those of the one kind or of the other.
-- Assumes nothing.
use Rattle.std.specs.Prelude.{◌≡◌}
use Rattle.rules.specs.Whole.{least, most, added}
use Rattle.eac.specs.declared.span.Span.{Span}

pub record Spans (span : Span) : Type 0 where
  pub from : span.low ≡ least span.signed
  pub to : span.high ≡ most span.signed
  pub raised : span.up ≡ added span.signed
