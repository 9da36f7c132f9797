-- What a search finds.
use Rattle.std.specs.Prelude.{ℕ}
use Rattle.rsc_search.specs.declared.span.Span.{Span}

-- the pattern that matched, and one end of the match
pub record HalfMatched : Type 0 where
  pub pattern : ℕ
  pub offset : ℕ

-- the pattern that matched, and where
pub record Matched : Type 0 where
  pub pattern : ℕ
  pub span : Span
