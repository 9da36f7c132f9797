-- Where a search may begin.
use Rattle.std.specs.Prelude.{ℕ, Option, Some, None}
use Rattle.rsc_search.specs.declared.anchored.Anchored.{Anchored}
use Rattle.rsc_search.specs.declared.anchored.Anchored.TheVariants.{No, Yes, Pattern}

-- the one pattern that may match
abbrev pub only_pattern : Anchored → Option ℕ
only_pattern No = None
only_pattern Yes = None
only_pattern (Pattern p) = Some p
