-- What the refusals of an index print.
use Rattle.std.specs.Prelude.{ℕ, List, ◌++◌, codes}
use Rattle.std.specs.Fmt.{decimal}

-- what a `SmallIndexError` displays
abbrev pub small_index_error_text : ℕ → List ℕ
small_index_error_text n = codes "failed to create small index from " ++ decimal n ++ codes ", which exceeds SmallIndex(2147483646)"

-- what a `PatternIDError` displays
abbrev pub pattern_id_error_text : ℕ → List ℕ
pattern_id_error_text n = codes "failed to create PatternID from " ++ decimal n ++ codes ", which exceeds PatternID(2147483646)"

-- what a `StateIDError` displays
abbrev pub state_id_error_text : ℕ → List ℕ
state_id_error_text n = codes "failed to create StateID from " ++ decimal n ++ codes ", which exceeds StateID(2147483646)"
