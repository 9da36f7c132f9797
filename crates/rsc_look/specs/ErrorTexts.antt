-- What the error of the Unicode assertions prints.
use Rattle.std.specs.Prelude.{ℕ, List, codes}

-- what a `UnicodeWordBoundaryError` displays
abbrev pub unicode_word_boundary_error_text : List ℕ
unicode_word_boundary_error_text = codes "Unicode-aware \\b and \\B are unavailable because the requisite data tables are missing, please enable the unicode-word-boundary feature"
