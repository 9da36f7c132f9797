pub mod GroupTextsLemmas  -- what the text of a list of patterns is read as
mod LookNamesLemmas  -- each assertion is in the list of all
pub mod RangeTextsLemmas  -- numbers as decimal digits, and the text of a range of bytes
