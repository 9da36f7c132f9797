pub mod PartReplacementsLemmas  -- the matches of a program of one pattern are ways of the pattern, and there is one list of them
pub mod ReplacementsLemmas  -- lemmas on an iteration that replaces, and on what determines it
pub mod TemplatesLemmas  -- lemmas on what a template stands for
