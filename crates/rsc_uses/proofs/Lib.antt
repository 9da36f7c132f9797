mod AlphabetLemmas  -- tables that are filled unit by unit
mod CapturesLemmas  -- the slots that a group was written into give its span
mod EndsLemmas  -- where greedy and lazy parts end
mod EngineLemmas  -- all matches of a program, or all lines, one after the other
mod FoundLemmas  -- what a search has found so far
mod LexedLemmas  -- matches that stand side by side are tokens
mod ListedLemmas  -- how such a list is made, number by number
mod LookLemmas  -- slices of bytes as lists of numbers below 256
mod MaskedLemmas  -- what stands for each match is the mask, whatever its groups are
mod PartsLemmas  -- what matches of a program say of the pattern that it's built of
mod PrimitivesLemmas  -- how many bytes a character takes
mod ReplacedLemmas  -- spans that are replaced by what they have already
mod SearchLemmas  -- sums of a table's entries, modulo a number
mod TokensLemmas  -- tokens that tile a text, one after the other
