pub mod LendingLemmas  -- a part of a slice that is lent on
pub mod PatternSetLayoutLemmas  -- the members of a set by its blocks, and what the iterator over them has left
pub mod PatternSetsLemmas  -- the numbers of a range that pass a test, and the test of membership
pub mod Examples  -- the definitions, computed at single values
pub mod SpansLemmas  -- what a span cuts out of a haystack, case by case
pub mod BlockLayoutLemmas  -- the bits of a block and of a list of blocks: the lowest, the highest, and what is left without either
