mod ChosenLemmas  -- when an assertion tells a byte from the next one, and when a listed one does
mod MarksLemmas  -- marks of one more assertion
mod RangesLemmas  -- partitions that keep assertions and part ranges: what one more range adds, and why no coarser one does
mod SidesLemmas  -- characters that begin before a position and end after it
