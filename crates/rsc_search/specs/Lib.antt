pub mod Inputs  -- what a search is given
pub mod Lending  -- what writing through a part of a haystack does to the haystack
pub mod Matches  -- what a search finds
pub mod Modes  -- where a search may begin
pub mod PatternSetLayout  -- how the code holds a set: by blocks whose set bits are its members
pub mod PatternSets  -- sets of patterns: a capacity, and the members below it in ascending order
pub mod PatternSetsLaws  -- equality of pattern sets is an equivalence
pub mod Spans  -- spans, and what they cut out of a haystack
pub mod SpansLaws  -- equality of spans is an equivalence
pub mod Texts  -- the texts of the errors
pub mod BlockLayout  -- `u64` as lists of bits, and lists of them
