pub mod CharRanges  -- the characters that a list of ranges names, each range by its first and its last number
