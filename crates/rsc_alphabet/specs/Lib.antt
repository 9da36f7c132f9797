pub mod ByteSetLayout  -- how the code holds a set of bytes, as two numbers of 128 bits, and how far an iterator over it has come
pub mod ByteSets  -- a set of bytes, its members in order, and its maximal runs
pub mod ByteSetsLaws  -- what two numbers of 128 bits say of a set of bytes
pub mod Bytes  -- lists of consecutive numbers, as the bytes of a range
pub mod BytesLaws  -- lists of consecutive numbers: their first element, their parts, and what a test finds in them
pub mod IteratorLayout  -- how far an iterator over a map from byte to class has come
pub mod Iterators  -- the iterators of any map from byte to class, given as the list of the bytes' classes
pub mod Partitions  -- partitions of the bytes into intervals
pub mod PartitionsLaws  -- boundaries, classes and ranges
pub mod Ranges  -- lists of byte ranges, each by its first and its last byte, and the partition that such a list makes
pub mod SameMembers  -- two sets are equal if each holds the other's members
pub mod SymbolLayout  -- how the code holds a symbol
pub mod Symbols  -- the symbols that an automaton reads: bytes, and the end of the input
pub mod SymbolsLaws  -- the order of the symbols is a total order, and equality is its ties
