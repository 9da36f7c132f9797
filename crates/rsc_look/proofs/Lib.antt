pub mod BoundariesLemmas  -- the boundaries of an assertion as tests that compute, and why a partition that has those of an assertion on bytes keeps it
pub mod HoldsLemmas  -- where an assertion holds, by the two sides of a position; none on characters holds inside an encoded character
pub mod KeepingLemmas  -- the boundaries of assertions make the coarsest partition that keeps them: each is needed, and all together are enough
pub mod LawsLemmas  -- finer partitions keep what coarser ones do, and two lists together have the boundaries of both
pub mod LookSetLayoutLemmas  -- what the operations on eighteen bits do to the set that they stand for, and what an iterator takes
pub mod LookSetsLemmas  -- the members of sets of assertions that are made of others
pub mod MatcherLemmas  -- the assertions that hold at a position, from the two sides; and those of Unicode beside ASCII
pub mod MirrorsLemmas  -- an assertion at a position is the reversed one at the same position of the mirror
mod Examples  -- the definitions, computed on examples
pub mod Prelude  -- the definitions of `specs/` that most proofs cite, passed on by one file
pub mod WordsLemmas  -- the class `\w` of the tables, and the word characters from 128 on
