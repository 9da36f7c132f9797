pub mod CapturedLemmas  -- the span of a group, the spans of all groups, and the pieces that they cut
pub mod CapturesLemmas  -- a span that is written into a group's slots is that group's, and leaves the others' as they were
pub mod FaultsLayoutLemmas  -- the first fault of a list, from the first other fault and the first repeated name before it
pub mod FaultsLemmas  -- what a group that isn't at fault says
pub mod GroupsLemmas  -- the groups of a list as it is handed in, and the group of a name
pub mod SharedListsLayoutLemmas  -- where the names and the order of each pattern's groups are in the lists of all groups
pub mod NameIteratorsLemmas  -- the steps of the iterator over all groups, and how many it gives
pub mod NamesLayoutLemmas  -- names in one text, and where those of each pattern begin, as one more is added
pub mod OrderLayoutLemmas  -- the groups in the order of their names
pub mod PairsLayoutLemmas  -- where the slots of each group are, by the pairs of its pattern
pub mod RepeatsLayoutLemmas  -- repeated names: of a pattern's first groups, and before a group
pub mod SlotOwnersLemmas  -- each slot is a slot of exactly one group, and below the number of all slots
pub mod Prelude  -- the definitions of `specs/` that most proofs cite, passed on by one file
