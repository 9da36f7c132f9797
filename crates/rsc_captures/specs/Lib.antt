pub mod Captured  -- what captures hold: the groups, the pattern that matched, if there is one, and an offset, if it is set, in each slot
pub mod CapturedLayout  -- what is left of the groups of a match, from one of them on
pub mod Faults  -- the faults of a group list, and which of them is the first
pub mod FaultsLayout  -- what the code knows of the faults of a list as it reads it
pub mod Groups  -- group lists: for each pattern its groups in order, and for each group its name, if it has one
pub mod Kinds  -- the fault that a kind of error names, none where it is out of memory, and what it prints
pub mod SharedListsLayout  -- what a group info holds: the names of all groups, where each pattern's names begin, and their order
pub mod Lending  -- what writing through lent slots does to captures
pub mod NameIterators  -- the iterators over the names of the groups: of one pattern, and of all patterns with the numbers of pattern and group
pub mod NamesLayout  -- names as they are held, in one text
pub mod OrderLayout  -- the groups of a pattern in the order of their names
pub mod PairsLayout  -- where a group's slots are looked for
pub mod RepeatsLayout  -- repeated names, as the code looks for them
pub mod SlotOwners  -- which group a slot belongs to
