pub mod Boundaries  -- the boundaries between bytes that an assertion can tell apart
pub mod ErrorTexts  -- what the error of the Unicode assertions prints
pub mod HoldingLayout  -- how the tables of the assertions that hold are read
pub mod Holds  -- where an assertion holds: the table of neighbouring bytes, and the table of neighbouring characters
pub mod Keeping  -- what it is for a partition of the bytes to keep assertions, and to be the coarsest one that does
pub mod KeepingLaws  -- partitions and haystacks of one byte, lists of one assertion, and the two word predicates
pub mod LookSetLaws  -- a set of assertions and its eighteen bits: each gives the other back
pub mod LookSetLayout  -- how the code holds a set of assertions, as eighteen bits
pub mod LookSets  -- sets of assertions, and their members in order
pub mod Looks  -- the eighteen assertions: their numbers, their characters, their order, and what each one is from the other end
pub mod Mirrors  -- haystacks read from the other end
pub mod SideLayout  -- what a reader of one side answers of the character that it found there
pub mod Words  -- the word characters of Unicode Technical Standard 18, Annex C, by the properties of Unicode from 128 on
