pub mod Chosen  -- which characters are word characters, by the choice of the arguments
pub mod Marks  -- marks that say which assertions hold
pub mod Ranges  -- partitions that keep assertions and part ranges of bytes
pub mod Shares  -- boundaries of maps from bytes to classes, and the items that shares are of
pub mod Sides  -- what is beside a position of a haystack
