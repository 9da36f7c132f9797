pub mod PartReplacements  -- a text with all matches of one pattern replaced, said of the pattern alone
pub mod Replacements  -- a text with all matches of a program replaced
pub mod Templates  -- what a template stands for: `$$` for a dollar sign, `$name` and `${name}` for the bytes of a group, and each other byte for itself
