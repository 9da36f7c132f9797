mod CitedLaws  -- the lemmas of `specs/` that laws state, under names that a source can cite
mod EscapesLemmas  -- the texts of bytes, in a table with one width and a table of their lengths, and the steps of a row of bytes
mod IndicesLemmas  -- the iterator over the first indices: what is left of it after some
mod Examples  -- the definitions, computed at single values
mod Utf8LayoutLemmas  -- the four bytes at either end of a list, where a byte that isn't there is 0
mod Utf8Lemmas  -- the character that begins a list, and the one that ends it, by the bytes at either end
