pub mod Bits  -- numbers by their bits
pub mod BitsLaws  -- a number of n bits is made of them
pub mod Decoding  -- what a reader of UTF-8 answers, from either end of any bytes, and where characters meet
pub mod DecodingLaws  -- the characters of a part of a list are those of the whole, and character boundaries are where characters begin
pub mod Escapes  -- bytes shown as text
pub mod IndexTexts  -- what the refusals of an index print
pub mod Indices  -- the numbers of patterns, states and the like, which fit four bytes, with room for a count of them in an `i32`
pub mod RangesLaws  -- lists of consecutive numbers: their parts, and what a test finds in them
pub mod Utf8  -- UTF-8 by RFC 3629, sections 3 and 4: which bytes encode which character, and where in a list of bytes a character is
pub mod Utf8Laws  -- what the nine forms say of bytes and positions, in numbers alone; the encodings beside std's; and the positions of a text's characters
pub mod Utf8Layout  -- the character past ASCII that begins a list of bytes, and the one that ends it, by the four bytes at that end
