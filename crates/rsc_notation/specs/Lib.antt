pub mod GroupTexts  -- the text of a list of patterns with their groups, as `-,x;-,-,x`
pub mod LookNames  -- the names of the assertions
pub mod RangeTexts  -- the text of a range of bytes
