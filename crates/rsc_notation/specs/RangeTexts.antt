-- The text of a range of bytes.
use Rattle.std.specs.Prelude.{◌≡◌, ℕ, List, [], ◌∷◌, ◌++◌, Ok}
use Rattle.hex.specs.Hex.{decode_of}

-- the text is two hexadecimal digits of the first byte, `-`, and two of the last
pub record IsRangeText (text : List ℕ) (first last : ℕ) : Type 0 where
  pub before : List ℕ
  pub after : List ℕ
  pub joined : text ≡ before ++ 45 ∷ after
  pub start : decode_of before ≡ Ok (first ∷ [])
  pub end : decode_of after ≡ Ok (last ∷ [])
