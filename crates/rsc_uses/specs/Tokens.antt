-- The tokens of a text, and the table that finds them.
use Rattle.std.specs.Prelude.{◌≡◌, ◌<◌, ◌≤◌, ℕ, Bool, true, false, List, [], ◌∷◌, length, slice_index, if◌then◌else◌}
use Rattle.rsc_alphabet.specs.Partitions.{LastClassIsGreatest}
use Rattle.rsc_uses.specs.declared.tokenizer.Kind.{Kind}
use Rattle.rsc_uses.specs.declared.tokenizer.Kind.TheVariants.{Name, Number, Operator, Space, Wrong}
use Rattle.rsc_uses.specs.declared.tokenizer.Token.{Token}
use Rattle.rsc_uses.specs.declared.tokenizer.TheConstants.{NAMES, DIGITS, OPERATORS, SPACES}
use Rattle.rsc_uses.specs.Leads.{in_ranges, HasRow}

-- the bytes that a token of a kind may have after its first byte, as ranges
abbrev pub ranges_of : Kind → List (ℕ × ℕ)
ranges_of Name = NAMES
ranges_of Number = DIGITS
ranges_of Operator = OPERATORS
ranges_of Space = SPACES
ranges_of Wrong = []

-- a token of the kind continues with the byte
abbrev pub continues : Kind → ℕ → Bool
continues kind b = in_ranges (ranges_of kind) b

-- the kind of a token, by its first byte: a digit begins a number, though a name may continue with it
abbrev pub kind_begun : ℕ → Kind
kind_begun b =
    if continues Number b then Number
    else (if continues Name b then Name else (if continues Operator b then Operator else (if continues Space b then Space else Wrong)))

-- a token has the longest run of bytes of its kind, which its first byte decides
pub record IsToken (text : List ℕ) (token : Token) : Type 0 where
  pub some : token.span.start < token.span.end
  pub within : token.span.end ≤ length text
  pub first : kind_begun (slice_index text token.span.start) ≡ token.kind
  pub rest : (i : ℕ) → token.span.start < i → i < token.span.end → continues token.kind (slice_index text i) ≡ true
  pub longest : token.span.end < length text → continues token.kind (slice_index text token.span.end) ≡ false

-- tokens tile the text from the one position to the other: each begins where the one before it ended
abbrev pub Tile : List ℕ → ℕ → ℕ → List Token → Type 0
Tile text from to [] = from ≡ to
Tile text from to (token ∷ rest) = (token.span.start ≡ from) × IsToken text token × Tile text token.span.end to rest

-- the row of a kind in the table
abbrev pub kind_row : Kind → ℕ
kind_row Name = 0
kind_row Number = 1
kind_row Operator = 2
kind_row Space = 3
kind_row Wrong = 4

-- the table has a row for each kind, which says with which bytes a token of the kind continues
pub record IsTable (classes table : List ℕ) : Type 0 where
  pub bounded : LastClassIsGreatest classes
  pub rows : (kind : Kind) → HasRow classes table (kind_row kind) (ranges_of kind)
