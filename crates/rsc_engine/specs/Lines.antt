-- The lines of a haystack in which a program matches, one after the other.
use Rattle.std.specs.Prelude.{◌≡◌, ◌≢◌, ℕ, ◌+◌, ◌-◌, ◌<◌, ◌≤◌, Bool, false, List, [], ◌∷◌, length, slice_index}
use Rattle.rsc_look.specs.Looks.{line_feed}
use Rattle.rsc_search.specs.declared.anchored.Anchored.TheVariants.{No}
use Rattle.rsc_search.specs.declared.span.Span.{Span}
use Rattle.rsc_engine.specs.Searches.{Compiled, search_in}
use Rattle.rsc_engine.specs.Preferred.{HasNoFirstMatch}

-- a line may begin at the position: at the haystack's start, or after a line feed
abbrev pub BeginsLine : List ℕ → ℕ → Type 0
BeginsLine haystack at = 0 < at → slice_index haystack (at - 1) ≡ line_feed

-- the span is a line without its line feed; what is empty after a last line feed is none
pub record IsLine (haystack : List ℕ) (line : Span) : Type 0 where
  pub begins : BeginsLine haystack line.start
  pub some : line.start < length haystack
  pub order : line.start ≤ line.end
  pub within : line.end ≤ length haystack
  pub inner : (i : ℕ) → line.start ≤ i → i < line.end → slice_index haystack i ≢ line_feed
  pub ends : line.end < length haystack → slice_index haystack line.end ≡ line_feed

-- of the lines that begin from the one position on and before the other none is such a line
abbrev pub NoSuchLine : List ℕ → (Span → Type 0) → ℕ → ℕ → Type 0
NoSuchLine haystack IsSuch from to = (line : Span) → IsLine haystack line → from ≤ line.start → line.start < to → ¬ (IsSuch line)

-- a search in the span has a match; assertions see beyond it
abbrev pub HasMatchIn : {W : Type 0} → (W → ℕ → Bool) → Compiled W → List ℕ → Span → Type 0
HasMatchIn chars program haystack span =
    ¬ (HasNoFirstMatch (search_in chars program (record { haystack = haystack; span = span; anchored = No; earliest = false })))

-- what is left of an iteration over lines: the program, the haystack, and where the next line may begin
pub record LinesLeft (W : Type 0) : Type 0 where
  pub program : Compiled W
  pub haystack : List ℕ
  pub from : ℕ

-- the first line with a match, of the lines left
pub record IsNextLine {W : Type 0} (chars : W → ℕ → Bool) (left : LinesLeft W) (line : Span) : Type 0 where
  pub is_line : IsLine left.haystack line
  pub from : left.from ≤ line.start
  pub matches : HasMatchIn chars left.program left.haystack line
  pub none_before : NoSuchLine left.haystack (HasMatchIn chars left.program left.haystack) left.from line.start

-- no line that is left has a match
abbrev pub HasNoMatchingLine : {W : Type 0} → (W → ℕ → Bool) → LinesLeft W → Type 0
HasNoMatchingLine chars left = NoSuchLine left.haystack (HasMatchIn chars left.program left.haystack) left.from (length left.haystack)

-- what is left after a line
abbrev pub after_line : {W : Type 0} → LinesLeft W → Span → LinesLeft W
after_line left line = record { program = left.program; haystack = left.haystack; from = line.end + 1 }

-- these are all lines with a match that are left, in order: each is the next one after those before it, and after the last there is none
abbrev pub AreAllMatchingLines : {W : Type 0} → (W → ℕ → Bool) → LinesLeft W → List Span → Type 0
AreAllMatchingLines chars left [] = HasNoMatchingLine chars left
AreAllMatchingLines chars left (line ∷ rest) = IsNextLine chars left line × AreAllMatchingLines chars (after_line left line) rest
