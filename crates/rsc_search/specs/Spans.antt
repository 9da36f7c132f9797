-- Spans, and what they cut out of a haystack.
use Rattle.std.specs.Prelude.{ℕ, ◌==◌, Bool, ◌&&◌, ◌||◌, List, ◌++◌, codes, length, nat_le, nat_lt, slice_index, slice_range, Option, Some, None, if◌then◌else◌}
use Rattle.std.specs.Fmt.{decimal}
use Rattle.rsc_search.specs.declared.span.Span.{Span}

-- two spans have one start and one end
abbrev pub same_span : Span → Span → Bool
same_span s t = s.start == t.start && s.end == t.end

-- the position is a character boundary: the end of the text, or a byte is there that continues no character
abbrev pub is_char_boundary : List ℕ → ℕ → Bool
is_char_boundary text i = i == length text || (nat_lt i (length text) && (nat_le (slice_index text i) 0x7F || nat_le 0xC0 (slice_index text i)))

-- the bytes from the span's start to its end, where these are positions of the haystack in this order
abbrev pub cut : List ℕ → Span → Option (List ℕ)
cut haystack s = if nat_le s.start s.end && nat_le s.end (length haystack) then Some (slice_range haystack s.start s.end) else None

-- the bytes that a span cuts out of a text, where both ends are also character boundaries
abbrev pub cut_text : List ℕ → Span → Option (List ℕ)
cut_text text s = if is_char_boundary text s.start && is_char_boundary text s.end then cut text s else None

-- the text of a span
abbrev pub span_text : Span → List ℕ
span_text s = decimal s.start ++ codes ".." ++ decimal s.end
