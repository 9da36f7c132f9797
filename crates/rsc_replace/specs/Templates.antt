-- What a template stands for: `$$` for a dollar sign, `$name` and `${name}` for the bytes of a group, and each other byte for itself.
use Rattle.std.specs.Prelude.{ℕ, ◌+◌, ◌^◌, ◌==◌, nat_lt, ◌&&◌, not, zero, suc, List, [], ◌∷◌, ◌++◌, length, take, drop, slice_index, Option, Some, None, unwrap_or, option_and_then, if◌then◌else◌}
use Rattle.std.specs.List.{prefix_len}
use Rattle.std.specs.Option.{option_map_or}
use Rattle.std.specs.Str.{is_utf8, all_ascii_digits}
use Rattle.std.specs.Str.Parse.{digits_value, without_leading_plus}
use Rattle.rsc_primitives.specs.Utf8.{is_word_byte}
use Rattle.rsc_search.specs.declared.span.Span.{Span}
use Rattle.rsc_search.specs.Spans.{cut}
use Rattle.rsc_captures.specs.Captured.{Captured, group_span, named_span}

-- the byte `$`
abbrev pub dollar : ℕ
dollar = 0x24

-- the byte `{`
abbrev pub opening : ℕ
opening = 0x7B

-- the byte `}`
abbrev pub closing : ℕ
closing = 0x7D

-- the number that a name is, if `parse` reads it as a `usize`: decimal digits, before which a plus may stand
unfoldable pub as_number : List ℕ → Option ℕ
as_number name =
    let digits = without_leading_plus name in
    if nat_lt 0 (length digits) && (all_ascii_digits digits && nat_lt (digits_value 10 digits) (2 ^ 64)) then Some (digits_value 10 digits) else None

-- the span of the group that a name in a template stands for: the group with this number, or else with this name
abbrev pub span_called : Captured → List ℕ → Option Span
span_called captures name = option_map_or (group_span captures) (as_number name) (named_span captures name)

-- the bytes of a text in a group's span; none where the group took no part, or isn't there
abbrev pub bytes_of : List ℕ → Option Span → List ℕ
bytes_of text span = unwrap_or (option_and_then (cut text) span) []

-- how many bytes stand before the first one of this value; all, if it isn't there
abbrev pub count_before : ℕ → List ℕ → ℕ
count_before b bytes = prefix_len (λ other. not (other == b)) bytes

-- a name without braces, and how many bytes it has: the longest run of word bytes
abbrev pub bare_name : List ℕ → Option (List ℕ × ℕ)
bare_name rest = let count = prefix_len is_word_byte rest in if nat_lt 0 count then Some (take count rest, count) else None

-- after `${`: the name before the first `}`, if it is UTF-8, and how many bytes it has with both braces
abbrev pub braced_name : List ℕ → Option (List ℕ × ℕ)
braced_name rest =
    let count = count_before closing rest in
    if nat_lt count (length rest) && is_utf8 (take count rest) then Some (take count rest, count + 2) else None

-- after `$`: the name of a group, and how many bytes the reference has
abbrev pub reference : List ℕ → Option (List ℕ × ℕ)
reference rest = if slice_index rest 0 == opening then braced_name (drop 1 rest) else bare_name rest

-- what a `$` stands for, together with the bytes after it that belong to it, and how many these are
abbrev pub dollar_piece : List ℕ → Captured → List ℕ → List ℕ × ℕ
dollar_piece text captures rest =
    if slice_index rest 0 == dollar then (dollar ∷ [], 1)
    else option_map_or (λ found. (bytes_of text (span_called captures found.0), found.1)) (reference rest) (dollar ∷ [], 0)

-- what a template stands for, without its first bytes, which belong to what was read before
unfoldable pub filled_after : List ℕ → Captured → List ℕ → ℕ → List ℕ
filled_after text captures [] passed = []
filled_after text captures (b ∷ rest) (suc passed) = filled_after text captures rest passed
filled_after text captures (b ∷ rest) zero =
    if b == dollar
    then (dollar_piece text captures rest).0 ++ filled_after text captures rest (dollar_piece text captures rest).1
    else b ∷ filled_after text captures rest zero

-- what a template stands for, given the captures of a match in the text
abbrev pub filled : List ℕ → Captured → List ℕ → List ℕ
filled text captures template = filled_after text captures template 0
