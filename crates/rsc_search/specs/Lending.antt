-- What writing through a part of a haystack does to the haystack.
use Rattle.std.specs.Prelude.{ℕ, List, ◌++◌, take, drop, Option}
use Rattle.std.specs.Borrow.{LendsIf, MutBor, Fml, Array, u8}
use Rattle.rsc_search.specs.declared.span.Span.{Span}

-- the haystack with other bytes instead of those from the span's start up to its end
abbrev pub with_part : List ℕ → Span → List ℕ → List ℕ
with_part haystack s part = take s.start haystack ++ (part ++ drop s.end haystack)

-- r lends the span's bytes: the haystack ends with what is last written through r instead, or as it was where r is `None`
abbrev pub LendsCut : MutBor (List ℕ) → Span → Option (MutBor (List ℕ)) → Fml
LendsCut haystack s r = LendsIf (Array u8 0) (Array u8 0) haystack r (with_part haystack.now s) haystack.now
