-- What a span cuts out of a haystack, case by case.
use Rattle.std.proofs.Common.{◌≡◌, ℕ, ◌+◌, ◌-◌, ◌<◌, ◌≤◌, List, ◌++◌, length, take, drop, Some, None, sym, ap, ◌∙◌, arith, drop-drop}
use Rattle.std.proofs.lemmas.Grind.{common_steps}
use lib.ListN.{take-append-drop}
use Rattle.rsc_search.specs.declared.span.Span.{Span}
use Rattle.rsc_search.specs.Spans.{cut}

-- nothing is cut by an end before the start, or past the haystack
pub cut_reversed : (haystack : List ℕ) (s : Span) → s.end < s.start → cut haystack s ≡ None
cut_reversed haystack s lt = grind (arith, common_steps)

-- a span past the haystack cuts nothing out
pub cut_past : (haystack : List ℕ) (s : Span) → length haystack < s.end → cut haystack s ≡ None
cut_past haystack s lt = grind (arith, common_steps)

-- a span within it cuts out the bytes between its ends
pub cut_within : (haystack : List ℕ) (s : Span) → s.start ≤ s.end → s.end ≤ length haystack
    → cut haystack s ≡ Some (take (s.end - s.start) (drop s.start haystack))
cut_within haystack s order within = grind (arith, common_steps)

-- a list is what is before a part, the part, and what is after it
pub cut_apart : (xs : List ℕ) (i j : ℕ) → i ≤ j → xs ≡ take i xs ++ (take (j - i) (drop i xs) ++ drop j xs)
cut_apart xs i j order =
    let past : i + (j - i) ≡ j = omega arith in
    let rest : drop (j - i) (drop i xs) ≡ drop j xs = drop-drop (j - i) i xs ∙ ap (λ (k : ℕ). drop k xs) past in
    sym (take-append-drop i xs) ∙ ap (λ (l : List ℕ). take i xs ++ l)
    (sym (take-append-drop (j - i) (drop i xs)) ∙ ap (λ (l : List ℕ). take (j - i) (drop i xs) ++ l) rest)
