-- Which lines lie where, and in which no match is.
use Rattle.std.proofs.Common.{◌≡◌, ℕ, ◌+◌, ◌-◌, ◌<◌, ◌≤◌, ⊎_elim, List, length, refl, sym, ap₂, subst, arith, Option, Some, None, IfSome, IfNone}
use Rattle.std.proofs.lemmas.Bool.{cases_lt}
use Rattle.rsc_nfa.specs.Steps.{place}
use Rattle.rsc_search.specs.declared.span.Span.{Span}
use Rattle.rsc_search.specs.declared.anchored.Anchored.TheVariants.{No}
use Rattle.rsc_engine.specs.Searches.{Search}
use Rattle.rsc_engine.specs.Preferred.{HasNoFirstMatch}
use Rattle.rsc_engine.specs.Ends.{IsMatchEnd}
use Rattle.rsc_engine.specs.Lines.{BeginsLine, IsLine, NoSuchLine}
use Rattle.rsc_engine.specs.LinesLayout.{IsCandidate, EndsFrom}
use Rattle.rsc_engine.proofs.RunsLemmas.{match-wider}

-- ---- where lines lie

-- a line that begins before another position where one may begin ends before it
pub ends-before : (h : List ℕ) (line : Span) (at : ℕ) → IsLine h line → BeginsLine h at → line.start < at → line.end < at
ends-before h line at is begins l = ⊎_elim
    (λ (d : line.end < at). d)
    (λ (g : at ≤ line.end). absurd (is.inner (at - 1) (omega arith) (omega arith) (begins (omega arith))))
    (cases_lt line.end at)

-- two lines with one start are one
pub same-line : (h : List ℕ) (one other : Span) → IsLine h one → IsLine h other → one.start ≡ other.start → one ≡ other
same-line h one other is its same =
    ap₂ (λ s e. record { start = s; end = e }) same (omega (arith, no_less one other is its same, no_less other one its is (sym same)))
  where
    no_less : (a b : Span) → IsLine h a → IsLine h b → a.start ≡ b.start → b.end ≤ a.end
    no_less a b x y e = ⊎_elim
        (λ (l : a.end < b.end). absurd (y.inner a.end (omega (arith, x.order, e)) l (x.ends (omega (arith, l, y.within)))))
        (λ (g : b.end ≤ a.end). g)
        (cases_lt a.end b.end)

-- a line that begins up to the end of another one is that one, or begins before it
pub in-line : (h : List ℕ) (line other : Span) → IsLine h line → IsLine h other → line.start ≤ other.start → other.start < line.end + 1
    → line ≡ other
in-line h line other is its low high = ⊎_elim
    (λ (l : line.start < other.start). absurd (omega (arith, high, ends-before h line other.start is its.begins l)))
    (λ (g : other.start ≤ line.start). same-line h line other is its (omega arith))
    (cases_lt line.start other.start)

-- ---- of which lines none is such a one

pub none-joined : (h : List ℕ) (IsSuch : Span → Type 0) (a b c : ℕ) → NoSuchLine h IsSuch a b → NoSuchLine h IsSuch b c → NoSuchLine h IsSuch a c
none-joined h IsSuch a b c one other line is low high = ⊎_elim
    (λ (l : line.start < b). one line is low l)
    (λ (g : b ≤ line.start). other line is g high)
    (cases_lt line.start b)

-- a line that isn't, with those before it
pub none-past : (h : List ℕ) (IsSuch : Span → Type 0) (a at : ℕ) (line : Span) → NoSuchLine h IsSuch a at → IsCandidate h IsSuch at line
    → ¬ (IsSuch line)
    → NoSuchLine h IsSuch a (line.end + 1)
none-past h IsSuch a at line before c is_none = none-joined h IsSuch a at (line.end + 1) before
    (none-joined h IsSuch at line.start (line.end + 1) c.none_before
    (λ other its low high is_such. is_none (subst IsSuch (sym (in-line h line other c.is_line its low high)) is_such)))

-- a line begins after the line feed that ends another
pub begins-after : (h : List ℕ) (line : Span) → IsLine h line → line.end + 1 < length h → BeginsLine h (line.end + 1)
begins-after h line is l = let e : line.end + 1 - 1 ≡ line.end = omega arith in λ some. rw e (is.ends (omega (arith, l)))

-- ---- matches in lines

-- where no match of the whole ends up to a position there is none in a part that ends there
pub none-in-part : (e : Search) (from n : ℕ) → e.start ≤ from → n ≤ e.end → e.mode ≡ No → ((j : ℕ) → j ≤ n → ¬ (IsMatchEnd e j))
    → HasNoFirstMatch (record e { start = from; end = n })
none-in-part e from n low high free none at may run m = none (place run (length run - 1)).1 within record {
  from = at;
  run = run;
  begins = record { start = omega (arith, low, may.start); end = omega (arith, may.end, high); anchored = λ a. absurd (a free) };
  is_match = match-wider e from n (e.start_state, at) run low high m;
  ends = refl;
}
  where
    within : (place run (length run - 1)).1 ≤ n
    within = (m.is_run.places (length run - 1) (omega (arith, m.some))).2

-- where a match ends is in the span
pub end-within : (e : Search) (i : ℕ) → IsMatchEnd e i → (e.start ≤ i) × (i ≤ e.end)
end-within e i x =
    let last = x.is_match.is_run.places (length x.run - 1) (omega (arith, x.is_match.some)) in
    (omega (arith, last.1, x.ends), omega (arith, last.2, x.ends))

abbrev HasMatchOf : Search → Span → Type 0
HasMatchOf e line = ¬ (HasNoFirstMatch (record e { start = line.start; end = line.end }))

-- no line before the one with a position has a match, if no match ends before the position
none-before-end : (e : Search) (i at : ℕ) → e.mode ≡ No → e.end ≡ length e.haystack → EndsFrom e i → at ≤ i → BeginsLine e.haystack at
    → NoSuchLine e.haystack (HasMatchOf e) e.start at
none-before-end e i at free whole none low begins line is from before some =
    some (none-in-part e line.start line.end from (omega (arith, is.within, whole)) free
    (λ j l. none.none_before j (omega (arith, l, low, ends-before e.haystack line at is begins before))))

pub candidate-around : (e : Search) (i : ℕ) (found : Option Span) → e.mode ≡ No → e.end ≡ length e.haystack → EndsFrom e i
    → IfSome found (λ line. IsLine e.haystack line) → IfSome found (λ line. (e.start ≤ line.start) × (line.start ≤ i))
    → IfSome found (IsCandidate e.haystack (HasMatchOf e) e.start)
candidate-around e i None free whole none is there = tt
candidate-around e i (Some line) free whole none is there = record {
  is_line = is;
  from = there.0;
  none_before = none-before-end e i line.start free whole none there.1 is.begins;
}

pub none-around : (e : Search) (i : ℕ) (found : Option Span) → e.mode ≡ No → e.end ≡ length e.haystack → EndsFrom e i
    → IfNone found (BeginsLine e.haystack (length e.haystack) × (length e.haystack ≤ i))
    → IfNone found (NoSuchLine e.haystack (HasMatchOf e) e.start (length e.haystack))
none-around e i None free whole none after = none-before-end e i (length e.haystack) free whole none after.1 after.0
none-around e i (Some line) free whole none after = tt

-- no line from the search's start on has a match, if the search has none
pub none-of-search : (e : Search) (to : ℕ) → e.mode ≡ No → e.end ≡ length e.haystack → HasNoFirstMatch e
    → NoSuchLine e.haystack (HasMatchOf e) e.start to
none-of-search e to free whole none line is from before some =
    some (none-in-part e line.start line.end from (omega (arith, is.within, whole)) free (λ j l x. none x.from x.begins x.run x.is_match))
