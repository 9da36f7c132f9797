-- All matches of a program, or all lines, one after the other.
use Rattle.std.specs.Option.{ForSome}
use Rattle.std.proofs.Common.{◌≡◌, ℕ, ◌+◌, ◌-◌, ◌<◌, ◌≤◌, Option, None, Some, Bool, List, [], ◌∷◌, ◌++◌, refl, sym, ap, subst, arith}
use Rattle.rsc_search.specs.Matches.{Matched}
use Rattle.rsc_engine.specs.Searches.{search_in}
use Rattle.rsc_search.specs.declared.span.Span.{Span}
use Rattle.rsc_engine.specs.Lines.{LinesLeft, IsNextLine, HasNoMatchingLine, AreAllMatchingLines, after_line}
use Rattle.rsc_engine.specs.NextMatches.{MatchesLeft, IsNextOfLeft, IsOver, AreAllMatches, after}

-- these are the first of what is left, after each is left what `go` says, and then the other is left
unfoldable pub AreFirst : {S X : Type 0} → (S → X → Type 0) → (S → X → S) → S → List X → S → Type 0
AreFirst Next go left [] end = left ≡ end
AreFirst Next go left (one ∷ rest) end = Next left one × AreFirst Next go (go left one) rest end

pub first_none : {S X : Type 0} (Next : S → X → Type 0) (go : S → X → S) (left : S) → AreFirst Next go left [] left
unfolding AreFirst
first_none Next go left = refl

-- one more
pub first_more : {S X : Type 0} (Next : S → X → Type 0) (go : S → X → S) (left : S) (all : List X) (end : S) (one : X)
    → AreFirst Next go left all end → Next end one → AreFirst Next go left (all ++ one ∷ []) (go end one)
unfolding AreFirst
first_more {S = S} Next go left [] end one same next = (subst (λ (x : S). Next x one) (sym same) next, ap (λ (x : S). go x one) same)
first_more Next go left (other ∷ rest) end one first next = (first.0, first_more Next go (go left other) rest end one first.1 next)

-- and none after the last
pub first_all : {W : Type 0} (chars : W → ℕ → Bool) (left : MatchesLeft W) (all : List Matched) (end : MatchesLeft W)
    → AreFirst (IsNextOfLeft chars) after left all end → IsOver (search_in chars end.program end.input) end.last → AreAllMatches chars left all
unfolding AreFirst
first_all {W = W} chars left [] end same over = subst (λ (x : MatchesLeft W). IsOver (search_in chars x.program x.input) x.last) (sym same) over
first_all chars left (one ∷ rest) end first over = (first.0, first_all chars (after left one) rest end first.1 over)

-- and no line after the last
pub lines_all : {W : Type 0} (chars : W → ℕ → Bool) (left : LinesLeft W) (all : List Span) (end : LinesLeft W)
    → AreFirst (IsNextLine chars) after_line left all end → HasNoMatchingLine chars end → AreAllMatchingLines chars left all
unfolding AreFirst
lines_all {W = W} chars left [] end same none = subst (λ (x : LinesLeft W). HasNoMatchingLine chars x) (sym same) none
lines_all chars left (line ∷ rest) end first none = (first.0, lines_all chars (after_line left line) rest end first.1 none)
