use Rattle.std.proofs.Common.{◌≡◌, ap, subst, arith}
use Rattle.rsc_engine.specs.Searches.{search_in}
use Rattle.rsc_engine.specs.AheadLayout.{IsNextBegin, IsMatchAt}
use Rattle.rsc_engine.proofs.AheadLayoutLemmas.{ahead-first, ahead-none}
use Rattle.rsc_engine.proofs.dfa.ahead.Ahead.find.Goals as goal

pub returns-in_default-clause-none : goal.returns-in_default-clause-none
returns-in_default-clause-none g c =
    ahead-none (search_in g.W.WordClass.word_chars c.args.self.now.program c.args.self.now.input) c.args.from c.requires
    (rw c.in_default.is at c.next_begin.ensures.none)

pub match_at-requires-clause-begins : goal.match_at-requires-clause-begins
match_at-requires-clause-begins g c =
    let e = search_in g.W.WordClass.word_chars c.args.self.now.program c.args.self.now.input in
    let next : IsNextBegin e c.args.from c.in-Some.start = rw c.in-Some.is at c.next_begin.ensures.some in
    rw (← c.self.view_is) at next.begins

pub match_at-requires-clause-log : goal.match_at-requires-clause-log
match_at-requires-clause-log g c = λ b low high.
    let e = search_in g.W.WordClass.word_chars c.args.self.now.program c.args.self.now.input in
    let next : IsNextBegin e c.args.from c.in-Some.start = rw c.in-Some.is at c.next_begin.ensures.some in
    let start : c.self.inside.input.span.start ≡ c.args.self.now.input.span.start = ap (λ w. w.input.span.start) c.self.view_is in
    rw c.as_slice.ensures.value (c.self.invariant b (omega (arith, low, next.may.start, c.requires, start)) high)

pub returns-clause-found : goal.returns-clause-found
returns-clause-found g c =
    let e = search_in g.W.WordClass.word_chars c.args.self.now.program c.args.self.now.input in
    let next : IsNextBegin e c.args.from c.in-Some.start = rw c.in-Some.is at c.next_begin.ensures.some in
    let at : IsMatchAt e c.in-Some.start c.match_at.new.captures c.in_ok-found.found =
    subst (λ w. IsMatchAt (search_in g.W.WordClass.word_chars w.program w.input) c.in-Some.start c.match_at.new.captures c.in_ok-found.found)
    c.self.view_is c.in_ok-found.ensures.found in
    ahead-first e c.args.from c.in-Some.start c.match_at.new.captures c.in_ok-found.found c.requires next at
