use Rattle.std.proofs.Common.{◌∙◌, IfSome, IfNone}
use Rattle.rsc_engine.specs.Searches.{search_in}
use Rattle.rsc_engine.specs.Ends.{IsEarliestEnd}
use Rattle.rsc_engine.specs.Preferred.{HasNoFirstMatch}
use Rattle.rsc_engine.specs.OrderedLayout.{IsEndOf}
use Rattle.rsc_engine.specs.AheadLayout.{start_at}
use Rattle.rsc_engine.proofs.FirstBytesLayoutLemmas.{end-earlier, earliest-earlier, none-earlier, map_none}
use Rattle.rsc_engine.proofs.PassTableLayoutLemmas.{map_some}
use Rattle.rsc_engine.proofs.dfa.Dfa.end_of.Goals as goal

pub returns-then-lacks_needed-clause-none : goal.returns-then-lacks_needed-clause-none
returns-then-lacks_needed-clause-none g c = c.lacks_needed.ensures.none c.if-lacks_needed.true

pub returns-clause-some : goal.returns-clause-some
returns-clause-some g c = λ is.
    let e = search_in g.W.WordClass.word_chars c.args.self.now c.args.input.now in
    let s = c.first_begin.result in
    let part = c.part_from-rest.ensures in
    let ends : IfSome c.in_ok-found.found (λ f. IsEndOf (start_at e s) f.0 f.1) =
    (rw (c.self.view_is ∙ c.lacks_needed.ensures.kept, part.haystack, part.start, part.end, part.anchored) at c.in_ok-found.ensures.found) is in
    map_some c.in_ok-found.found (λ f. IsEndOf (start_at e s) f.0 f.1) (λ f. IsEndOf e f.0 f.1)
    (λ f x. end-earlier e s c.first_begin.ensures.low (rw c.lacks_needed.ensures.kept at c.first_begin.ensures.none)
    c.first_begin.ensures.anchored f.0 f.1 x) ends

pub returns-clause-earliest : goal.returns-clause-earliest
returns-clause-earliest g c = λ is.
    let e = search_in g.W.WordClass.word_chars c.args.self.now c.args.input.now in
    let s = c.first_begin.result in
    let part = c.part_from-rest.ensures in
    let ends : IfSome c.in_ok-found.found (λ f. IsEarliestEnd (start_at e s) f.1) =
    (rw (c.self.view_is ∙ c.lacks_needed.ensures.kept, part.haystack, part.start, part.end, part.anchored) at c.in_ok-found.ensures.earliest) is in
    map_some c.in_ok-found.found (λ f. IsEarliestEnd (start_at e s) f.1) (λ f. IsEarliestEnd e f.1)
    (λ f x. earliest-earlier e s c.first_begin.ensures.low (rw c.lacks_needed.ensures.kept at c.first_begin.ensures.none)
    c.first_begin.ensures.anchored f.1 x) ends

pub returns-clause-none : goal.returns-clause-none
returns-clause-none g c =
    let e = search_in g.W.WordClass.word_chars c.args.self.now c.args.input.now in
    let s = c.first_begin.result in
    let part = c.part_from-rest.ensures in
    let none : IfNone c.in_ok-found.found (HasNoFirstMatch (start_at e s)) =
    rw (c.self.view_is ∙ c.lacks_needed.ensures.kept, part.haystack, part.start, part.end, part.anchored) at c.in_ok-found.ensures.none in
    map_none c.in_ok-found.found (HasNoFirstMatch (start_at e s)) (HasNoFirstMatch e)
    (none-earlier e s c.first_begin.ensures.low (rw c.lacks_needed.ensures.kept at c.first_begin.ensures.none) c.first_begin.ensures.anchored) none
