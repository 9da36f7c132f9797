use Rattle.std.proofs.Common.{refl, length}
use Rattle.rsc_engine.specs.Preferred.{HasNoFirstMatch}
use Rattle.rsc_engine.specs.LinesLayout.{EndsFrom, search_from}
use Rattle.rsc_engine.proofs.LinesLemmas.{candidate-around, none-around, none-of-search}
use Rattle.rsc_engine.proofs.lines.candidate.Goals as goal

pub returns-in_default-clause-none : goal.returns-in_default-clause-none
returns-in_default-clause-none g c =
    let e = search_from g.W.WordClass.word_chars c.args.dfa.now c.args.haystack.now c.args.from in
    let none : HasNoFirstMatch e = rw c.in_default.is at c.in_ok-at.ensures.none in
    none-of-search e (length c.args.haystack.now) refl refl none

pub returns-clause-some : goal.returns-clause-some
returns-clause-some g c =
    let e = search_from g.W.WordClass.word_chars c.args.dfa.now c.args.haystack.now c.args.from in
    let from : EndsFrom e c.in-Some.at = rw c.in-Some.is at c.in_ok-at.ensures.some in
    candidate-around e c.in-Some.at c.line_around.result refl refl from c.line_around.ensures.some c.line_around.ensures.there

pub returns-clause-none : goal.returns-clause-none
returns-clause-none g c =
    let e = search_from g.W.WordClass.word_chars c.args.dfa.now c.args.haystack.now c.args.from in
    let from : EndsFrom e c.in-Some.at = rw c.in-Some.is at c.in_ok-at.ensures.some in
    none-around e c.in-Some.at c.line_around.result refl refl from c.line_around.ensures.none
