use Rattle.std.proofs.Common.{◌∙◌, ℕ, ◌+◌, ◌<◌, length, sym, subst, arith}
use Rattle.rsc_captures.specs.Groups.{slot_number}
use Rattle.rsc_engine.specs.Searches.{search_in}
use Rattle.rsc_engine.specs.Runs.{IsMatchRun}
use Rattle.rsc_engine.specs.Patterns.{subject_of}
use Rattle.rsc_engine.proofs.WaysLemmas.{group-goes, span-goes}
use Rattle.rsc_engine.proofs.laws.a_group_is_where_its_part_goes.Goals as goal

pub returns-clause-first : goal.returns-clause-first
returns-clause-first g c = λ program patterns input captures found p part group i r f its there is l at.
    let e = search_in g.W.WordClass.word_chars program input in
    let slot : ℕ = slot_number program.automaton.groups found.pattern group in
    let w = r.way input f.run found p
    (subst (λ (k : ℕ). IsMatchRun (search_in g.W.WordClass.word_chars program input) (program.start, k) f.run) (sym f.is_of.ends.start)
    f.is_first.preferred.is_match) f.is_of.ends its in
    let first : slot < length captures.offsets = omega (arith, l) in
    let goes = group-goes (subject_of e) program.automaton.groups found.pattern p part group i found.span.start found.span.end w.0 there is w.1
    (sym (w.2 slot) ∙ (sym (f.is_of.records slot first) ∙ at)) in
    (goes.0, f.is_of.records (slot + 1) l ∙ (w.2 (slot + 1) ∙ goes.1), goes.2)

pub returns-clause-next : goal.returns-clause-next
returns-clause-next g c = λ program patterns input last captures found p part group i r f its there is l at.
    let e = search_in g.W.WordClass.word_chars program input in
    let slot : ℕ = slot_number program.automaton.groups found.pattern group in
    let w = r.way input f.run found p
    (subst (λ (k : ℕ). IsMatchRun (search_in g.W.WordClass.word_chars program input) (program.start, k) f.run) (sym f.is_of.ends.start)
    f.is_next.preferred.is_match) f.is_of.ends its in
    let first : slot < length captures.offsets = omega (arith, l) in
    let goes = group-goes (subject_of e) program.automaton.groups found.pattern p part group i found.span.start found.span.end w.0 there is w.1
    (sym (w.2 slot) ∙ (sym (f.is_of.records slot first) ∙ at)) in
    (goes.0, f.is_of.records (slot + 1) l ∙ (w.2 (slot + 1) ∙ goes.1), goes.2)

pub returns-clause-first_span : goal.returns-clause-first_span
returns-clause-first_span g c = λ program patterns input captures found p part group span r f its same there is at.
    let e = search_in g.W.WordClass.word_chars program input in
    let w = r.way input f.run found p
    (subst (λ (k : ℕ). IsMatchRun (search_in g.W.WordClass.word_chars program input) (program.start, k) f.run) (sym f.is_of.ends.start)
    f.is_first.preferred.is_match) f.is_of.ends its in
    span-goes (subject_of e) program.automaton.groups found.pattern p part group found.span.start found.span.end w.0 captures span there same f.is_of.pattern
    is w.1 (λ slot l. f.is_of.records slot l ∙ w.2 slot) at

pub returns-clause-next_span : goal.returns-clause-next_span
returns-clause-next_span g c = λ program patterns input last captures found p part group span r f its same there is at.
    let e = search_in g.W.WordClass.word_chars program input in
    let w = r.way input f.run found p
    (subst (λ (k : ℕ). IsMatchRun (search_in g.W.WordClass.word_chars program input) (program.start, k) f.run) (sym f.is_of.ends.start)
    f.is_next.preferred.is_match) f.is_of.ends its in
    span-goes (subject_of e) program.automaton.groups found.pattern p part group found.span.start found.span.end w.0 captures span there same f.is_of.pattern
    is w.1 (λ slot l. f.is_of.records slot l ∙ w.2 slot) at
