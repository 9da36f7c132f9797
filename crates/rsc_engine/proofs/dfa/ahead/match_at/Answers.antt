use Rattle.std.proofs.Common.{◌≡◌, ◌∙◌, ap, drop, length, rules}
use Rattle.std.proofs.lemmas.List.{take_at}
use Rattle.rsc_captures.specs.Captured.{refilled}
use Rattle.rsc_engine.specs.Searches.{search_in}
use Rattle.rsc_engine.proofs.AheadLayoutLemmas.{ahead-order, match-at}
use Rattle.rsc_engine.proofs.AlongLemmas.{goes-within}
use Rattle.rsc_engine.proofs.dfa.ahead.match_at.Goals as goal

pub new-requires : goal.new-requires
new-requires g c =
    ahead-order (search_in g.W.WordClass.word_chars c.args.program.now c.args.input.now) c.args.start c.in-Ok.last.0 c.in-Ok.last.1
    c.in-Ok.ensures.recorded.goes

pub returns-in-Ok-clause-found : goal.returns-in-Ok-clause-found
returns-in-Ok-clause-found g c =
    let e = search_in g.W.WordClass.word_chars c.args.program.now c.args.input.now in
    let slots = c.record_along-recorded.new.slots in
    let whole : refilled c.args.captures.now.offsets slots ≡ slots =
    take_at slots (drop (length slots) c.args.captures.now.offsets) (length c.args.captures.now.offsets) (search rules) in
    match-at e c.args.start c.in-Ok.last.0 c.in-Ok.last.1 slots c.set_pattern.new.self c.new.result c.in-Ok.ensures.recorded
    (ap (λ s. s.offsets) c.set_pattern.ensures ∙ whole) (ap (λ s. s.pattern) c.set_pattern.ensures)
    (ap (λ m. m.pattern) c.new.ensures) (ap (λ m. m.span.start) c.new.ensures) (ap (λ m. m.span.end) c.new.ensures)

pub returns-in-Ok-clause-end : goal.returns-in-Ok-clause-end
returns-in-Ok-clause-end g c =
    rw c.new.ensures (goes-within (search_in g.W.WordClass.word_chars c.args.program.now c.args.input.now) c.args.start c.in-Ok.last.0 c.in-Ok.last.1
    c.in-Ok.ensures.recorded.goes)
