use Rattle.std.proofs.Common.{◌≡◌, ap, drop, length, rules}
use Rattle.std.proofs.lemmas.List.{take_at}
use Rattle.rsc_captures.specs.Captured.{refilled}
use Rattle.rsc_engine.specs.Searches.{search_in}
use Rattle.rsc_engine.proofs.BackwardLemmas.{end-low, end-high}
use Rattle.rsc_engine.proofs.AlongLemmas.{first-match, start-before-end, start-arrives, goes-to, along-records}
use Rattle.rsc_engine.proofs.dfa.along.match_along.Goals as goal

pub part_of-part-requires-clause-low : goal.part_of-part-requires-clause-low
part_of-part-requires-clause-low g c = end-low _ c.args.pattern c.args.end c.requires.end

pub part_of-part-requires-clause-high : goal.part_of-part-requires-clause-high
part_of-part-requires-clause-high g c = end-high _ c.args.pattern c.args.end c.requires.end

pub record_along-recorded-requires-clause-begins : goal.record_along-recorded-requires-clause-begins
record_along-recorded-requires-clause-begins g c =
    let part = c.part_of-part.ensures in
    rw (part.haystack, part.start, part.end, part.anchored) (start-arrives _ c.args.pattern c.in_ok-start.start c.args.end c.in_ok-start.ensures.start)

pub record_along-recorded-requires-clause-log : goal.record_along-recorded-requires-clause-log
record_along-recorded-requires-clause-log g c =
    let part = c.part_of-part.ensures in
    rw (c.as_slice.ensures.value, part.haystack, part.start, part.end, part.anchored) c.in_ok-start.ensures.log

pub record_along-recorded-requires-clause-known : goal.record_along-recorded-requires-clause-known
record_along-recorded-requires-clause-known g c =
    let part = c.part_of-part.ensures in
    rw (part.haystack, part.start, part.end, part.anchored) (goes-to _ c.args.pattern c.in_ok-start.start c.args.end c.in_ok-start.ensures.start)

pub new-requires : goal.new-requires
new-requires g c = start-before-end _ c.args.pattern c.in_ok-start.start c.args.end c.in_ok-start.ensures.start

pub returns-in-Ok-clause-found : goal.returns-in-Ok-clause-found
returns-in-Ok-clause-found g c =
    let e = search_in g.W.WordClass.word_chars c.args.plan.now.program.now c.args.input.now in
    let x = c.in_ok-start.ensures.start in
    let part = c.part_of-part.ensures in
    let records = along-records e c.args.pattern c.in_ok-start.start c.args.end _ _ x c.record_along-recorded.new.slots
    (rw (part.haystack, part.start, part.end, part.anchored) at c.in-Ok.ensures.recorded) in
    let whole : refilled c.args.captures.now.offsets c.record_along-recorded.new.slots ≡ c.record_along-recorded.new.slots =
    take_at c.record_along-recorded.new.slots (drop (length c.record_along-recorded.new.slots) c.args.captures.now.offsets)
    (length c.args.captures.now.offsets) (search rules) in
    first-match e c.args.pattern c.in_ok-start.start c.args.end x c.set_pattern.new.self c.new.result (ap (λ m. m.pattern) c.new.ensures)
    (ap (λ m. m.span.start) c.new.ensures) (ap (λ m. m.span.end) c.new.ensures) (ap (λ s. s.pattern) c.set_pattern.ensures)
    (rw (c.set_pattern.ensures, whole) records)
