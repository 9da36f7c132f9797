use Rattle.std.proofs.Common.{◌≡◌, ap, arith, drop, length, rules}
use Rattle.std.proofs.lemmas.List.{take_at}
use Rattle.rsc_captures.specs.Captured.{refilled}
use Rattle.rsc_engine.specs.Searches.{search_in}
use Rattle.rsc_engine.proofs.AlongLemmas.{first-match, start-before-end}
use Rattle.rsc_engine.proofs.BackwardLemmas.{end-high}
use Rattle.rsc_engine.proofs.GroupEndsLemmas.{ends-records}
use Rattle.rsc_engine.proofs.dfa.whole.match_whole.Goals as goal

pub set_ends-requires-clause-start : goal.set_ends-requires-clause-start
set_ends-requires-clause-start g c =
    let low = start-before-end _ c.args.pattern c.in_ok-start.start c.args.end c.in_ok-start.ensures.start in
    omega (arith, low, end-high _ c.args.pattern c.args.end c.requires.end, c.end-end.ensures.value, c.end-end.ensures.most)

pub set_ends-requires-clause-end : goal.set_ends-requires-clause-end
set_ends-requires-clause-end g c = omega (arith, end-high _ c.args.pattern c.args.end c.requires.end, c.end-end.ensures.value, c.end-end.ensures.most)

pub new-requires : goal.new-requires
new-requires g c = start-before-end _ c.args.pattern c.in_ok-start.start c.args.end c.in_ok-start.ensures.start

pub returns-clause-found : goal.returns-clause-found
returns-clause-found g c =
    let e = search_in g.W.WordClass.word_chars c.args.plan.now.program.now c.args.input.now in
    let x = c.in_ok-start.ensures.start in
    let whole : refilled c.args.captures.now.offsets c.set_ends.new.slots ≡ c.set_ends.new.slots =
    take_at c.set_ends.new.slots (drop (length c.set_ends.new.slots) c.args.captures.now.offsets)
    (length c.args.captures.now.offsets) (search rules) in
    let len : length c.set_ends.new.slots ≡ length c.args.captures.now.offsets = search rules in
    first-match e c.args.pattern c.in_ok-start.start c.args.end x c.set_pattern.new.self c.new.result (ap (λ m. m.pattern) c.new.ensures)
    (ap (λ m. m.span.start) c.new.ensures) (ap (λ m. m.span.end) c.new.ensures) (ap (λ s. s.pattern) c.set_pattern.ensures)
    (rw (c.set_pattern.ensures, whole)
    (ends-records g.W.WordClass.word_chars c.args.plan.now.program.now c.args.input.now c.args.pattern c.in_ok-start.start c.args.end
    c.set_ends.new.slots c.requires.ends x (omega (arith, len, c.requires.few)) c.set_ends.ensures))
