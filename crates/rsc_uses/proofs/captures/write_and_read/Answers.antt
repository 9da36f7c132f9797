use Rattle.std.proofs.Common.{◌≡◌, ap, ◌∙◌}
use Rattle.rsc_captures.specs.Captured.{group_span}
use Rattle.rsc_uses.proofs.CapturesLemmas.{span_written}
use Rattle.rsc_uses.proofs.captures.write_and_read.Goals as goal

pub returns : goal.returns
returns c =
    let groups : c.set_pattern.new.self.groups ≡ c.args.info = ap (λ k. k.groups) c.set_pattern.ensures ∙ ap (λ k. k.groups) c.in_ok-captures.ensures in
    c.get_group.ensures.value ∙ ap (λ k. group_span k c.args.group) c.write_span.ensures.written
    ∙ span_written c.set_pattern.new.self c.args.pid c.args.group c.args.start c.args.end (ap (λ k. k.pattern) c.set_pattern.ensures)
    (rw groups c.requires.pattern) (rw groups c.requires.group) c.write_span.ensures.within
