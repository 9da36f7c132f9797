use Rattle.rsc_captures.proofs.CapturesLemmas.{set_span, set_others}
use Rattle.rsc_captures.proofs.captures.Captures.set_group.Goals as goal

pub returns-clause-span : goal.returns-clause-span
returns-clause-span g c = set_span c.args.self.now c.write_group.new.self c.args.index c.args.span c.write_group.result _ c.write_group.ensures.accepted
    c.write_group.ensures.value

pub returns-clause-others : goal.returns-clause-others
returns-clause-others g c = set_others c.args.self.now c.write_group.new.self c.args.index c.args.span c.write_group.result _ c.write_group.ensures.accepted
    c.write_group.ensures.value c.write_group.ensures.kept
