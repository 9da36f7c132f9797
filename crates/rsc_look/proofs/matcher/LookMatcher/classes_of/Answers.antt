-- The set has the boundaries of all members, which make the coarsest partition.
use Rattle.rsc_look.proofs.KeepingLemmas.{IsCoarsestMap-from}
use Rattle.rsc_look.proofs.BoundariesLemmas.{AreGathered-none, AreGathered-more, classes_whole}
use Rattle.rsc_look.specs.declared.assertion.Look.TheVariants.{Start}
use Rattle.rsc_look.proofs.matcher.LookMatcher.classes_of.Goals as goal

pub loop-look-init : goal.loop-look-init
loop-look-init g c = AreGathered-none c.args.looks.now c.args.self.now.0 c.empty-set.result c.empty-set.ensures.value

pub loop-look-preserved : goal.loop-look-preserved
loop-look-preserved g c =
    AreGathered-more c.loop-look.set c.add_to_byteset.new.set c.args.looks.now c.loop-look.look-index Start c.args.self.now.0 c.loop-look-test.true
    c.loop-look.invariant c.add_to_byteset.ensures.value

pub returns-clause-value : goal.returns-clause-value
returns-clause-value g c =
    classes_whole c.args.looks.now c.args.self.now.0 c.loop-look.look-index c.loop-look.set c.byte_classes.result c.loop-look-test.false c.loop-look.invariant
    c.byte_classes.ensures.value

-- without the answer above, so that a wrong set is refused here too
pub returns-clause-coarsest : goal.returns-clause-coarsest
returns-clause-coarsest g c =
    let classes = classes_whole c.args.looks.now c.args.self.now.0 c.loop-look.look-index c.loop-look.set c.byte_classes.result c.loop-look-test.false
    c.loop-look.invariant c.byte_classes.ensures.value in
    IsCoarsestMap-from c.byte_classes.result c.args.looks.now c.args.self.now.0 (g.W.WordClass.word_chars c.args.self.now.1) classes
