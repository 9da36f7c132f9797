use Rattle.std.proofs.Common.{◌∙◌, refl}
use Rattle.rsc_look.specs.Holds.{Holds}
use Rattle.rsc_look.proofs.LookSetLayoutLemmas.{HasAsked-none, HasAsked-more, HasAsked-all}
use Rattle.rsc_look.proofs.matcher.LookMatcher.matches_set.Goals as goal

pub loop-look-init : goal.loop-look-init
loop-look-init g c = (
  tt,
  tt,
  HasAsked-none c.args.set c.into_iter-look-iterator.result
      (λ look. Holds look c.args.self.now.0 (g.W.WordClass.word_chars c.args.self.now.1) c.args.haystack.now c.args.at)
      (c.into_iter-look-iterator.ensures.into_iter_gives ∙ c.iter-look-items.ensures.value),
)

pub loop-look-preserved : goal.loop-look-preserved
loop-look-preserved g c = (
  tt,
  tt,
  HasAsked-more c.args.set c.in-Some.look c.loop-look.look-iterator c.next.new.self
      (λ look. Holds look c.args.self.now.0 (g.W.WordClass.word_chars c.args.self.now.1) c.args.haystack.now c.args.at) c.loop-look.invariant.2
      c.in-Some.ensures.steps (c.matches.ensures.value.0 c.if-not-matches.false),
)

pub returns : goal.returns
returns g c = (
  (λ h. HasAsked-all c.args.set c.loop-look.look-iterator
      (λ look. Holds look c.args.self.now.0 (g.W.WordClass.word_chars c.args.self.now.1) c.args.haystack.now c.args.at) c.loop-look.invariant.2
      c.in-None.ensures.steps.0),
  (λ each. refl),
)
