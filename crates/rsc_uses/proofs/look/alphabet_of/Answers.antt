use Rattle.std.proofs.Common.{◌∙◌, ◌||◌, ◌∷◌, [], ap, take, get_or, subst, refl, arith}
use Rattle.std.specs.FinSet as sets
use Rattle.std.specs.FinSet.{contains-union}
use Rattle.std.specs.Cmp.{nat_cmp_total}
use Rattle.std.proofs.Math.Bool.{or-true}
use Rattle.std.proofs.lemmas.List.{take_all, take_more}
use Rattle.std.proofs.lemmas.List.Elements.{Contains-get_or}
use Rattle.rsc_look.specs.declared.assertion.Look.TheVariants.{Start}
use Rattle.rsc_look.specs.Boundaries.{boundaries_of_look}
use Rattle.rsc_look.specs.Keeping.{Keeps}
use Rattle.rsc_uses.proofs.look.alphabet_of.Goals as goal

pub loop-look-init : goal.loop-look-init
loop-look-init g c = record {
  keeps = λ q h. c.kept_lists_are_joined.ensures.empty q c.args.matcher.now.0 (g.W.WordClass.word_chars c.args.matcher.now.1);
  stops = λ any. rw (c.add_set.ensures.members 127, c.quit_bytes.ensures 127 (omega arith), c.quit_bytes.ensures 128 (omega arith), any) (or-true _);
}

pub loop-look-preserved : goal.loop-look-preserved
loop-look-preserved g c = record {
  keeps = λ q h.
      let t = c.args.matcher.now.0 in
      let W = g.W.WordClass.word_chars c.args.matcher.now.1 in
      let looks = c.args.looks.now in
      let i = c.loop-look.look-index in
      let look = get_or looks i Start in
      let added = boundaries_of_look look t in
      let exact = c.add_to_byteset.ensures.boundaries (c.requires.words look (Contains-get_or looks i Start c.loop-look-test.true)) in
      rw (take_more looks i Start c.loop-look-test.true)
      (c.kept_lists_are_joined.ensures.both q (take i looks) (look ∷ []) t W
      (c.loop-look.invariant.keeps q
      (λ b lt e. h b lt (rw c.add_to_byteset.ensures.value
      (contains-union nat_cmp_total c.loop-look.set added b ∙ ap (λ x. x || sets.contains added b) e))))
      (exact.kept q h));
  stops = λ any. rw (c.add_to_byteset.ensures.members 127, c.loop-look.invariant.stops any) refl;
}

pub returns-clause-keeps : goal.returns-clause-keeps
returns-clause-keeps g c =
    subst (λ ls. Keeps (sets.contains c.loop-look.set) ls c.args.matcher.now.0 (g.W.WordClass.word_chars c.args.matcher.now.1))
    (take_all c.loop-look.look-index c.args.looks.now c.loop-look-test.false)
    (c.loop-look.invariant.keeps (sets.contains c.loop-look.set) (λ b lt e. e))

pub returns-clause-stops : goal.returns-clause-stops
returns-clause-stops g c = c.loop-look.invariant.stops
