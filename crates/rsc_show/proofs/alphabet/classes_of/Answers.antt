use Rattle.std.specs.FinSet as sets
use Rattle.rsc_show.specs.Chosen.{chosen_word_chars}
use Rattle.rsc_show.proofs.RangesLemmas.{coarsest_map, coarsest_parting}
use Rattle.rsc_show.proofs.alphabet.classes_of.Goals as goal

pub returns-clause-parting : goal.returns-clause-parting
returns-clause-parting c =
    rw c.byte_classes.ensures.value
    (coarsest_parting (sets.contains c.alphabet_of.result) c.args.ranges.now c.args.looks.now c.args.matcher.now.0 (chosen_word_chars c.args.matcher.now.1)
    (λ l. c.boundaries_are_exact.ensures l _ _ (λ _. c.word_predicates_agree.ensures c.args.matcher.now.1))
    c.alphabet_of.ensures.keeps c.alphabet_of.ensures.parts
    c.alphabet_of.ensures.only)

pub returns-clause-coarsest : goal.returns-clause-coarsest
returns-clause-coarsest c = λ none.
    rw c.byte_classes.ensures.value
    (coarsest_map (sets.contains c.alphabet_of.result) c.args.ranges.now c.args.looks.now c.args.matcher.now.0 (chosen_word_chars c.args.matcher.now.1)
    (λ l. c.boundaries_are_exact.ensures l _ _ (λ _. c.word_predicates_agree.ensures c.args.matcher.now.1))
    c.alphabet_of.ensures.keeps c.alphabet_of.ensures.parts
    c.alphabet_of.ensures.only none)
