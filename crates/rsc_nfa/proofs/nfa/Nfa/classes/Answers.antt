use Rattle.std.proofs.Common.{true≢false, sym, ap, ◌∙◌}
use Rattle.std.specs.FinSet as sets
use Rattle.rsc_alphabet.specs.Partitions.{class_map}
use Rattle.rsc_nfa.proofs.ClassesLemmas.{KeepsRuns-from, HasBoundariesOfStates-from, IsEachBoundaryNeeded-from, HasNoSpareBoundary-from}
use Rattle.rsc_nfa.proofs.nfa.Nfa.classes.Goals as goal

pub returns-clause-value : goal.returns-clause-value
returns-clause-value g c = c.byte_classes.ensures.value ∙ ap (λ s. class_map (sets.contains s)) c.boundaries-set.ensures.value

pub returns-clause-keeps_runs : goal.returns-clause-keeps_runs
returns-clause-keeps_runs g c = λ a.
    KeepsRuns-from _ c.args.self.now.states c.args.self.now.matcher.0 (g.W.WordClass.word_chars c.args.self.now.matcher.1)
    (c.boundaries_part_a_range.ensures.together _)
    (λ l. c.boundaries_are_exact.ensures l _ _) (HasBoundariesOfStates-from c.args.self.now.states c.args.self.now.matcher.0) a c.byte_classes.result
    (c.one_class_is_together.ensures _) (returns-clause-value g c)

pub returns-clause-needed : goal.returns-clause-needed
returns-clause-needed g c = λ a.
    IsEachBoundaryNeeded-from c.args.self.now.groups c.args.self.now.states c.args.self.now.matcher.0 (g.W.WordClass.word_chars c.args.self.now.matcher.1)
    c.byte_classes.result c.boundaries_part_a_range.ensures.boundary
    (λ l. c.boundaries_are_exact.ensures l _ _) c.boundaries-set.ensures.faultless a (c.one_class_is_together.ensures _)
    -- not by the clause above, so that a body that breaks both is refused here too
    (c.byte_classes.ensures.value ∙ ap (λ s. class_map (sets.contains s)) c.boundaries-set.ensures.value)

pub returns-clause-no_spare_boundary : goal.returns-clause-no_spare_boundary
returns-clause-no_spare_boundary g c = λ none. HasNoSpareBoundary-from _ _ _ _ (returns-clause-needed g c (λ some. absurd (true≢false (sym some ∙ none))))
