use Rattle.std.proofs.Common.{ap, ◌∙◌}
use Rattle.std.specs.FinSet as sets
use Rattle.std.proofs.lemmas.Bool.{or_left, or_right}
use Rattle.rsc_alphabet.specs.Partitions.{class_map}
use Rattle.rsc_alphabet.specs.PartitionsLaws.{contains-joined}
use Rattle.rsc_nfa.specs.Classes.{boundaries_of_states}
use Rattle.rsc_nfa.proofs.ClassesLemmas.{KeepsRuns-from}
use Rattle.rsc_nfa.proofs.NfaLemmas.{HasBoundariesOfStates-joined, parts_neighbours, finer_from}
use Rattle.rsc_nfa.proofs.nfa.Nfa.classes_with.Goals as goal

pub returns-clause-value : goal.returns-clause-value
returns-clause-value g c =
    c.byte_classes.ensures.value
    ∙ ap (λ s. class_map (sets.contains s)) (c.union.ensures.value ∙ ap (λ s. sets.union s c.args.more.now) c.boundaries-joined.ensures.value)

pub returns-clause-parted : goal.returns-clause-parted
returns-clause-parted g c = λ b l at_boundary.
    parts_neighbours _ c.byte_classes.result b (c.one_class_is_together.ensures _) (returns-clause-value g c) l
    (contains-joined (boundaries_of_states c.args.self.now.states c.args.self.now.matcher.0) c.args.more.now b ∙ or_right _ _ at_boundary)

pub returns-clause-finer : goal.returns-clause-finer
returns-clause-finer g c =
    finer_from _ _ c.byte_classes.result (c.one_class_is_together.ensures _) (c.one_class_is_together.ensures _) (returns-clause-value g c)
    (λ k at_boundary. contains-joined (boundaries_of_states c.args.self.now.states c.args.self.now.matcher.0) c.args.more.now k ∙ or_left _ _ at_boundary)

pub returns-clause-keeps_runs : goal.returns-clause-keeps_runs
returns-clause-keeps_runs g c = λ a.
    KeepsRuns-from _ c.args.self.now.states c.args.self.now.matcher.0 (g.W.WordClass.word_chars c.args.self.now.matcher.1)
    (c.boundaries_part_a_range.ensures.together _)
    (λ l. c.boundaries_are_exact.ensures l _ _) (HasBoundariesOfStates-joined c.args.self.now.states c.args.self.now.matcher.0 c.args.more.now) a
    c.byte_classes.result (c.one_class_is_together.ensures _) (returns-clause-value g c)
