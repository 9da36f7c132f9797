-- The definitions of `specs/` that most proofs cite, passed on by one file. Declares nothing.
pub use Rattle.rsc_captures.specs.Captured.{Captured, group_span, matched_group_count, participating_spans, all_some, pieces, span_at, matched_spans}
pub use Rattle.rsc_captures.specs.CapturedLayout.{participating_from, spans_from}
pub use Rattle.rsc_primitives.specs.Indices.{max_index}
pub use Rattle.rsc_captures.specs.Faults.{Duplicate, TooManyPatterns, MissingGroups, TooManyGroups, pattern_fault, name_fault, explicit_fault, group_fault, IsFaultless, Fault, ComesBefore, IsChecked, slots_end, IsFirstFault, FirstIsDuplicate, IsRefusal}
pub use Rattle.rsc_captures.specs.FaultsLayout.{HasNoOtherBefore, HasNoOtherFault, IsFirstOther}
pub use Rattle.rsc_captures.specs.Groups.{Groups, groups_in, GroupLists, groups_of, group_count, name_of, stands_before, explicit_groups, explicit_before, all_group_count, has_name, index_of, slot_number, slot_of, lists_in}
pub use Rattle.rsc_captures.specs.SharedListsLayout.{groups_before, AreFirsts, IsAt, names_of, lists_held, AreOrdered, IsLayout}
pub use Rattle.rsc_captures.specs.NameIterators.{groups_from, patterns_from, all_names_of, names_left}
pub use Rattle.rsc_captures.specs.NamesLayout.{name_held, names_held, entry_held, IsCut, AreCut, AreHeld}
pub use Rattle.rsc_captures.specs.OrderLayout.{name_at, name_cmp, IsOrder, named_cmp, group_with_name, IsSortedByName}
pub use Rattle.rsc_captures.specs.RepeatsLayout.{is_repeat, AreDistinctBelow, HaveDifferentNames, IsFirstNotLess, HasNoRepeatBefore, IsFirstRepeatBefore}
pub use Rattle.rsc_captures.specs.SlotOwners.{IsSlotOf, IsOwned}
pub use Rattle.rsc_captures.specs.declared.names.Entry.{Entry}
pub use Rattle.rsc_captures.specs.declared.names.TheConstants.{NO_NAME}
pub use Rattle.rsc_search.specs.declared.span.Span.{Span}
