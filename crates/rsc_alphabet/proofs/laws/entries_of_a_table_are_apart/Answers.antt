use Rattle.rsc_alphabet.proofs.IteratorsLemmas.{class_is_column, entry_below, same_entry}
use Rattle.rsc_alphabet.proofs.laws.entries_of_a_table_are_apart.Goals as goal

pub returns : goal.returns
returns c = record { column = class_is_column; within = entry_below; distinct = same_entry }
