use Rattle.rsc_alphabet.proofs.IteratorsLemmas.{class_represented, end_given, only_bytes_and_the_end}
use Rattle.rsc_alphabet.proofs.laws.each_class_is_represented.Goals as goal

pub returns : goal.returns
returns c = record { reached = class_represented; end = end_given; only = only_bytes_and_the_end }
