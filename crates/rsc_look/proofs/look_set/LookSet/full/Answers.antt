use Rattle.rsc_look.proofs.LookSetLayoutLemmas.{looks_of_all, contains_looks_of_all}
use Rattle.rsc_look.proofs.look_set.LookSet.full.Goals as goal

pub returns : goal.returns
returns c = record { value = looks_of_all; members = contains_looks_of_all }
