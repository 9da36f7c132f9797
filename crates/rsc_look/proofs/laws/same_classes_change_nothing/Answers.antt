use Rattle.rsc_look.proofs.KeepingLemmas.{AreInterchanged-from_classes}
use Rattle.rsc_look.proofs.laws.same_classes_change_nothing.Goals as goal

pub returns-clause-bytes : goal.returns-clause-bytes
returns-clause-bytes c = λ m looks t W is l listed plain h k first second len same.
    is.coarsest.keeps.at_bytes l listed plain h k (AreInterchanged-from_classes m is.boundaries h k c.one_class_is_together.ensures is.classes first second len
    same)
