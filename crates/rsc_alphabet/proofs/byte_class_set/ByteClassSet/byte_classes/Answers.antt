use Rattle.std.proofs.Common.{◌∙◌, sym, subst, arith, length-set}
use Rattle.std.specs.FinSet as sets
use Rattle.rsc_alphabet.proofs.Prelude.{LastClassIsGreatest, class_of, class_map-bounded}
use Rattle.rsc_alphabet.proofs.IteratorsLemmas.{class_more}
use Rattle.rsc_alphabet.proofs.PartitionsLemmas.{boundary_below, map_of_counts}
use Rattle.rsc_alphabet.proofs.byte_class_set.ByteClassSet.byte_classes.Goals as goal

pub returns-2-clause-value : goal.returns-2-clause-value
returns-2-clause-value c =
    let l = c.loop-byte in
    rw (← c.self.view_is, c.set.ensures, c.count_below.ensures.value) (map_of_counts c.self.inside.ends _ (length-set l.classes l.byte _ ∙ l.invariant.0)
    (λ b h. class_more (class_of (sets.contains c.self.inside.ends)) l.classes l.byte l.invariant.0 l.invariant.1 (omega arith) b (omega (arith, h))))

pub returns-2-clause-most : goal.returns-2-clause-most
returns-2-clause-most c = rw (← c.self.view_is) (boundary_below c.self.inside.ends c.count_below.ensures.most)

pub returns-2-clause-bounded : goal.returns-2-clause-bounded
returns-2-clause-bounded c = subst LastClassIsGreatest (sym (returns-2-clause-value c)) (class_map-bounded (sets.contains c.args.self.now))
